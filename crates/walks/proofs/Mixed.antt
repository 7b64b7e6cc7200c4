-- Slices and plain parameters in any order, for a walk by hand. It says nothing of any crate.
--     Part, at, as-ref, as-shared      a slice as a walk was lent it: where it is, whose, and its list; its machine value; and what its parameter is: a `&mut [T]`, at any list, and a `&[T]`
--     part_of                  the same of a parameter
--     mut, shr, ended          it as a `&mut [T]`, as a `&[T]`, and given up at its last list, each with its token
--     same_at, same-room       what is said of the machine value holds of any list that is as long
--     Param, slices            a parameter: a slice, or a plain one; and the slices of a list
--     takes_all, hands-all, leaves_all     `Handing.antt`'s `takes`, `hands` and `leaves`
--     none_of                  after a call, for each parameter that is no `&mut [T]`: nothing is said of it
-- Assumes `Logic`.
use mathlib.Core.Path.{◌≡◌, sym, ap, subst}
use Prim.Native.Nat.{ℕ}
use mathlib.Core.List.{List, [], ◌∷◌, ◌++◌}
use lib.ListN.{length}
use seplogic.Ra.Ura.{Ura}
use mir.Syntax.{Lifetime}
use mir.Val.{Val}
use base.Logic.{ent, sep, via, emp, emp∗, fst∗, mono_r}
use base.Fml.{Lft, GName, Share, Fml, ftrue, fsep, flft}
use types.Logic.{Logic, sem}
use types.Kit.{Item, ‵, raw, ◌⊛◌, ⋆, push, pop, Goal, prop, Seq, Step, step, ◌$◌, ◌∵◌, !, qed, by, cut, move, group, drop, use0, use1, split, join, fsplit, fjoin, frame, done}
use denote.RattleType.{RattleType}
use denote.Ref.{Bor, MutBor}
use denote.Slice.{slice_val, MutSlice, ShrSlice, Room, finally}
use Rattle.walks.proofs.Calling.{ref}
use Rattle.walks.proofs.Handing.{Arg, Lent, lent, items, alive}

-- ---- slices
pub record Part (R : RattleType) : Type 0 where
  pub κ : Lft
  pub q : Share
  pub γ : GName
  pub b : ℕ
  pub o : ℕ
  pub xs : List R.Denot
  pub room : Room R (length xs)

module _ {R : RattleType} where
  abbrev pub part_of : Lft → Share → (x : MutBor (List R.Denot)) → Room R (length x.now) → Part R
  part_of κ q x room = record { κ = κ; q = q; γ = x.ghost_name; b = x.ref_ptr.0; o = x.ref_ptr.1; xs = x.now; room = room }

  module _ (p : Part R) where
    abbrev pub at : Val
    at = slice_val (p.b, p.o) (length p.xs)

    abbrev pub as-ref : List R.Denot → MutBor (List R.Denot)
    as-ref zs = ref p.γ p.b p.o zs

    abbrev pub as-shared : Bor (List R.Denot)
    as-shared = record { ref_ptr = (p.b, p.o); now = p.xs }

    abbrev pub mut : Lifetime → List R.Denot → Lent
    mut ℓ zs = lent p.κ p.q ((MutSlice ℓ p.κ R).own_val (as-ref zs) (at ∷ []))

    abbrev pub shr : Lifetime → Lent
    shr ℓ = lent p.κ p.q ((ShrSlice ℓ p.κ R).own_val as-shared (at ∷ []))

    abbrev pub ended : List R.Denot → Lent
    ended zs = lent p.κ p.q (finally R p.γ zs)

    module _ (zs : List R.Denot) (e : length zs ≡ length p.xs) where
      pub same_at : at ∷ [] ≡ slice_val (p.b, p.o) (length zs) ∷ []
      same_at = ap (λ (n : ℕ). slice_val (p.b, p.o) n ∷ []) (sym e)

      pub same-room : Room R (length zs)
      same-room = subst (Room R) (sym e) p.room

-- ---- parameters
pub data Param : Type 2 where
  lends : Lent → Param
  passes : Arg → Param

abbrev pub slices : List Param → List Lent
slices [] = []
slices (lends x ∷ ps) = x ∷ slices ps
slices (passes x ∷ ps) = slices ps

abbrev pub owned-all : List Param → Fml
owned-all [] = ftrue
owned-all (lends x ∷ ps) = fsep x.own (owned-all ps)
owned-all (passes x ∷ ps) = fsep (x.E.R.own_val x.d (x.E.val x.d ∷ [])) (owned-all ps)

module _ {M : Type 1} {𝓤 : Ura M} (𝓛 : Logic 𝓤) where
  open 𝓛 use {H, A}

  gathers-all : (ps : List Param) → ent 𝓤 (⋆ 𝓛 (items (slices ps))) (sep 𝓤 (alive 𝓛 (slices ps)) (sem 𝓛 (owned-all ps)))
  gathers-all [] = emp∗ 𝓤 (emp 𝓤)
  gathers-all (lends x ∷ ps) =
      via 𝓤 (sep 𝓤 (sem 𝓛 x.own) (⋆ 𝓛 (‵ (flft x.κ x.q) ∷ items (slices ps)))) (pop 𝓛 (‵ x.own) (‵ (flft x.κ x.q) ∷ items (slices ps)))
      (via 𝓤 (sep 𝓤 (sem 𝓛 x.own) (sep 𝓤 (A.lft x.κ x.q) (⋆ 𝓛 (items (slices ps))))) (mono_r 𝓤 (sem 𝓛 x.own) (pop 𝓛 (‵ (flft x.κ x.q)) (items (slices ps))))
      (qed 𝓛 (‵ x.own ∷ ‵ (flft x.κ x.q) ∷ raw (⋆ 𝓛 (items (slices ps))) ∷ []) ∵ move ! (2 ∷ []) $ use1 𝓛 (raw (alive 𝓛 (slices ps)) ⊛ ‵ (owned-all ps)) (gathers-all ps) $
      split ! $ move ! (3 ∷ 0 ∷ []) $ join ! $ frame ! $ move ! (1 ∷ 0 ∷ []) $ fjoin ! $ done !))
  gathers-all (passes x ∷ ps) =
      qed 𝓛 (raw (⋆ 𝓛 (items (slices ps))) ∷ []) ∵ use1 𝓛 (raw (alive 𝓛 (slices ps)) ⊛ ‵ (owned-all ps)) (gathers-all ps) $ split ! $ frame ! $
      use0 𝓛 (‵ (x.E.R.own_val x.d (x.E.val x.d ∷ []))) (x.E.makes 𝓛 x.d (x.E.val x.d ∷ []) x.is) $ fjoin ! $ done !

  scatters-all : (ps : List Param) → ent 𝓤 (sep 𝓤 (alive 𝓛 (slices ps)) (sem 𝓛 (owned-all ps))) (⋆ 𝓛 (items (slices ps)))
  scatters-all [] = fst∗ 𝓤 (emp 𝓤) (emp 𝓤)
  scatters-all (lends x ∷ ps) =
      qed 𝓛 ((‵ (flft x.κ x.q) ⊛ raw (alive 𝓛 (slices ps))) ∷ ‵ (fsep x.own (owned-all ps)) ∷ []) ∵ split ! $ move ! (2 ∷ []) $ fsplit ! $ move ! (0 ∷ 2 ∷ 3 ∷ 1 ∷ []) $
      group ! 4 $ by ! (via 𝓤 (sep 𝓤 (sem 𝓛 x.own) (sep 𝓤 (A.lft x.κ x.q) (⋆ 𝓛 (items (slices ps)))))
      (mono_r 𝓤 (sem 𝓛 x.own) (mono_r 𝓤 (A.lft x.κ x.q) (scatters-all ps)))
      (via 𝓤 (sep 𝓤 (sem 𝓛 x.own) (⋆ 𝓛 (‵ (flft x.κ x.q) ∷ items (slices ps)))) (mono_r 𝓤 (sem 𝓛 x.own) (push 𝓛 (‵ (flft x.κ x.q)) (items (slices ps))))
      (push 𝓛 (‵ x.own) (‵ (flft x.κ x.q) ∷ items (slices ps)))))
  scatters-all (passes x ∷ ps) =
      qed 𝓛 (raw (alive 𝓛 (slices ps)) ∷ ‵ (fsep (x.E.R.own_val x.d (x.E.val x.d ∷ [])) (owned-all ps)) ∷ []) ∵ move ! (1 ∷ []) $ fsplit ! $ drop ! $ move ! (1 ∷ 0 ∷ []) $
      group ! 2 $ by ! (scatters-all ps)

  pub takes_all : {K : Type 0} {Γ : List (Item 𝓤)} {G : Goal 𝓤 H} (ps : List Param) → Step K 𝓛 (items (slices ps) ++ Γ) G (raw (alive 𝓛 (slices ps)) ∷ ‵ (owned-all ps) ∷ Γ) G
  takes_all {Γ = Γ} ps = cut (raw (alive 𝓛 (slices ps)) ∷ ‵ (owned-all ps) ∷ []) (items (slices ps)) Γ (scatters-all ps)

module _ {M : Type 1} {𝓤 : Ura M} {𝓛 : Logic 𝓤} {K : Type 0} where
  open 𝓛 use {H}

  pub hands-all : K → (ps : List Param) → Seq K 𝓛 (items (slices ps)) (prop (sep 𝓤 (alive 𝓛 (slices ps)) (sem 𝓛 (owned-all ps))))
  hands-all t ps = record { prf = gathers-all 𝓛 ps }

  pub leaves_all : K → (ps : List Param) (r : Arg) → Seq K 𝓛 (items (slices ps)) (prop (sep 𝓤 (alive 𝓛 (slices ps)) (sep 𝓤 (sem 𝓛 (owned-all ps)) (sem 𝓛 (r.E.R.own_val r.d (r.E.val r.d ∷ []))))))
  leaves_all t ps r = record {
    prf = via 𝓤 _ (gathers-all 𝓛 ps) (mono_r 𝓤 (alive 𝓛 (slices ps))
        (qed 𝓛 (‵ (owned-all ps) ∷ []) ∵ frame ! $ use0 𝓛 (‵ (r.E.R.own_val r.d (r.E.val r.d ∷ []))) (r.E.makes 𝓛 r.d (r.E.val r.d ∷ []) r.is) $ done !));
  }

  pub none_of : K → {Γ : List (Item 𝓤)} {G : Goal 𝓤 H} {F P : Fml} → Step K 𝓛 (‵ P ∷ Γ) G (‵ (fsep F P) ∷ Γ) G
  none_of t = step (λ s. fsplit t $ drop t $ s)
