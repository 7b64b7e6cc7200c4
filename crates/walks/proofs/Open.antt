-- The elements of a slice reference that a walk by hand has opened: while it is open, an element, or a field of one, is read and written as a local is. It says nothing of any crate.
--     Elem             what a walk wants of an element type: one machine value, which the relation tells, what it owns is plain facts. `Handing.antt` makes it of a declared type
--     AllIs ys         each element is what its type says. all-at, all_set      of one element, and after a store
--     opened, closed   a `&κ mut [T]` and κ's token are opened: [the row of elements; `Open`]. It is closed at any list that is as long
--     looked, shut     the same for a `&κ [T]`, `shared`, of a T that can be copied: [a share of the row; `Look`]
--     Sees, seen       a cell is in the context, and can be put back. elem: element i of a row. part: a field of what is seen.      seen makes it `Types/Run.antt`'s `Reads`
--     to-elem          a value is stored at element i of a row, whole (`Types/Run.antt`'s `Writes`): the row is then `set ys i y`
-- The lemmas assume `Logic`.
use mathlib.Core.Path.{◌≡◌, refl, sym, ap, subst}
use Prim.Native.Nat.{ℕ, zero, suc, ◌+◌, ◌*◌, ◌<◌}
use native.Mathlib.Nat.{not-suc-le-zero, le_of_suc-le-suc}
use mathlib.Core.List.{List, [], ◌∷◌}
use mathlib.Core.Option.{some}
use lib.Dec.{T}
use lib.ListN.{length, get_or, set}
use seplogic.Ra.Ura.{Ura}
use base.Fraction.{full_share}
use mir.Syntax.{Sym, Ty, Tys, ty_struct, Lifetime}
use mir.Val.{Val, Vals, vstruct, WT, has_ty}
use mir.Fields.{get_v, set_v, set_v-get_v}
use base.Logic.{SProp, ent, sep, wand, ex, all, via, mono_r, comm∗, wand_i, apply∗, ex_i, all_e, ex_e, guard_i, snd∗}
use base.Fml.{Lft, GName, Share, Fml, fsep, fat, flft, fobs, fauth, fobor, froom}
use prog.Memory.{field_at}
use types.Logic.{Logic, sem}
use contract.Monad.{fact, fact_i, fact_use, sep→conj}
use types.Kit.{Item, ‵, raw, ◌⊛◌, given, mean, ⋆, nth, del, put, pull, unpull, fill, Goal, Soaks, Seq, Step, step, ◌$◌, ◌∵◌, !, qed, by, move, drop, use1, use2, split, join, learn, rewrite, fsplit, fjoin, assume, frame}
use types.Run.{Reads, Writes}
use denote.RattleType.{RattleType}
use denote.Shadow.{pure_l, pure_i}
use denote.Laws.{Is, Tells, Makes, Copy, shows, both_say}
use denote.Memory.{mem, cell_at, part_at, part_of}
use denote.Ref.{Bor, MutBor}
use denote.Copied.{Copied}
use denote.Opens.{Shut}
use denote.Slice.{slice_val, MutSlice, ShrSlice, Room, heres, coded_holeys, mut_slice_at, shr_slice_at}
use denote.Lend.{Held}
use denote.Index.{place, place_is, row, elem_out, elem_back, elem_put, opens_slice, closes_slice, looks_slice, shuts_slice}
use denote.Steps.{owned}

pub record Elem : Type 2 where
  pub R : RattleType
  pub τ : Ty
  pub val : R.Denot → Val
  pub mir_is : R.mir ≡ τ ∷ []
  pub tells : Tells R (Is R) (λ d. val d ∷ [])
  pub makes : {M : Type 1} {𝓤 : Ura M} (𝓛 : Logic 𝓤) → Makes 𝓛 R (Is R)
  pub copy : {M : Type 1} {𝓤 : Ura M} (𝓛 : Logic 𝓤) → Copy 𝓛 R
  pub copied : {M : Type 1} {𝓤 : Ura M} (𝓛 : Logic 𝓤) → Copied 𝓛 R
  pub lawful : {M : Type 1} {𝓤 : Ura M} (𝓛 : Logic 𝓤) → (d : R.Denot) → Is R d (val d ∷ []) → T (has_ty τ (val d)) × WT (val d)

module _ (E : Elem) where
  abbrev D : Type 0
  D = E.R.Denot

  abbrev vals : D → List Val
  vals d = E.val d ∷ []

  abbrev pub AllIs : List D → Type 0
  AllIs [] = Unit {0}
  AllIs (y ∷ ys) = Is E.R y (vals y) × AllIs ys

  pub all-at : (ys : List D) → AllIs ys → (i : ℕ) (d : D) → i < length ys → Is E.R (get_or ys i d) (vals (get_or ys i d))
  all-at [] g i d l = absurd (not-suc-le-zero l)
  all-at (y ∷ ys) g zero d l = g.0
  all-at (y ∷ ys) g (suc i) d l = all-at ys g.1 i d (le_of_suc-le-suc l)

  pub all_set : (ys : List D) → AllIs ys → (i : ℕ) (y : D) → Is E.R y (vals y) → AllIs (set ys i y)
  all_set [] g i y h = g
  all_set (x ∷ ys) g zero y h = (h, g.1)
  all_set (x ∷ ys) g (suc i) y h = (g.0, all_set ys g.1 i y h)

  -- the bytes from the start of the slice's block to element i
  abbrev pub spot : ℕ → ℕ → ℕ
  spot o i = i * (mem E.R).size + o

  -- what the holder of an open `&κ mut [T]` has beside the row
  abbrev pub Open : Lft → Share → GName → ℕ → ℕ → List D → Fml
  Open κ q γ b o ys = fsep (fobor κ q (Held E.R (length ys) b o γ)) (fsep (fobs γ ((coded_holeys E.R).code (heres E.R ys))) (fauth γ ((coded_holeys E.R).code (heres E.R ys))))

  abbrev pub slice : GName → ℕ → ℕ → List D → MutBor (List D)
  slice γ b o ys = record { ref_ptr = (b, o); ghost_name = γ; now = ys }

  abbrev pub shared : ℕ → ℕ → List D → Bor (List D)
  shared b o ys = record { ref_ptr = (b, o); now = ys }

  -- what the holder of a `&κ [T]` that is looked into has beside the share q' of the row
  abbrev pub Look : {M : Type 1} {𝓤 : Ura M} → Logic 𝓤 → Lifetime → Lft → Share → ℕ → ℕ → List D → Share → Item 𝓤
  Look 𝓛 ℓ κ q b o ys q' = Shut 𝓛 κ q (row E.R q' ys b o) ⊛ ‵ ((ShrSlice ℓ κ E.R).own_val (shared b o ys) (slice_val (b, o) (length ys) ∷ []))

module _ {M : Type 1} {𝓤 : Ura M} (𝓛 : Logic 𝓤) (E : Elem) where
  open 𝓛 use {H}

  pub cell_out : (q : Share) (v : Val) (b o : ℕ) → ent 𝓤 (sem 𝓛 (cell_at q E.R.mir (v ∷ []) b o)) (H.at q E.τ b o v)
  cell_out q v b o = subst (λ (τs : List Ty). ent 𝓤 (sem 𝓛 (cell_at q τs (v ∷ []) b o)) (H.at q E.τ b o v)) (sym E.mir_is) (𝓛.laws.raw_at q E.τ b o v)

  pub cell_in : (q : Share) (v : Val) (b o : ℕ) → ent 𝓤 (H.at q E.τ b o v) (sem 𝓛 (cell_at q E.R.mir (v ∷ []) b o))
  cell_in q v b o = subst (λ (τs : List Ty). ent 𝓤 (H.at q E.τ b o v) (sem 𝓛 (cell_at q τs (v ∷ []) b o))) (sym E.mir_is) (𝓛.laws.at_raw q E.τ b o v)

  one-is : (q : Share) (y : E.R.Denot) (b o : ℕ) → ent 𝓤 (sem 𝓛 (part_at E.R q y b o)) (fact 𝓤 (Is E.R y (E.val y ∷ [])))
  unfolding part_of
  one-is q y b o = ex_e 𝓤 _ (λ vs. fact_use 𝓤 (Is E.R y vs) (via 𝓤 (sem 𝓛 (E.R.own_val y vs)) (snd∗ 𝓤 (sem 𝓛 (cell_at q E.R.mir vs b o)) (sem 𝓛 (E.R.own_val y vs))) (shows 𝓛 E.R y vs)) (λ p. fact_i 𝓤 (Is E.R y (E.val y ∷ [])) _ (subst (Is E.R y) (E.tells y vs p) p)))

  -- each element is what its type says
  pub rows_are : (q : Share) (ys : List E.R.Denot) (b o : ℕ) → ent 𝓤 (sem 𝓛 (row E.R q ys b o)) (fact 𝓤 (AllIs E ys))
  rows_are q [] b o = fact_i 𝓤 (Unit {0}) _ tt
  rows_are q (y ∷ ys) b o = via 𝓤 _ (sep→conj 𝓤 (sem 𝓛 (part_at E.R q y b o)) (sem 𝓛 (row E.R q ys b (o + (mem E.R).size)))) (both_say 𝓛 (Is E.R y (E.val y ∷ [])) (AllIs E ys) (one-is q y b o) (rows_are q ys b (o + (mem E.R).size)))

-- a share of a cell is in the context, and the context is whole again once it is put back
pub record Sees {M : Type 1} {𝓤 : Ura M} (K : Type 0) (𝓛 : Logic 𝓤) (Γ : List (Item 𝓤)) (q : Share) (τ : Ty) (b o : ℕ) (v : Val) : Type 2 where
  pub out : ent 𝓤 (⋆ 𝓛 Γ) (sep 𝓤 (𝓛.H.at q τ b o v) (wand 𝓤 (𝓛.H.at q τ b o v) (⋆ 𝓛 Γ)))

module _ {M : Type 1} {𝓤 : Ura M} {𝓛 : Logic 𝓤} {K : Type 0} {Γ : List (Item 𝓤)} where
  open 𝓛 use {H}

  pub seen : K → {q : Share} {τ : Ty} {b o : ℕ} {v : Val} → Sees K 𝓛 Γ q τ b o v → Reads K 𝓛 Γ τ b o v
  seen t {q} {τ} {b} {o} {v} s = record {
    go = λ Kt h.
        via 𝓤 (sep 𝓤 (H.at q τ b o v) (wand 𝓤 (H.at q τ b o v) (Kt v)))
        (via 𝓤 (sep 𝓤 (H.at q τ b o v) (wand 𝓤 (H.at q τ b o v) (⋆ 𝓛 Γ))) s.out
        (mono_r 𝓤 (H.at q τ b o v) (wand_i 𝓤 (wand 𝓤 (H.at q τ b o v) (⋆ 𝓛 Γ)) (H.at q τ b o v) (Kt v)
        (via 𝓤 (sep 𝓤 (H.at q τ b o v) (wand 𝓤 (H.at q τ b o v) (⋆ 𝓛 Γ))) (comm∗ 𝓤 (wand 𝓤 (H.at q τ b o v) (⋆ 𝓛 Γ)) (H.at q τ b o v)) (via 𝓤 (⋆ 𝓛 Γ) (apply∗ 𝓤 (H.at q τ b o v) (⋆ 𝓛 Γ)) h)))))
        (via 𝓤 (ex 𝓤 (λ (u : Val). sep 𝓤 (H.at q τ b o u) (wand 𝓤 (H.at q τ b o u) (Kt u))))
        (ex_i 𝓤 (λ (u : Val). sep 𝓤 (H.at q τ b o u) (wand 𝓤 (H.at q τ b o u) (Kt u))) v)
        (ex_i 𝓤 (λ (r : Share). ex 𝓤 (λ (u : Val). sep 𝓤 (H.at r τ b o u) (wand 𝓤 (H.at r τ b o u) (Kt u)))) q));
  }

  -- field k of what is seen
  pub part : K → {q : Share} {ν : Sym} {τs : Tys} {b o : ℕ} {vs : Vals} (k : ℕ) {τ : Ty} {d : ℕ} → field_at zero τs k ≡ some (τ, d) → Sees K 𝓛 Γ q (ty_struct ν τs) b o (vstruct vs) → Sees K 𝓛 Γ q τ b (o + d) (get_v vs k)
  part t {q} {ν} {τs} {b} {o} {vs} k {τ} {d} e s = record {
    out = via 𝓤 _ s.out (qed 𝓛 (‵ (fat q (ty_struct ν τs) b o (vstruct vs)) ∷ raw (wand 𝓤 (H.at q (ty_struct ν τs) b o (vstruct vs)) (⋆ 𝓛 Γ)) ∷ []) ∵
        use1 𝓛 (‵ (fat q τ b (o + d) (get_v vs k)) ⊛ raw (all 𝓤 Field)) (𝓛.laws.at_field q ν τs k τ d e b o vs) $ split ! $ frame ! $ assume ! (‵ (fat q τ b (o + d) (get_v vs k))) $
        move ! (1 ∷ []) $ use1 𝓛 (raw (Field (get_v vs k))) (all_e 𝓤 Field (get_v vs k)) $ move ! (1 ∷ 0 ∷ []) $
        use2 𝓛 (‵ (fat q (ty_struct ν τs) b o (vstruct (set_v vs k (get_v vs k))))) (apply∗ 𝓤 (H.at q τ b (o + d) (get_v vs k)) (H.at q (ty_struct ν τs) b o (vstruct (set_v vs k (get_v vs k))))) $
        rewrite ! 0 (λ (us : Vals). ‵ (fat q (ty_struct ν τs) b o (vstruct us))) (set_v-get_v vs k) refl $
        by ! (apply∗ 𝓤 (H.at q (ty_struct ν τs) b o (vstruct vs)) (⋆ 𝓛 Γ)));
  }
    where
      Field : Val → SProp 𝓤
      Field u = wand 𝓤 (H.at q τ b (o + d) u) (H.at q (ty_struct ν τs) b o (vstruct (set_v vs k u)))

  module _ (E : Elem) where
    elem_at : K → (n : ℕ) {q : Share} (ys : List E.R.Denot) (i : ℕ) (d : E.R.Denot) (b o : ℕ) → nth 𝓛 n Γ ≡ ‵ (row E.R q ys b o) → i < length ys
        → Sees K 𝓛 Γ q E.τ b (place (mem E.R).size o i) (E.val (get_or ys i d))
    elem_at t n {q} ys i d b o e l = record {
      out = via 𝓤 (sep 𝓤 (sem 𝓛 (row E.R q ys b o)) (⋆ 𝓛 (del 𝓛 n Γ))) (subst (λ (j : Item 𝓤). ent 𝓤 (⋆ 𝓛 Γ) (sep 𝓤 (mean 𝓛 j) (⋆ 𝓛 (del 𝓛 n Γ)))) e (pull 𝓛 n Γ))
          (qed 𝓛 (‵ (row E.R q ys b o) ∷ raw (⋆ 𝓛 (del 𝓛 n Γ)) ∷ []) ∵
          elem_out ! E.R (Is E.R) (shows 𝓛 E.R) (λ y. E.val y ∷ []) E.tells q ys i d b o l (λ g.
          use1 𝓛 (‵ (fat q E.τ b p v)) (cell_out 𝓛 E q v b p) $ frame ! $ assume ! (‵ (fat q E.τ b p v)) $
          use1 𝓛 (‵ (cell_at q E.R.mir (v ∷ []) b p)) (cell_in 𝓛 E q v b p) $ elem_back ! E.R q ys i d (v ∷ []) b o l $
          by ! (subst (λ (j : Item 𝓤). ent 𝓤 (sep 𝓤 (mean 𝓛 j) (⋆ 𝓛 (del 𝓛 n Γ))) (⋆ 𝓛 Γ)) e (unpull 𝓛 n Γ))));
    }
      where
        p : ℕ
        p = place (mem E.R).size o i

        v : Val
        v = E.val (get_or ys i d)

    -- entry n is a row: element i
    pub elem : K → (n : ℕ) {q : Share} (ys : List E.R.Denot) (i : ℕ) (d : E.R.Denot) (b o : ℕ) → nth 𝓛 n Γ ≡ ‵ (row E.R q ys b o) → i < length ys → Sees K 𝓛 Γ q E.τ b (spot E o i) (E.val (get_or ys i d))
    elem t n {q} ys i d b o e l = subst (λ (p : ℕ). Sees K 𝓛 Γ q E.τ b p (E.val (get_or ys i d))) (place_is (mem E.R).size o i) (elem_at t n ys i d b o e l)

    to-elem-at : K → (n : ℕ) (ys : List E.R.Denot) (i : ℕ) (y : E.R.Denot) (b o : ℕ) → nth 𝓛 n Γ ≡ ‵ (row E.R full_share ys b o) → i < length ys → Is E.R y (E.val y ∷ [])
        → Writes K 𝓛 Γ E.τ b (place (mem E.R).size o i) (E.val y) (put 𝓛 n (‵ (row E.R full_share (set ys i y) b o)) Γ)
    to-elem-at t n ys i y b o e l g = record {
      go = λ P h. via 𝓤 (sep 𝓤 (H.room E.τ b p) (wand 𝓤 (H.at full_share E.τ b p v) P))
          (via 𝓤 (sep 𝓤 (sem 𝓛 (row E.R full_share ys b o)) (⋆ 𝓛 (del 𝓛 n Γ))) (subst (λ (j : Item 𝓤). ent 𝓤 (⋆ 𝓛 Γ) (sep 𝓤 (mean 𝓛 j) (⋆ 𝓛 (del 𝓛 n Γ)))) e (pull 𝓛 n Γ))
          (qed 𝓛 (‵ (row E.R full_share ys b o) ∷ raw (⋆ 𝓛 (del 𝓛 n Γ)) ∷ []) ∵
          elem_out ! E.R (Is E.R) (shows 𝓛 E.R) (λ z. E.val z ∷ []) E.tells full_share ys i y b o l (λ g'.
          use1 𝓛 (‵ (fat full_share E.τ b p (E.val (get_or ys i y)))) (cell_out 𝓛 E full_share (E.val (get_or ys i y)) b p) $
          use1 𝓛 (‵ (froom E.τ b p)) (𝓛.laws.at_room E.τ b p (E.val (get_or ys i y))) $ frame ! $ drop ! $
          assume ! (‵ (fat full_share E.τ b p v)) $ use1 𝓛 (‵ (cell_at full_share E.R.mir (v ∷ []) b p)) (cell_in 𝓛 E full_share v b p) $
          owned ! E.R (Is E.R) (E.makes 𝓛) y (v ∷ []) g $ move ! (1 ∷ 0 ∷ []) $ elem_put ! E.R full_share ys i y (v ∷ []) b o l $
          by ! (via 𝓤 (⋆ 𝓛 (put 𝓛 n (‵ (row E.R full_share (set ys i y) b o)) Γ)) (fill 𝓛 n (‵ (row E.R full_share (set ys i y) b o)) Γ) h))))
          (guard_i 𝓤 (T (has_ty E.τ v) × WT v) _ (E.lawful 𝓛 y g));
    }
      where
        p : ℕ
        p = place (mem E.R).size o i

        v : Val
        v = E.val y

    -- entry n is a row, at the whole share: y is stored at element i
    pub to-elem : K → (n : ℕ) (ys : List E.R.Denot) (i : ℕ) (y : E.R.Denot) (b o : ℕ) → nth 𝓛 n Γ ≡ ‵ (row E.R full_share ys b o) → i < length ys → Is E.R y (E.val y ∷ [])
        → Writes K 𝓛 Γ E.τ b (spot E o i) (E.val y) (put 𝓛 n (‵ (row E.R full_share (set ys i y) b o)) Γ)
    to-elem t n ys i y b o e l g = subst (λ (p : ℕ). Writes K 𝓛 Γ E.τ b p (E.val y) (put 𝓛 n (‵ (row E.R full_share (set ys i y) b o)) Γ)) (place_is (mem E.R).size o i) (to-elem-at t n ys i y b o e l g)

    module _ {G : Goal 𝓤 H} where
      pub opened : K → Soaks G → (ℓ : Lifetime) {κ : Lft} {q : Share} (γ : GName) (b o : ℕ) (ys : List E.R.Denot)
          → (AllIs E ys → Seq K 𝓛 (‵ (row E.R full_share ys b o) ∷ ‵ (Open E κ q γ b o ys) ∷ Γ) G)
          → Seq K 𝓛 (‵ ((MutSlice ℓ κ E.R).own_val (slice E γ b o ys) (slice_val (b, o) (length ys) ∷ [])) ∷ ‵ (flft κ q) ∷ Γ) G
      opened t z ℓ γ b o ys k = fsplit t $ drop t $ fsplit t $ opens_slice t z E.R ys b o $
          use1 𝓛 (given (AllIs E ys) (‵ (row E.R full_share ys b o))) (fact_use 𝓤 (AllIs E ys) (rows_are 𝓛 E full_share ys b o) (λ g. guard_i 𝓤 (AllIs E ys) _ g)) $ learn t (λ g.
          move t (2 ∷ 3 ∷ []) $ fjoin t $ move t (2 ∷ 0 ∷ []) $ fjoin t $ move t (1 ∷ 0 ∷ []) $ k g)

      pub closed : K → Soaks G → (ℓ : Lifetime) {κ : Lft} {q : Share} (γ : GName) (b o : ℕ) (ys zs : List E.R.Denot) → length zs ≡ length ys → Room E.R (length ys)
          → Step K 𝓛 (‵ ((MutSlice ℓ κ E.R).own_val (slice E γ b o zs) (slice_val (b, o) (length ys) ∷ [])) ∷ ‵ (flft κ q) ∷ Γ) G (‵ (row E.R full_share zs b o) ∷ ‵ (Open E κ q γ b o ys) ∷ Γ) G
      closed t z ℓ γ b o ys zs e room = step (λ s. move t (1 ∷ []) $ fsplit t $ move t (1 ∷ []) $ fsplit t $ move t (3 ∷ 2 ∷ 0 ∷ 1 ∷ []) $ closes_slice t z E.R ys zs e b o $
          fjoin t $ pure_i t (mut_slice_at E.R (slice E γ b o zs) (slice_val (b, o) (length ys) ∷ [])) (tt, (tt, tt)) (ap (λ (m : ℕ). slice_val (b, o) m ∷ []) (sym e), subst (Room E.R) (sym e) room) $ fjoin t $ s)

      pub looked : K → Soaks G → (ℓ : Lifetime) {κ : Lft} {q : Share} (b o : ℕ) (ys : List E.R.Denot)
          → ((q' : Share) → AllIs E ys → Seq K 𝓛 (‵ (row E.R q' ys b o) ∷ Look E 𝓛 ℓ κ q b o ys q' ∷ Γ) G)
          → Seq K 𝓛 (‵ ((ShrSlice ℓ κ E.R).own_val (shared E b o ys) (slice_val (b, o) (length ys) ∷ [])) ∷ ‵ (flft κ q) ∷ Γ) G
      looked t z ℓ b o ys k = fsplit t $ pure_l t Says (λ p. looks_slice t z E.R (E.copied 𝓛) ys b o (λ q'.
          use1 𝓛 (given (AllIs E ys) (‵ (row E.R q' ys b o))) (fact_use 𝓤 (AllIs E ys) (rows_are 𝓛 E q' ys b o) (λ g. guard_i 𝓤 (AllIs E ys) _ g)) $ learn t (λ g.
          move t (2 ∷ []) $ pure_i t Says (tt, (tt, tt)) p $ fjoin t $ move t (2 ∷ 0 ∷ []) $ join t $ move t (1 ∷ 0 ∷ []) $ k q' g)))
        where
          Says : Fml
          Says = shr_slice_at E.R (shared E b o ys) (slice_val (b, o) (length ys) ∷ [])

      pub shut : K → Soaks G → (ℓ : Lifetime) {κ : Lft} {q : Share} (b o : ℕ) (ys : List E.R.Denot) (q' : Share)
          → Step K 𝓛 (‵ ((ShrSlice ℓ κ E.R).own_val (shared E b o ys) (slice_val (b, o) (length ys) ∷ [])) ∷ ‵ (flft κ q) ∷ Γ) G (‵ (row E.R q' ys b o) ∷ Look E 𝓛 ℓ κ q b o ys q' ∷ Γ) G
      shut t z ℓ b o ys q' = step (λ s. move t (1 ∷ []) $ split t $ move t (2 ∷ 0 ∷ []) $ shuts_slice t z E.R q' ys b o $ move t (1 ∷ 0 ∷ []) $ s)
