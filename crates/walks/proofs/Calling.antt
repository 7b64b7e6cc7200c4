-- Steps for a walk by hand that calls functions. They say nothing of any crate.
--     calls-fn         a call, with the callee's `post` taken apart: [what it ensures; what is said of last values; the result; the tokens; the rest]
--     calls-fn-last    the same of a call that is the last statement of its part, as of a loop's body
--     calls-one        from one instance of the callee's contract, as in a recursion
--     gives_up         a `&mut [T]` that is still owned is given up, at its last list: what an early return has, in a function that passes the slice on for good on its other way (`gave_slice`)
--     lend-shared      a `&κ mut [T]` that is used again is lent as a `&κ' [T]`, for a lifetime κ' of the call.       back-shared     once κ' is over it is back, as it was
--     lend-again, back-again       the same of a `&κ mut [T]` that is lent as a `&κ' mut [T]`: it is back at the last list that the callee says. At any T, and at whatever machine value it stands
-- A `&mut [T]` that is not used again goes to the callee as it is.
-- Assumes `Logic`.
use mathlib.Core.Path.{◌≡◌, refl, sym, ◌∙◌, ap, subst}
use Prim.Native.Nat.{ℕ}
use mathlib.Core.List.{List, [], ◌∷◌}
use lib.ListN.{length}
use seplogic.Ra.Ura.{Ura}
use base.Fraction.{full_share}
use mir.Syntax.{Callee, Opd as Operand, Place, Body, seq, call, Lifetime}
use mir.Val.{Val}
use base.Logic.{ent, id⊢}
use base.Fml.{Lft, GName, Share, Fml, fsep, flft, fdead, flent, fobor, fobs, fauth}
use prog.Wp.{Env, Calls, Loops}
use types.Logic.{Logic}
use sound.WpLaws.{FmC}
use types.Kit.{Item, ‵, raw, ◌⊛◌, some, later, Post, Goal, Soaks, runs, lands, settles, Seq, Step, step, ◌$◌, move, drop, use1, use3, split, pick, fsplit, fjoin, await}
use types.Run.{Opds}
use types.Tokens.{lent_back, name_done}
use types.SemTy.{cells, Arr}
use denote.RattleType.{RattleType}
use denote.Shadow.{pure_l, pure_i}
use denote.Memory.{mem}
use denote.Ref.{MutBor}
use denote.Copied.{each_lends}
use denote.Opens.{hide}
use denote.Index.{row, whole_out, whole_in, opens_slice, closes_slice}
use denote.Signature.{type_at}
use denote.Slice.{slice_val, MutSlice, ShrSlice, Room, heres, coded_holeys, mut_slice_at, shr_slice_at, elements_shared, finally, res-finally}
use denote.Lend.{Held, lends_slice, slice_back}
use denote.Triple.Entry.{Res, alive}
use denote.Triple.Spec.{triple_of}
use denote.Triple.Statement.{Triple}
use denote.Triple.Call.{calls_from, calls_from_last}
use denote.Triple.Clauses.{Ended, Clauses, closing, Lasts, lasts, at_exit}
use Rattle.walks.proofs.Open.{Elem, Open, slice, shared, opened, closed}

module _ {M : Type 1} {𝓤 : Ura M} {𝓛 : Logic 𝓤} {K : Type 0} {Γ : List (Item 𝓤)} where
  -- a callee's `post`, taken apart
  open 𝓛 use {H}

  parted : K → {G : Goal 𝓤 H} → Soaks G → (T : Ended) (c : Clauses 𝓤 T) (y : (triple_of 𝓛 T.signature (closing 𝓛 T c)).Ghost) (v : Val)
      → ((r : Res T.signature y.0.0) (ws : Lasts T y.0.0 y.0.3)
      → Seq K 𝓛 (raw ((c y.0.0 y.0.3).ensures y.1 r (at_exit T y.0.0 y.0.3 ws)) ∷ ‵ (lasts T y.0.0 y.0.3 ws) ∷ ‵ ((type_at T.signature.result y.0.0).own_val r (v ∷ [])) ∷ raw (alive 𝓛 T.signature y.0.0 y.0.1) ∷ Γ) G)
      → Seq K 𝓛 (raw ((triple_of 𝓛 T.signature (closing 𝓛 T c)).post y v) ∷ Γ) G
  parted t z T c y v k = use1 𝓛 (later (some (λ (r : Res T.signature y.0.0). (raw (alive 𝓛 T.signature y.0.0 y.0.1) ⊛ ‵ ((type_at T.signature.result y.0.0).own_val r (v ∷ [])))
      ⊛ some (λ (ws : Lasts T y.0.0 y.0.3). ‵ (lasts T y.0.0 y.0.3 ws) ⊛ raw ((c y.0.0 y.0.3).ensures y.1 r (at_exit T y.0.0 y.0.3 ws)))))) (id⊢ 𝓤 _) $ await t z $ pick t (λ r.
      split t $ split t $ move t (2 ∷ []) $ pick t (λ ws. split t $ move t (1 ∷ 0 ∷ 3 ∷ 2 ∷ []) $ k r ws))

module _ {M : Type 1} {𝓤 : Ura M} {𝓛 : Logic 𝓤} {K : Type 0} {Γ : List (Item 𝓤)} {E : Env 𝓤 𝓛.H} {C : Calls 𝓤 𝓛.H} {Λ : Loops 𝓤 𝓛.H} {q : Post 𝓤 𝓛.H} where
  -- from one instance of the contract: what a method of a recursion has of its callee
  open 𝓛 use {H}

  pub calls-one : K → FmC 𝓤 H 𝓛.laws C → {f : Callee} {xs : List Operand} {d : Place} {rest : Body} (T : Ended) (c : Clauses 𝓤 T) (y : (triple_of 𝓛 T.signature (closing 𝓛 T c)).Ghost)
      → ent 𝓤 ((triple_of 𝓛 T.signature (closing 𝓛 T c)).pre y) (C f ((triple_of 𝓛 T.signature (closing 𝓛 T c)).args y) ((triple_of 𝓛 T.signature (closing 𝓛 T c)).post y))
      → Opds K 𝓛 (raw ((triple_of 𝓛 T.signature (closing 𝓛 T c)).pre y) ∷ Γ) E xs ((triple_of 𝓛 T.signature (closing 𝓛 T c)).args y)
      → ((v : Val) (r : Res T.signature y.0.0) (ws : Lasts T y.0.0 y.0.3)
      → Seq K 𝓛 (raw ((c y.0.0 y.0.3).ensures y.1 r (at_exit T y.0.0 y.0.3 ws)) ∷ ‵ (lasts T y.0.0 y.0.3 ws) ∷ ‵ ((type_at T.signature.result y.0.0).own_val r (v ∷ [])) ∷ raw (alive 𝓛 T.signature y.0.0 y.0.1) ∷ Γ) (lands C Λ E d v rest q))
      → Seq K 𝓛 (raw ((triple_of 𝓛 T.signature (closing 𝓛 T c)).pre y) ∷ Γ) (runs C Λ E (seq (call f xs d) rest) q)
  calls-one t fm T c y met os k = calls_from t fm (raw ((triple_of 𝓛 T.signature (closing 𝓛 T c)).pre y)) ((triple_of 𝓛 T.signature (closing 𝓛 T c)).args y) ((triple_of 𝓛 T.signature (closing 𝓛 T c)).post y) met os (λ v. parted t tt T c y v (k v))

  pub calls-fn : K → FmC 𝓤 H 𝓛.laws C → {f : Callee} {xs : List Operand} {d : Place} {rest : Body} (T : Ended) (c : Clauses 𝓤 T) → Triple 𝓤 (C f) (triple_of 𝓛 T.signature (closing 𝓛 T c))
      → (y : (triple_of 𝓛 T.signature (closing 𝓛 T c)).Ghost) → Opds K 𝓛 (raw ((triple_of 𝓛 T.signature (closing 𝓛 T c)).pre y) ∷ Γ) E xs ((triple_of 𝓛 T.signature (closing 𝓛 T c)).args y)
      → ((v : Val) (r : Res T.signature y.0.0) (ws : Lasts T y.0.0 y.0.3)
      → Seq K 𝓛 (raw ((c y.0.0 y.0.3).ensures y.1 r (at_exit T y.0.0 y.0.3 ws)) ∷ ‵ (lasts T y.0.0 y.0.3 ws) ∷ ‵ ((type_at T.signature.result y.0.0).own_val r (v ∷ [])) ∷ raw (alive 𝓛 T.signature y.0.0 y.0.1) ∷ Γ) (lands C Λ E d v rest q))
      → Seq K 𝓛 (raw ((triple_of 𝓛 T.signature (closing 𝓛 T c)).pre y) ∷ Γ) (runs C Λ E (seq (call f xs d) rest) q)
  calls-fn t fm T c known y = calls-one t fm T c y (known y)

  pub calls-fn-last : K → FmC 𝓤 H 𝓛.laws C → {f : Callee} {xs : List Operand} {d : Place} (T : Ended) (c : Clauses 𝓤 T) → Triple 𝓤 (C f) (triple_of 𝓛 T.signature (closing 𝓛 T c))
      → (y : (triple_of 𝓛 T.signature (closing 𝓛 T c)).Ghost) → Opds K 𝓛 (raw ((triple_of 𝓛 T.signature (closing 𝓛 T c)).pre y) ∷ Γ) E xs ((triple_of 𝓛 T.signature (closing 𝓛 T c)).args y)
      → ((v : Val) (r : Res T.signature y.0.0) (ws : Lasts T y.0.0 y.0.3)
      → Seq K 𝓛 (raw ((c y.0.0 y.0.3).ensures y.1 r (at_exit T y.0.0 y.0.3 ws)) ∷ ‵ (lasts T y.0.0 y.0.3 ws) ∷ ‵ ((type_at T.signature.result y.0.0).own_val r (v ∷ [])) ∷ raw (alive 𝓛 T.signature y.0.0 y.0.1) ∷ Γ) (settles E d v q))
      → Seq K 𝓛 (raw ((triple_of 𝓛 T.signature (closing 𝓛 T c)).pre y) ∷ Γ) (runs C Λ E (call f xs d) q)
  calls-fn-last t fm T c known y os k = calls_from_last t fm (raw ((triple_of 𝓛 T.signature (closing 𝓛 T c)).pre y)) ((triple_of 𝓛 T.signature (closing 𝓛 T c)).args y) ((triple_of 𝓛 T.signature (closing 𝓛 T c)).post y) (known y) os (λ v. parted t tt T c y v (k v))

-- what the holder keeps while the slice is lent as `&`, for κ'
abbrev pub LentShared : (E : Elem) → Lft → Share → GName → ℕ → ℕ → List E.R.Denot → Lft → Fml
LentShared E κ q γ b o ys κ' = fsep (flent κ' (row E.R full_share ys b o)) (Open E κ q γ b o ys)

module _ (E : Elem) {M : Type 1} {𝓤 : Ura M} {𝓛 : Logic 𝓤} {K : Type 0} {Γ : List (Item 𝓤)} {G : Goal 𝓤 𝓛.H} where
  pub lend-shared : K → Soaks G → (ℓ ℓ' : Lifetime) {κ : Lft} (κ' : Lft) {q : Share} (γ : GName) (b o : ℕ) (ys : List E.R.Denot) → Room E.R (length ys)
      → Seq K 𝓛 (‵ ((ShrSlice ℓ' κ' E.R).own_val (shared E b o ys) (slice_val (b, o) (length ys) ∷ [])) ∷ ‵ (LentShared E κ q γ b o ys κ') ∷ Γ) G
      → Seq K 𝓛 (‵ ((MutSlice ℓ κ E.R).own_val (slice E γ b o ys) (slice_val (b, o) (length ys) ∷ [])) ∷ ‵ (flft κ q) ∷ Γ) G
  lend-shared t z ℓ ℓ' κ' γ b o ys room k = opened E t z ℓ γ b o ys (λ _.
      use1 𝓛 (later (‵ (elements_shared E.R ys b o κ') ⊛ ‵ (flent κ' (row E.R full_share ys b o)))) (each_lends 𝓛 E.R (E.copied 𝓛) full_share ys b o κ') $ await t z $ split t $ hide t $
      pure_i t (shr_slice_at E.R (shared E b o ys) (slice_val (b, o) (length ys) ∷ [])) (tt, (tt, tt)) (refl, room) $ fjoin t $ move t (1 ∷ 2 ∷ []) $ fjoin t $ move t (1 ∷ 0 ∷ []) $ k)

  pub back-shared : K → Soaks G → (ℓ : Lifetime) {κ : Lft} (κ' : Lft) {q : Share} (γ : GName) (b o : ℕ) (ys : List E.R.Denot) → Room E.R (length ys)
      → Step K 𝓛 (‵ ((MutSlice ℓ κ E.R).own_val (slice E γ b o ys) (slice_val (b, o) (length ys) ∷ [])) ∷ ‵ (flft κ q) ∷ Γ) G (‵ (fdead κ') ∷ ‵ (LentShared E κ q γ b o ys κ') ∷ Γ) G
  back-shared t z ℓ κ' γ b o ys room = step (λ s. move t (1 ∷ []) $ fsplit t $ move t (2 ∷ 0 ∷ []) $ lent_back t z $ closed E t z ℓ γ b o ys ys refl room $ s)

-- what the holder keeps while the slice is lent again, for κ' under the name γ'
abbrev pub LentAgain : (R : RattleType) → Lft → Share → GName → ℕ → ℕ → List R.Denot → Lft → GName → Fml
LentAgain R κ q γ b o ys κ' γ' = fsep (flent κ' (Held R (length ys) b o γ')) (fsep (fobor κ q (Held R (length ys) b o γ)) (fsep (fobs γ ((coded_holeys R).code (heres R ys))) (fauth γ ((coded_holeys R).code (heres R ys)))))

abbrev pub ref : {X : Type 0} → GName → ℕ → ℕ → List X → MutBor (List X)
ref γ b o ys = record { ref_ptr = (b, o); ghost_name = γ; now = ys }

module _ (R : RattleType) {M : Type 1} {𝓤 : Ura M} {𝓛 : Logic 𝓤} {K : Type 0} {Γ : List (Item 𝓤)} {G : Goal 𝓤 𝓛.H} where
  pub lend-again : K → Soaks G → (ℓ ℓ' : Lifetime) {κ : Lft} (κ' : Lft) {q : Share} (γ : GName) (b o : ℕ) (ys : List R.Denot) (vs : List Val)
      → ((γ' : GName) → Seq K 𝓛 (‵ ((MutSlice ℓ' κ' R).own_val (ref γ' b o ys) vs) ∷ ‵ (LentAgain R κ q γ b o ys κ' γ') ∷ Γ) G)
      → Seq K 𝓛 (‵ ((MutSlice ℓ κ R).own_val (ref γ b o ys) vs) ∷ ‵ (flft κ q) ∷ Γ) G
  lend-again t z ℓ ℓ' κ' γ b o ys vs k = fsplit t $ pure_l t (mut_slice_at R (ref γ b o ys) vs) (λ p. fsplit t $ opens_slice t z R ys b o $ use1 𝓛 (‵ (cells (mem R) ys b o)) (whole_in 𝓛 R ys b o) $
      use1 𝓛 (later (some (λ (γ' : GName). ‵ ((MutSlice ℓ' κ' R).own_val (ref γ' b o ys) (slice_val (b, o) (length ys) ∷ [])) ⊛ ‵ (flent κ' (Held R (length ys) b o γ'))))) (lends_slice 𝓛 R ℓ' κ' ys b o p.1) $ await t z $ pick t (λ γ'. split t $
      -- [the new slice; the lender's part; the open borrow; obs; auth]
      fsplit t $ drop t $ pure_i t (mut_slice_at R (ref γ' b o ys) vs) (tt, (tt, tt)) p $ fjoin t $ move t (3 ∷ 4 ∷ []) $ fjoin t $ move t (3 ∷ 0 ∷ []) $ fjoin t $ move t (2 ∷ 0 ∷ []) $ fjoin t $ move t (1 ∷ 0 ∷ []) $ k γ'))

  pub back-again : K → Soaks G → (ℓ : Lifetime) {κ : Lft} (κ' : Lft) {q : Share} (γ γ' : GName) (b o : ℕ) (ys zs : List R.Denot) (vs : List Val) → length zs ≡ length ys → vs ≡ slice_val (b, o) (length ys) ∷ [] → Room R (length ys)
      → Step K 𝓛 (‵ ((MutSlice ℓ κ R).own_val (ref γ b o zs) vs) ∷ ‵ (flft κ q) ∷ Γ) G (‵ (fdead κ') ∷ ‵ (LentAgain R κ q γ b o ys κ' γ') ∷ ‵ (finally R γ' zs) ∷ Γ) G
  back-again t z ℓ κ' γ γ' b o ys zs vs e is room = step (λ s. move t (1 ∷ []) $ fsplit t $ move t (2 ∷ 0 ∷ 3 ∷ []) $
      use3 𝓛 (later (‵ ((Arr (mem R) (length ys)).own_at zs b o))) (slice_back 𝓛 R κ' γ' zs (length ys) b o) $ await t z $ fsplit t $ drop t $ use1 𝓛 (‵ (row R full_share zs b o)) (whole_out 𝓛 R zs b o) $
      move t (1 ∷ []) $ fsplit t $ move t (1 ∷ []) $ fsplit t $ move t (3 ∷ 2 ∷ 0 ∷ 1 ∷ []) $ closes_slice t z R ys zs e b o $
      fjoin t $ pure_i t (mut_slice_at R (ref γ b o zs) vs) (tt, (tt, tt)) (is ∙ ap (λ (m : ℕ). slice_val (b, o) m ∷ []) (sym e), subst (Room R) (sym e) room) $ fjoin t $ s)

  pub gives_up : K → Soaks G → (ℓ : Lifetime) {κ : Lft} (γ : GName) (b o : ℕ) (ys : List R.Denot) (vs : List Val) → Step K 𝓛 (‵ (finally R γ ys) ∷ Γ) G (‵ ((MutSlice ℓ κ R).own_val (ref γ b o ys) vs) ∷ Γ) G
  gives_up t z ℓ {κ} γ b o ys vs = step (λ s. fsplit t $ drop t $ fsplit t $ name_done t z $ move t (1 ∷ []) $ drop t $ use1 𝓛 (‵ (finally R γ ys)) (res-finally 𝓛 ℓ κ R γ ys) $ s)
