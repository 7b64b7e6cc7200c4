-- A local array in a walk by hand: its first elements are lent as a slice, and come back. It says nothing of any crate.
--     array_e               `Open.antt`'s `Elem` of `[T; n]`, from T's
--     lend-first           the first k elements of a local array are lent as a `&mut [T]`, for a lifetime of the call.      back-first      the array is back, with what the callee left in their place
-- Assumes `Logic`.
use mathlib.Core.Path.{◌≡◌, refl, sym, ◌∙◌, ap, subst}
use Prim.Native.Nat.{ℕ}
use mathlib.Core.List.{List, [], ◌∷◌, ◌++◌, map}
use lib.ListN.{length, take, drop as drop-list, take-append-drop}
use seplogic.Ra.Ura.{Ura}
use base.Fraction.{full_share}
use mir.Syntax.{Ty, ty_array, Lifetime}
use mir.Val.{Val}
use base.Logic.{ent, sep, emp, id⊢, via, emp∗, mono∗, ex_i}
use base.Fml.{Lft, GName, Fml, fsep, fat, flft, flent}
use types.Logic.{Logic, sem}
use types.Kit.{Item, ‵, ◌⊛◌, some, later, Goal, Soaks, Seq, Step, step, ◌$◌, move, drop, use1, use2, use3, rewrite, split, pick, fpick, fpack, fsplit, fjoin, feq_i, await}
use types.Tokens.{lft_new, lft_end}
use types.Share.{arr_parts}
use types.SemTy.{cells, Arr}
use denote.RattleType.{RattleType}
use denote.Shadow.{shadow, makes_shadow}
use denote.Laws.{Is, Makes, Typed, shows}
use denote.Memory.{mem, lone, cell_at, part_at, part_of, shares}
use denote.Copied.{Array-Copied}
use denote.Array.{Array, each, shape, array_val, Array-Tells, array_copy, Array-Typed}
use denote.ArrayMemory.{Single, Array-apart, Array-whole}
use denote.Index.{row, whole_out, whole_in}
use denote.Lend.{Held, lends_slice, slice_back}
use denote.Slice.{slice_val, MutSlice, Room, finally}
use denote.Steps.{owned, facts}
use borrow.Table.Elements.{at, cut_app, join_app, same_len}
use Rattle.walks.proofs.Open.{Elem, cell_in, cell_out}
use Rattle.walks.proofs.Calling.{ref}

pub elem-typed : (E : Elem) {M : Type 1} {𝓤 : Ura M} (𝓛 : Logic 𝓤) (d : E.R.Denot) (vs : List Val) → Is E.R d vs → Typed E.R.mir vs
elem-typed E 𝓛 d vs g = subst (Typed E.R.mir) (sym (E.tells d vs g)) (subst (λ (τs : List Ty). Typed τs (E.val d ∷ [])) (sym E.mir_is) (E.lawful 𝓛 d (subst (Is E.R d) (E.tells d vs g) g), tt))

module _ (E : Elem) (n : ℕ) {M : Type 1} {𝓤 : Ura M} (𝓛 : Logic 𝓤) where
  each-make : (xs : List E.R.Denot) (us : List Val) → shadow (each E.R.Denot E.R.own_val xs us) → ent 𝓤 (emp 𝓤) (sem 𝓛 (each E.R.Denot E.R.own_val xs us))
  each-make [] [] s = id⊢ 𝓤 (emp 𝓤)
  each-make [] (u ∷ us) s = absurd s
  each-make (x ∷ xs) [] s = absurd s
  each-make (x ∷ xs) (u ∷ us) s = via 𝓤 (sep 𝓤 (emp 𝓤) (emp 𝓤)) (emp∗ 𝓤 (emp 𝓤)) (mono∗ 𝓤 (E.makes 𝓛 x (u ∷ []) s.0) (each-make xs us s.1))

  pub all-make : Makes 𝓛 (Array E.R n) (Is (Array E.R n))
  all-make xs vs p =
      via 𝓤 (sem 𝓛 (fsep (shape n xs vs p.0) (each E.R.Denot E.R.own_val xs p.0)))
      (via 𝓤 (sep 𝓤 (emp 𝓤) (emp 𝓤)) (emp∗ 𝓤 (emp 𝓤)) (mono∗ 𝓤 (makes_shadow 𝓛 (shape n xs vs p.0) (tt, tt) p.1.0) (each-make xs p.0 p.1.1)))
      (ex_i 𝓤 (λ (ws : List Val). sem 𝓛 (fsep (shape n xs vs ws) (each E.R.Denot E.R.own_val xs ws))) p.0)

abbrev pub array_e : Elem → ℕ → Elem
array_e E n = record {
  R = Array E.R n;
  τ = ty_array E.τ n;
  val = λ xs. array_val (map E.val xs);
  mir_is = ap (λ (τs : List Ty). ty_array (lone τs) n ∷ []) E.mir_is;
  tells = Array-Tells E.R (λ d. E.val d ∷ []) E.tells n;
  makes = λ 𝓛. all-make E n 𝓛;
  copy = λ 𝓛. array_copy 𝓛 E.R (E.copy 𝓛) n;
  copied = λ 𝓛. Array-Copied 𝓛 E.R (E.copied 𝓛) (subst Single (sym E.mir_is) tt) n;
  lawful = λ 𝓛 xs g. (subst (λ (τs : List Ty). Typed τs (array_val (map E.val xs) ∷ [])) (ap (λ (τs : List Ty). ty_array (lone τs) n ∷ []) E.mir_is) (Array-Typed E.R (elem-typed E 𝓛) n xs _ g)).0;
}

-- the array, whole, in its local
abbrev pub ArrayAt : (E : Elem) (n : ℕ) → List E.R.Denot → ℕ → Fml
ArrayAt E n xs b = fat full_share (ty_array E.τ n) b 0 ((array_e E n).val xs)

-- what is left of an array while its first k elements are lent for κ, under the name γ
abbrev pub LentFirst : (R : RattleType) → ℕ → List R.Denot → ℕ → Lft → GName → Fml
LentFirst R k xs b κ γ = fsep (flent κ (Held R (length (take k xs)) b 0 γ)) (cells (mem R) (drop-list k xs) b (at 0 (mem R).size (length (take k xs))))

module _ (E : Elem) (n : ℕ) {M : Type 1} {𝓤 : Ura M} {𝓛 : Logic 𝓤} {K : Type 0} {Γ : List (Item 𝓤)} {G : Goal 𝓤 𝓛.H} where
  -- the elements side by side
  apart : K → Single E.R.mir → (xs : List E.R.Denot) (b : ℕ) → Is (Array E.R n) xs ((array_e E n).val xs ∷ []) → Step K 𝓛 (‵ (cells (mem E.R) xs b 0) ∷ Γ) G (‵ (ArrayAt E n xs b) ∷ Γ) G
  unfolding part_of
  apart t one xs b is = step (λ s. use1 𝓛 (‵ (cell_at full_share (Array E.R n).mir ((array_e E n).val xs ∷ []) b 0)) (cell_in 𝓛 (array_e E n) full_share ((array_e E n).val xs) b 0) $
      owned t (Array E.R n) (Is (Array E.R n)) ((array_e E n).makes 𝓛) xs ((array_e E n).val xs ∷ []) is $ move t (1 ∷ 0 ∷ []) $ fjoin t $
      fpack t (List Val) (λ vs. fsep (cell_at full_share (Array E.R n).mir vs b 0) ((Array E.R n).own_val xs vs)) ((array_e E n).val xs ∷ []) $
      use1 𝓛 (‵ ((arr_parts (shares E.R) n).part full_share xs b 0)) (Array-apart 𝓛 E.R full_share one n xs b 0) $ fsplit t $ drop t $
      use1 𝓛 (‵ (cells (mem E.R) xs b 0)) (whole_in 𝓛 E.R xs b 0) $ s)

  -- and as one value again
  whole : K → (xs : List E.R.Denot) (b : ℕ) → length xs ≡ n → (Is (Array E.R n) xs ((array_e E n).val xs ∷ []) → Seq K 𝓛 (‵ (ArrayAt E n xs b) ∷ Γ) G) → Seq K 𝓛 (‵ (cells (mem E.R) xs b 0) ∷ Γ) G
  unfolding part_of
  whole t xs b l k = use1 𝓛 (‵ (row E.R full_share xs b 0)) (whole_out 𝓛 E.R xs b 0) $ feq_i t ℕ (length xs) n l $ fjoin t $
      use1 𝓛 (‵ (part_at (Array E.R n) full_share xs b 0)) (Array-whole 𝓛 E.R full_share n xs b 0) $ fpick t (λ vs. fsplit t $ move t (1 ∷ []) $
      facts t (Array E.R n) (Is (Array E.R n)) (shows 𝓛 (Array E.R n)) xs vs (λ is.
      rewrite t 0 (λ (us : List Val). ‵ (cell_at full_share (Array E.R n).mir us b 0)) ((array_e E n).tells xs vs is) refl $
      use1 𝓛 (‵ (ArrayAt E n xs b)) (cell_out 𝓛 (array_e E n) full_share ((array_e E n).val xs) b 0) $ k (subst (Is (Array E.R n) xs) ((array_e E n).tells xs vs is) is)))

  parted : K → (k : ℕ) (xs : List E.R.Denot) (b : ℕ) → Step K 𝓛 (‵ (cells (mem E.R) (take k xs) b 0) ∷ ‵ (cells (mem E.R) (drop-list k xs) b (at 0 (mem E.R).size (length (take k xs)))) ∷ Γ) G (‵ (cells (mem E.R) xs b 0) ∷ Γ) G
  parted t k xs b = step (λ s. rewrite t 0 (λ (ys : List E.R.Denot). ‵ (cells (mem E.R) ys b 0)) (sym (take-append-drop k xs)) refl $
      use1 𝓛 (‵ (cells (mem E.R) (take k xs) b 0) ⊛ ‵ (cells (mem E.R) (drop-list k xs) b (at 0 (mem E.R).size (length (take k xs))))) (cut_app 𝓛 (mem E.R) (take k xs) (drop-list k xs) b 0) $ split t $ s)

  pub lend-first : K → Soaks G → Single E.R.mir → (ℓ : Lifetime) (k : ℕ) (xs : List E.R.Denot) (b : ℕ) → Is (Array E.R n) xs ((array_e E n).val xs ∷ []) → Room E.R (length (take k xs)) → length (take k xs) ≡ k
      → ((ν : ℕ) (γ : GName) → Seq K 𝓛 (‵ ((MutSlice ℓ (ν ∷ []) E.R).own_val (ref γ b 0 (take k xs)) (slice_val (b, 0) k ∷ [])) ∷ ‵ (flft (ν ∷ []) full_share) ∷ ‵ (LentFirst E.R k xs b (ν ∷ []) γ) ∷ Γ) G)
      → Seq K 𝓛 (‵ (ArrayAt E n xs b) ∷ Γ) G
  lend-first t z one ℓ k xs b is room e f = apart t one xs b is $ parted t k xs b $ lft_new t z (λ ν. move t (1 ∷ []) $
      use1 𝓛 (later (some (λ (γ : GName). ‵ ((MutSlice ℓ (ν ∷ []) E.R).own_val (ref γ b 0 (take k xs)) (slice_val (b, 0) (length (take k xs)) ∷ [])) ⊛ ‵ (flent (ν ∷ []) (Held E.R (length (take k xs)) b 0 γ)))))
      (lends_slice 𝓛 E.R ℓ (ν ∷ []) (take k xs) b 0 room) $ await t z $ pick t (λ γ. split t $ rewrite t 0 (λ (m : ℕ). ‵ ((MutSlice ℓ (ν ∷ []) E.R).own_val (ref γ b 0 (take k xs)) (slice_val (b, 0) m ∷ []))) e refl $ move t (1 ∷ 3 ∷ []) $ fjoin t $ move t (1 ∷ 2 ∷ 0 ∷ []) $ f ν γ))

  pub back-first : K → Soaks G → {ν : ℕ} (γ : GName) (k : ℕ) (xs zs : List E.R.Denot) (b : ℕ) → length xs ≡ n → length zs ≡ length (take k xs)
      → (Is (Array E.R n) (zs ++ (drop-list k xs)) ((array_e E n).val (zs ++ (drop-list k xs)) ∷ []) → Seq K 𝓛 (‵ (ArrayAt E n (zs ++ (drop-list k xs)) b) ∷ Γ) G)
      → Seq K 𝓛 (‵ (flft (ν ∷ []) full_share) ∷ ‵ (finally E.R γ zs) ∷ ‵ (LentFirst E.R k xs b (ν ∷ []) γ) ∷ Γ) G
  back-first t z {ν} γ k xs zs b l e f = lft_end t z $ move t (2 ∷ []) $ fsplit t $ move t (2 ∷ 0 ∷ 3 ∷ []) $
      use3 𝓛 (later (‵ ((Arr (mem E.R) (length (take k xs))).own_at zs b 0))) (slice_back 𝓛 E.R (ν ∷ []) γ zs (length (take k xs)) b 0) $ await t z $ fsplit t $ drop t $
      rewrite t 1 (λ (m : ℕ). ‵ (cells (mem E.R) (drop-list k xs) b (at 0 (mem E.R).size m))) (sym e) refl $
      use2 𝓛 (‵ (cells (mem E.R) (zs ++ (drop-list k xs)) b 0)) (join_app 𝓛 (mem E.R) zs (drop-list k xs) b 0) $ whole t (zs ++ (drop-list k xs)) b (same_len k xs zs e ∙ l) f
