-- What a walk by hand gives to a function that it calls, and gets back. It says nothing of any crate.
--     elem_of, enum-of, uint_e, bool_e, unit_e    `Open.antt`'s `Elem` of a declared struct, of a declared enum, of an unsigned integer, of a bool and of `()`
--     Arg, arg                 plain arguments, each with what its type says: what they own is had for nothing
--     Lent, items, tokens      slices, each with its lifetime's token, as a context has them: [a slice; its token; the next; ..]; and the tokens alone
--     takes                    on entry: the slices and their tokens, from what the parameters own
--     gives                    before a call: the slices and tokens at the head become the callee's `pre`. It is shown by `hands`, after `says` of what it requires or `bare`
--     last_of                  after a call, for each `&mut [T]`: its last list is as long as the list passed
--     told                     then the result is stored in a local, and the tokens are back.      told-last     the same where the call is the last statement of a loop's body, and the local held a value
--     leaves                   on exit: the tokens, what is had of the parameters, and the result
--     lend-new, back-new       a `&mut [T]` lent again for a lifetime of the call, and back.      share-new, back-share      the same, lent as a `&[T]`
--     shared-too               a `&[T]` that is passed on is kept too
-- A function's slices stand before its plain parameters, each with a lifetime of its own.
-- Assumes `Logic`.
use mathlib.Core.Path.{◌≡◌, refl, sym, ap, subst}
use Prim.Native.Nat.{ℕ, zero, suc}
use mathlib.Core.List.{List, [], ◌∷◌, ◌++◌}
use lib.ListN.{length}
use seplogic.Ra.Ura.{Ura}
use base.Fraction.{full_share}
use mir.Syntax.{Ty, Width, ty_int, ty_bool, ty_unit, Lifetime, Body, place}
use mir.Val.{Val, vint, vbool, vunit}
use base.Logic.{SProp, ent, sep, emp, via, id⊢, emp∗, comm∗, fst∗, mono∗, mono_r}
use base.Fml.{Lft, GName, Share, Fml, ftrue, feq, fsep, fat, froom, flft}
use prog.Wp.{Env, Calls, Loops, spot_of, next}
use types.Logic.{Logic, sem}
use types.Kit.{Item, ‵, raw, ◌⊛◌, ⋆, nth, put, push, pop, Post, post, Goal, Soaks, prop, runs, lands, settles, Seq, Step, step, Sq, ◌$◌, ◌∵◌, !, qed, by, cut, move, group, drop, use0, use1, split, join, fsplit, fjoin, feq_l, frame, done}
use types.Run.{Finds, init, store, stop, from, land, land_last}
use types.Tokens.{lft_new, lft_end}
use denote.RattleType.{RattleType, RowLaws}
use denote.Copied.{uint_Copied, bool_Copied, Nothing-Copied}
use denote.Laws.{Is, Typed, shows}
use denote.Shadow.{makes_shadow}
use denote.Plain.{UInt, uint_Tells, uint_copy, uint_Lawful, Boolean, bool_Tells, bool-copy, bool_Lawful, Nothing, Nothing-Tells, Nothing-copy, Nothing-Lawful}
use denote.Slice.{slice_val, MutSlice, ShrSlice, Room, finally, shr_slice_copy}
use denote.Steps.{only, facts}
use denote.Struct.Struct.{Plains}
use denote.Struct.Declared.{Declared, fields, row as row_of}
use denote.Struct.Laws as LL
use denote.Lowered.{Lowered}
use denote.Enum.Enum.{Few, Plainss}
use denote.Enum.Declared as EnumT
use denote.Enum.Laws as EL
use Rattle.walks.proofs.Open.{Elem, slice, shared}
use Rattle.walks.proofs.Calling.{ref, LentAgain, LentShared, lend-again, back-again, lend-shared, back-shared}

-- ---- types of one machine value
abbrev pub elem_of : (T : Declared) → LL.Laws T → LL.Lowered T → LL.Copyables T.parts → Plains (fields T) → Elem
elem_of T L low cs pl = record {
  R = row_of T;
  τ = low.mir;
  val = low.lowered;
  mir_is = low.layout_is;
  tells = low.val_is;
  makes = λ 𝓛. LL.makes T pl 𝓛;
  copy = λ 𝓛. LL.copy T cs 𝓛;
  copied = λ 𝓛. LL.copied T cs 𝓛;
  lawful = λ 𝓛 d g. (subst (λ (τs : List Ty). Typed τs (low.lowered d ∷ [])) low.layout_is ((LL.lawful T L 𝓛).typed d _ g)).0;
}

abbrev pub enum-of : (T : EnumT.Declared) → EL.Laws T → Few (EnumT.shape T) → Lowered (EnumT.row T) → EL.Copyabless T.parts → Plainss (EnumT.variants T) → Elem
enum-of T L few low cs pl = record {
  R = EnumT.row T;
  τ = low.mir;
  val = low.lowered;
  mir_is = low.layout_is;
  tells = low.val_is;
  makes = λ 𝓛. EL.makes T pl 𝓛;
  copy = λ 𝓛. EL.copy T cs 𝓛;
  copied = λ 𝓛. EL.copied T cs 𝓛;
  lawful = λ 𝓛 d g. (subst (λ (τs : List Ty). Typed τs (low.lowered d ∷ [])) low.layout_is ((EL.lawful T L 𝓛 few).typed d _ g)).0;
}

abbrev pub uint_e : Width → Elem
uint_e w = record {
  R = UInt w;
  τ = ty_int w;
  val = vint w;
  mir_is = refl;
  tells = uint_Tells w;
  makes = λ 𝓛 n vs g. makes_shadow 𝓛 ((UInt w).own_val n vs) (tt, tt) g;
  copy = λ 𝓛. uint_copy 𝓛 w;
  copied = λ 𝓛. uint_Copied 𝓛 w;
  lawful = λ 𝓛 d g. ((uint_Lawful 𝓛 w).typed d _ g).0;
}

abbrev pub bool_e : Elem
bool_e = record {
  R = Boolean;
  τ = ty_bool;
  val = vbool;
  mir_is = refl;
  tells = bool_Tells;
  makes = λ 𝓛 t vs g. makes_shadow 𝓛 (Boolean.own_val t vs) tt g;
  copy = λ 𝓛. bool-copy 𝓛;
  copied = λ 𝓛. bool_Copied 𝓛;
  lawful = λ 𝓛 d g. ((bool_Lawful 𝓛).typed d _ g).0;
}

abbrev pub unit_e : Elem
unit_e = record {
  R = Nothing;
  τ = ty_unit;
  val = λ _. vunit;
  mir_is = refl;
  tells = Nothing-Tells;
  makes = λ 𝓛 u vs g. makes_shadow 𝓛 (Nothing.own_val u vs) tt g;
  copy = λ 𝓛. Nothing-copy 𝓛;
  copied = λ 𝓛. Nothing-Copied 𝓛;
  lawful = λ 𝓛 d g. ((Nothing-Lawful 𝓛).typed d _ g).0;
}

-- ---- what is given
pub record Arg : Type 2 where
  pub E : Elem
  pub d : E.R.Denot
  pub is : Is E.R d (E.val d ∷ [])

abbrev pub arg : (E : Elem) (d : E.R.Denot) → Is E.R d (E.val d ∷ []) → Arg
arg E d g = record { E = E; d = d; is = g }

abbrev pub plainly : List Arg → Fml
plainly [] = ftrue
plainly (x ∷ xs) = fsep (x.E.R.own_val x.d (x.E.val x.d ∷ [])) (plainly xs)

pub record Lent : Type 1 where
  pub κ : Lft
  pub q : Share
  pub own : Fml

abbrev pub lent : Lft → Share → Fml → Lent
lent κ q P = record { κ = κ; q = q; own = P }

abbrev pub owned : List Lent → Fml → Fml
owned [] P = P
owned (x ∷ xs) P = fsep x.own (owned xs P)

module _ {M : Type 1} {𝓤 : Ura M} where
  abbrev pub items : List Lent → List (Item 𝓤)
  items [] = []
  items (x ∷ xs) = ‵ x.own ∷ ‵ (flft x.κ x.q) ∷ items xs

  abbrev pub tokens : List Lent → List (Item 𝓤)
  tokens [] = []
  tokens (x ∷ xs) = ‵ (flft x.κ x.q) ∷ tokens xs

module _ {M : Type 1} {𝓤 : Ura M} (𝓛 : Logic 𝓤) where
  open 𝓛 use {A}

  abbrev pub alive : List Lent → SProp 𝓤
  alive [] = emp 𝓤
  alive (x ∷ xs) = sep 𝓤 (A.lft x.κ x.q) (alive xs)

module _ {M : Type 1} {𝓤 : Ura M} (𝓛 : Logic 𝓤) where
  open 𝓛 use {H, A}

  had : (ps : List Arg) → ent 𝓤 (emp 𝓤) (sem 𝓛 (plainly ps))
  had [] = id⊢ 𝓤 (emp 𝓤)
  had (x ∷ xs) = via 𝓤 (sep 𝓤 (emp 𝓤) (emp 𝓤)) (emp∗ 𝓤 (emp 𝓤)) (mono∗ 𝓤 (x.E.makes 𝓛 x.d (x.E.val x.d ∷ []) x.is) (had xs))

  gathers : (xs : List Lent) (P : Fml) → ent 𝓤 (emp 𝓤) (sem 𝓛 P) → ent 𝓤 (⋆ 𝓛 (items xs)) (sep 𝓤 (alive 𝓛 xs) (sem 𝓛 (owned xs P)))
  gathers [] P h = via 𝓤 (sem 𝓛 P) h (emp∗ 𝓤 (sem 𝓛 P))
  gathers (x ∷ xs) P h =
      via 𝓤 (sep 𝓤 (sem 𝓛 x.own) (⋆ 𝓛 (‵ (flft x.κ x.q) ∷ items xs))) (pop 𝓛 (‵ x.own) (‵ (flft x.κ x.q) ∷ items xs))
      (via 𝓤 (sep 𝓤 (sem 𝓛 x.own) (sep 𝓤 (A.lft x.κ x.q) (⋆ 𝓛 (items xs)))) (mono_r 𝓤 (sem 𝓛 x.own) (pop 𝓛 (‵ (flft x.κ x.q)) (items xs)))
      (qed 𝓛 (‵ x.own ∷ ‵ (flft x.κ x.q) ∷ raw (⋆ 𝓛 (items xs)) ∷ []) ∵ move ! (2 ∷ []) $ use1 𝓛 (raw (alive 𝓛 xs) ⊛ ‵ (owned xs P)) (gathers xs P h) $
      split ! $ move ! (3 ∷ 0 ∷ []) $ join ! $ frame ! $ move ! (1 ∷ 0 ∷ []) $ fjoin ! $ done !))

  scatters : (xs : List Lent) (P : Fml) → ent 𝓤 (sep 𝓤 (alive 𝓛 xs) (sem 𝓛 (owned xs P))) (⋆ 𝓛 (items xs))
  scatters [] P = fst∗ 𝓤 (emp 𝓤) (sem 𝓛 P)
  scatters (x ∷ xs) P =
      qed 𝓛 ((‵ (flft x.κ x.q) ⊛ raw (alive 𝓛 xs)) ∷ ‵ (fsep x.own (owned xs P)) ∷ []) ∵ split ! $ move ! (2 ∷ []) $ fsplit ! $ move ! (0 ∷ 2 ∷ 3 ∷ 1 ∷ []) $
      group ! 4 $ by ! (via 𝓤 (sep 𝓤 (sem 𝓛 x.own) (sep 𝓤 (A.lft x.κ x.q) (⋆ 𝓛 (items xs))))
      (mono_r 𝓤 (sem 𝓛 x.own) (mono_r 𝓤 (A.lft x.κ x.q) (scatters xs P)))
      (via 𝓤 (sep 𝓤 (sem 𝓛 x.own) (⋆ 𝓛 (‵ (flft x.κ x.q) ∷ items xs))) (mono_r 𝓤 (sem 𝓛 x.own) (push 𝓛 (‵ (flft x.κ x.q)) (items xs)))
      (push 𝓛 (‵ x.own) (‵ (flft x.κ x.q) ∷ items xs))))

  released : (xs : List Lent) → ent 𝓤 (alive 𝓛 xs) (⋆ 𝓛 (tokens xs))
  released [] = id⊢ 𝓤 (emp 𝓤)
  released (x ∷ xs) = via 𝓤 (sep 𝓤 (A.lft x.κ x.q) (⋆ 𝓛 (tokens xs))) (mono_r 𝓤 (A.lft x.κ x.q) (released xs)) (push 𝓛 (‵ (flft x.κ x.q)) (tokens xs))

  module _ {K : Type 0} {Γ : List (Item 𝓤)} {G : Goal 𝓤 H} where
    pub takes : (xs : List Lent) (P : Fml) → Step K 𝓛 (items xs ++ Γ) G (raw (alive 𝓛 xs) ∷ ‵ (owned xs P) ∷ Γ) G
    takes xs P = cut (raw (alive 𝓛 xs) ∷ ‵ (owned xs P) ∷ []) (items xs) Γ (scatters xs P)

    pub gives : (xs : List Lent) (P : SProp 𝓤) → Sq 𝓛 (items xs) (prop P) → Step K 𝓛 (raw P ∷ Γ) G (items xs ++ Γ) G
    gives xs P s = cut (items xs) (raw P ∷ []) Γ s.prf

module _ {M : Type 1} {𝓤 : Ura M} {𝓛 : Logic 𝓤} {K : Type 0} where
  open 𝓛 use {H}

  pub hands : K → (xs : List Lent) (ps : List Arg) → Seq K 𝓛 (items xs) (prop (sep 𝓤 (alive 𝓛 xs) (sem 𝓛 (owned xs (plainly ps)))))
  hands t xs ps = record { prf = gathers 𝓛 xs (plainly ps) (had 𝓛 ps) }

  pub leaves : K → (xs : List Lent) (ps : List Arg) (r : Arg) → Seq K 𝓛 (items xs) (prop (sep 𝓤 (alive 𝓛 xs) (sep 𝓤 (sem 𝓛 (owned xs (plainly ps))) (sem 𝓛 (r.E.R.own_val r.d (r.E.val r.d ∷ []))))))
  leaves t xs ps r = record {
    prf = via 𝓤 _ (gathers 𝓛 xs (plainly ps) (had 𝓛 ps)) (mono_r 𝓤 (alive 𝓛 xs)
        (qed 𝓛 (‵ (owned xs (plainly ps)) ∷ []) ∵ frame ! $ use0 𝓛 (‵ (r.E.R.own_val r.d (r.E.val r.d ∷ []))) (r.E.makes 𝓛 r.d (r.E.val r.d ∷ []) r.is) $ done !));
  }

  module _ {Γ : List (Item 𝓤)} where
    -- nothing is required
    pub bare : K → {P : SProp 𝓤} → Step K 𝓛 Γ (prop P) Γ (prop (sep 𝓤 P (emp 𝓤)))
    bare t {P} = step (λ s. record { prf = via 𝓤 P s.prf (via 𝓤 (sep 𝓤 (emp 𝓤) P) (emp∗ 𝓤 P) (comm∗ 𝓤 (emp 𝓤) P)) })

    pub last_of : K → {G : Goal 𝓤 H} {F P : Fml} {m n : ℕ} {i j : Item 𝓤} → (m ≡ n → Seq K 𝓛 (‵ P ∷ i ∷ j ∷ ‵ F ∷ Γ) G) → Seq K 𝓛 (‵ (fsep (fsep F (feq ℕ m n)) P) ∷ i ∷ j ∷ Γ) G
    last_of t k = fsplit t $ fsplit t $ move t (1 ∷ []) $ feq_l t (λ e. move t (1 ∷ 2 ∷ 3 ∷ 0 ∷ []) $ k e)

    module _ (E : Elem) {En : Env 𝓤 H} {C : Calls 𝓤 H} {Λ : Loops 𝓤 H} {q : Post 𝓤 H} where
      -- the local stands at entry p of what is left
      pub told : K → (xs : List Lent) (p : ℕ) (r : E.R.Denot) (v : Val) {L : Fml} {b i : ℕ} {rest : Body} → nth 𝓛 p Γ ≡ ‵ (froom E.τ b zero) → spot_of 𝓤 H En i ≡ (E.τ, b, zero)
          → (Is E.R r (E.val r ∷ []) → Seq K 𝓛 (tokens xs ++ put 𝓛 p (‵ (fat full_share E.τ b zero (E.val r))) Γ) (runs C Λ En rest q))
          → Seq K 𝓛 (‵ L ∷ ‵ (E.R.own_val r (v ∷ [])) ∷ raw (alive 𝓛 xs) ∷ Γ) (lands C Λ En (place i []) v rest q)
      told t xs p r v {b = b} {i = i} {rest = rest} e e' k = drop t $ facts t E.R (Is E.R) (shows 𝓛 E.R) r (v ∷ []) (λ is.
          subst (λ (u : Val). Seq K 𝓛 (raw (alive 𝓛 xs) ∷ Γ) (lands C Λ En (place i []) u rest q)) (sym (ap only (E.tells r _ is)))
          (land t (subst (Finds K 𝓛 (raw (alive 𝓛 xs) ∷ Γ) En (place i [])) e' (from t (stop t))) (init t (suc p) e (E.lawful 𝓛 r (subst (Is E.R r) (E.tells r _ is) is))) $
          cut (raw (alive 𝓛 xs) ∷ []) (tokens xs) (put 𝓛 p (‵ (fat full_share E.τ b zero (E.val r))) Γ) (released 𝓛 xs) $ k (subst (Is E.R r) (E.tells r _ is) is)))

    module _ (E : Elem) {En : Env 𝓤 H} {q : Post 𝓤 H} where
      pub told-last : K → (xs : List Lent) (p : ℕ) (r : E.R.Denot) (v : Val) {u : Val} {L : Fml} {b i : ℕ} → nth 𝓛 p Γ ≡ ‵ (fat full_share E.τ b zero u) → spot_of 𝓤 H En i ≡ (E.τ, b, zero)
          → (Is E.R r (E.val r ∷ []) → Seq K 𝓛 (tokens xs ++ put 𝓛 p (‵ (fat full_share E.τ b zero (E.val r))) Γ) (prop (post 𝓤 H q next)))
          → Seq K 𝓛 (‵ L ∷ ‵ (E.R.own_val r (v ∷ [])) ∷ raw (alive 𝓛 xs) ∷ Γ) (settles En (place i []) v q)
      told-last t xs p r v {b = b} {i = i} e e' k = drop t $ facts t E.R (Is E.R) (shows 𝓛 E.R) r (v ∷ []) (λ is.
          subst (λ (u : Val). Seq K 𝓛 (raw (alive 𝓛 xs) ∷ Γ) (settles En (place i []) u q)) (sym (ap only (E.tells r _ is)))
          (land_last t (subst (Finds K 𝓛 (raw (alive 𝓛 xs) ∷ Γ) En (place i [])) e' (from t (stop t))) (store t (suc p) e (E.lawful 𝓛 r (subst (Is E.R r) (E.tells r _ is) is))) $
          cut (raw (alive 𝓛 xs) ∷ []) (tokens xs) (put 𝓛 p (‵ (fat full_share E.τ b zero (E.val r))) Γ) (released 𝓛 xs) $ k (subst (Is E.R r) (E.tells r _ is) is)))

    module _ {G : Goal 𝓤 H} (R : RattleType) where
      pub lend-new : K → Soaks G → (ℓ ℓ' : Lifetime) {κ : Lft} {q : Share} (γ : GName) (b o : ℕ) (ys : List R.Denot) (vs : List Val)
          → ((ν : ℕ) (δ : GName) → Seq K 𝓛 (‵ ((MutSlice ℓ' (ν ∷ []) R).own_val (ref δ b o ys) vs) ∷ ‵ (flft (ν ∷ []) full_share) ∷ ‵ (LentAgain R κ q γ b o ys (ν ∷ []) δ) ∷ Γ) G)
          → Seq K 𝓛 (‵ ((MutSlice ℓ κ R).own_val (ref γ b o ys) vs) ∷ ‵ (flft κ q) ∷ Γ) G
      lend-new t z ℓ ℓ' γ b o ys vs k = lft_new t z (λ ν. move t (1 ∷ 2 ∷ []) $ lend-again R t z ℓ ℓ' (ν ∷ []) γ b o ys vs (λ δ. move t (0 ∷ 2 ∷ []) $ k ν δ))

      pub back-new : K → Soaks G → (ℓ : Lifetime) {κ : Lft} {q : Share} {ν : ℕ} (γ δ : GName) (b o : ℕ) (ys zs : List R.Denot) (vs : List Val) → length zs ≡ length ys → vs ≡ slice_val (b, o) (length ys) ∷ [] → Room R (length ys)
          → Step K 𝓛 (‵ ((MutSlice ℓ κ R).own_val (ref γ b o zs) vs) ∷ ‵ (flft κ q) ∷ Γ) G (‵ (flft (ν ∷ []) full_share) ∷ ‵ (finally R δ zs) ∷ ‵ (LentAgain R κ q γ b o ys (ν ∷ []) δ) ∷ Γ) G
      back-new t z ℓ {ν = ν} γ δ b o ys zs vs e is room = step (λ s. lft_end t z $ move t (0 ∷ 2 ∷ []) $ back-again R t z ℓ (ν ∷ []) γ δ b o ys zs vs e is room $ s)

      pub shared-too : K → RowLaws R → (ℓ : Lifetime) (κ : Lft) (x : (ShrSlice ℓ κ R).Denot) (vs : List Val) → Step K 𝓛 (‵ ((ShrSlice ℓ κ R).own_val x vs) ∷ ‵ ((ShrSlice ℓ κ R).own_val x vs) ∷ Γ) G (‵ ((ShrSlice ℓ κ R).own_val x vs) ∷ Γ) G
      shared-too t L ℓ κ x vs = step (λ s. use1 𝓛 (‵ ((ShrSlice ℓ κ R).own_val x vs) ⊛ ‵ ((ShrSlice ℓ κ R).own_val x vs)) ((shr_slice_copy 𝓛 ℓ κ R L).twice x vs) $ split t $ s)

    module _ {G : Goal 𝓤 H} (E : Elem) where
      pub share-new : K → Soaks G → (ℓ ℓ' : Lifetime) {κ : Lft} {q : Share} (γ : GName) (b o : ℕ) (ys : List E.R.Denot) (vs : List Val) → vs ≡ slice_val (b, o) (length ys) ∷ [] → Room E.R (length ys)
          → ((ν : ℕ) → Seq K 𝓛 (‵ ((ShrSlice ℓ' (ν ∷ []) E.R).own_val (shared E b o ys) vs) ∷ ‵ (flft (ν ∷ []) full_share) ∷ ‵ (LentShared E κ q γ b o ys (ν ∷ [])) ∷ Γ) G)
          → Seq K 𝓛 (‵ ((MutSlice ℓ κ E.R).own_val (slice E γ b o ys) vs) ∷ ‵ (flft κ q) ∷ Γ) G
      share-new t z ℓ ℓ' {κ} {q} γ b o ys vs is room k =
          subst (λ (us : List Val). Seq K 𝓛 (‵ ((MutSlice ℓ κ E.R).own_val (slice E γ b o ys) us) ∷ ‵ (flft κ q) ∷ Γ) G) (sym is) (lft_new t z (λ ν. move t (1 ∷ 2 ∷ []) $ lend-shared E t z ℓ ℓ' (ν ∷ []) γ b o ys room (move t (0 ∷ 2 ∷ []) $
          subst (λ (us : List Val). Seq K 𝓛 (‵ ((ShrSlice ℓ' (ν ∷ []) E.R).own_val (shared E b o ys) us) ∷ ‵ (flft (ν ∷ []) full_share) ∷ ‵ (LentShared E κ q γ b o ys (ν ∷ [])) ∷ Γ) G) is (k ν))))

      pub back-share : K → Soaks G → (ℓ : Lifetime) {κ : Lft} {q : Share} {ν : ℕ} (γ : GName) (b o : ℕ) (ys : List E.R.Denot) (vs : List Val) → vs ≡ slice_val (b, o) (length ys) ∷ [] → Room E.R (length ys)
          → Step K 𝓛 (‵ ((MutSlice ℓ κ E.R).own_val (slice E γ b o ys) vs) ∷ ‵ (flft κ q) ∷ Γ) G (‵ (flft (ν ∷ []) full_share) ∷ ‵ (LentShared E κ q γ b o ys (ν ∷ [])) ∷ Γ) G
      back-share t z ℓ {κ} {q} {ν} γ b o ys vs is room = step (λ s. lft_end t z $ back-shared E t z ℓ (ν ∷ []) γ b o ys room $
          subst (λ (us : List Val). Seq K 𝓛 (‵ ((MutSlice ℓ κ E.R).own_val (slice E γ b o ys) us) ∷ ‵ (flft κ q) ∷ Γ) G) is s)
