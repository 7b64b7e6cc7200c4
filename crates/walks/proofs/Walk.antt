-- Steps that shorten any walk by hand. They say nothing of any crate.
--     frame            a function's locals in a context, as the allocations leave them: the last local first. `none` is room, `some v` a value.     env-at    their environment
--     gone, gone-room  a local is freed: its cell, or the room for it, stands at entry p, and that it dies right after
--     tests            `if c {} else { exit n }` and the rest: both outcomes.      tests-in      `if c { a }` and the rest
--     while-loop       a loop by a measure: the state is any type, so that an invariant's facts stand in it
--     plains           what plain parameters own is had for nothing, from their relations
--     met_by           from a walk to the statement of a function outside a cycle
-- Assumes `Logic`.
use mathlib.Core.Path.{◌≡◌, subst}
use Prim.Native.Nat.{ℕ, zero, ◌<◌}
use mathlib.Core.Bool.{Bool, not}
use mathlib.Core.Option.{Option, none, some}
use mathlib.Core.List.{List, [], ◌∷◌}
use mathlib.Core.WellFounded.InvImage
use lib.Dec.{T}
use lib.WfN.{lt-wf_rel}
use seplogic.Ra.Ura.{Ura}
use base.Fraction.{full_share}
use mir.Syntax.{Ty, Local, local, Fn, Opd as Operand, Body, skip, seq, cond, exit, loop}
use mir.Val.{Val, vbool}
use base.Logic.{ent, sep, via, assoc', mono_l, mono_r}
use base.Fml.{fat, froom, fdies}
use prog.Wp.{Env, Calls, Loops, Tables, Wp, WpFn, after_seq, after_turn, exits}
use types.Logic.{Logic}
use sound.WpLaws.{WpFn-mono}
use types.Kit.{Item, ‵, mean, ⋆, nth, del, pull, Post, any_q, post, Goal, prop, runs, frees, Seq, Step, step, ◌$◌, use0}
use types.Run.{Opd, first, branches, skips, jumps, loops, Below}
use contract.Lifetimes.{Lfts, Shares, AllOutlive}
use denote.RattleType.{RattleType, owns, Denots, Valss, flat}
use denote.Laws.{Are, Ises, Makess, owns_make, Spells, valss, Tellss}
use denote.Signature.{types_at}
use denote.Triple.Entry.{Args, on_entry}
use denote.Triple.Spec.{Meets}
use denote.Triple.Clauses.{Ended, Clauses, closing}
use denote.Triple.Walked.{Stays, walk_of, AllGo, walked, walk_Meets}

-- ---- a function's locals
abbrev pub env-at : List Local → List ℕ → List (Ty × ℕ)
env-at [] bs = []
env-at (l ∷ ls) [] = []
env-at (local τ h ∷ ls) (b ∷ bs) = (τ, b) ∷ env-at ls bs

module _ {M : Type 1} {𝓤 : Ura M} where
  abbrev pub cell-of : Ty → ℕ → Option Val → Item 𝓤
  cell-of τ b none = ‵ (froom τ b zero)
  cell-of τ b (some v) = ‵ (fat full_share τ b zero v)

  abbrev pub frame : List Local → List ℕ → List (Option Val) → List (Item 𝓤) → List (Item 𝓤)
  frame [] bs vs Γ = Γ
  frame (l ∷ ls) [] vs Γ = Γ
  frame (l ∷ ls) (b ∷ bs) [] Γ = Γ
  frame (local τ h ∷ ls) (b ∷ bs) (v ∷ vs) Γ = frame ls bs vs (cell-of τ b v ∷ ‵ (fdies τ b) ∷ Γ)

module _ {M : Type 1} {𝓤 : Ura M} {𝓛 : Logic 𝓤} {K : Type 0} {Γ : List (Item 𝓤)} where
  open 𝓛 use {H}

  pub gone-room : K → (p : ℕ) {τ : Ty} {b : ℕ} {E : Env 𝓤 H} {g : Goal 𝓤 H} → nth 𝓛 p Γ ≡ ‵ (froom τ b zero) → nth 𝓛 p (del 𝓛 p Γ) ≡ ‵ (fdies τ b)
      → Step K 𝓛 (del 𝓛 p (del 𝓛 p Γ)) (frees E g) Γ (frees ((τ, b) ∷ E) g)
  gone-room t p {τ} {b} {E} {g} e e' = step (λ s. record {
    prf = via 𝓤 (sep 𝓤 (H.room τ b zero) (sep 𝓤 (H.dies τ b) (⋆ 𝓛 (del 𝓛 p (del 𝓛 p Γ)))))
        (via 𝓤 (sep 𝓤 (H.room τ b zero) (⋆ 𝓛 (del 𝓛 p Γ)))
        (subst (λ (j : Item 𝓤). ent 𝓤 (⋆ 𝓛 Γ) (sep 𝓤 (mean 𝓛 j) (⋆ 𝓛 (del 𝓛 p Γ)))) e (pull 𝓛 p Γ))
        (mono_r 𝓤 (H.room τ b zero) (subst (λ (j : Item 𝓤). ent 𝓤 (⋆ 𝓛 (del 𝓛 p Γ)) (sep 𝓤 (mean 𝓛 j) (⋆ 𝓛 (del 𝓛 p (del 𝓛 p Γ))))) e' (pull 𝓛 p (del 𝓛 p Γ)))))
        (via 𝓤 (sep 𝓤 (sep 𝓤 (H.room τ b zero) (H.dies τ b)) (⋆ 𝓛 (del 𝓛 p (del 𝓛 p Γ)))) (assoc' 𝓤 (H.room τ b zero) (H.dies τ b) (⋆ 𝓛 (del 𝓛 p (del 𝓛 p Γ))))
        (mono_r 𝓤 (sep 𝓤 (H.room τ b zero) (H.dies τ b)) s.prf));
  })

  pub gone : K → (p : ℕ) {τ : Ty} {b : ℕ} {v : Val} {E : Env 𝓤 H} {g : Goal 𝓤 H} → nth 𝓛 p Γ ≡ ‵ (fat full_share τ b zero v) → nth 𝓛 p (del 𝓛 p Γ) ≡ ‵ (fdies τ b)
      → Step K 𝓛 (del 𝓛 p (del 𝓛 p Γ)) (frees E g) Γ (frees ((τ, b) ∷ E) g)
  gone t p {τ} {b} {v} {E} {g} e e' = step (λ s. record {
    prf = via 𝓤 (sep 𝓤 (H.room τ b zero) (sep 𝓤 (H.dies τ b) (⋆ 𝓛 (del 𝓛 p (del 𝓛 p Γ)))))
        (via 𝓤 (sep 𝓤 (H.at full_share τ b zero v) (⋆ 𝓛 (del 𝓛 p Γ)))
        (subst (λ (j : Item 𝓤). ent 𝓤 (⋆ 𝓛 Γ) (sep 𝓤 (mean 𝓛 j) (⋆ 𝓛 (del 𝓛 p Γ)))) e (pull 𝓛 p Γ))
        (via 𝓤 (sep 𝓤 (H.room τ b zero) (⋆ 𝓛 (del 𝓛 p Γ))) (mono_l 𝓤 (⋆ 𝓛 (del 𝓛 p Γ)) (𝓛.laws.at_room τ b zero v))
        (mono_r 𝓤 (H.room τ b zero) (subst (λ (j : Item 𝓤). ent 𝓤 (⋆ 𝓛 (del 𝓛 p Γ)) (sep 𝓤 (mean 𝓛 j) (⋆ 𝓛 (del 𝓛 p (del 𝓛 p Γ))))) e' (pull 𝓛 p (del 𝓛 p Γ))))))
        (via 𝓤 (sep 𝓤 (sep 𝓤 (H.room τ b zero) (H.dies τ b)) (⋆ 𝓛 (del 𝓛 p (del 𝓛 p Γ)))) (assoc' 𝓤 (H.room τ b zero) (H.dies τ b) (⋆ 𝓛 (del 𝓛 p (del 𝓛 p Γ))))
        (mono_r 𝓤 (sep 𝓤 (H.room τ b zero) (H.dies τ b)) s.prf));
  })

  -- what plain parameters own, from their relations
  pub plains : K → {G : Goal 𝓤 H} (Rs : List RattleType) → Makess 𝓛 Rs (Ises Rs) → (a : Denots Rs) (vss : Valss Rs) → Are Rs (Ises Rs) a vss → Step K 𝓛 (‵ (owns Rs a vss) ∷ Γ) G Γ G
  plains t Rs mk a vss g = use0 𝓛 (‵ (owns Rs a vss)) (owns_make 𝓛 Rs (Ises Rs) mk a vss g)

  module _ {E : Env 𝓤 H} {C : Calls 𝓤 H} {Λ : Loops 𝓤 H} {q : Post 𝓤 H} where
    pub tests : K → {c : Operand} {n : ℕ} {b : Body} {y : Bool} → Opd K 𝓛 Γ E c (vbool y) → (T y → Seq K 𝓛 Γ (runs C Λ E b q)) → (T (not y) → Seq K 𝓛 Γ (prop (post 𝓤 H q (exits n))))
        → Seq K 𝓛 Γ (runs C Λ E (seq (cond c skip (exit n)) b) q)
    tests t o go_on leave = first t $ branches t o (λ h. skips t $ record { prf = (go_on h).prf }) (λ h. jumps t $ record { prf = (leave h).prf })

    pub tests-in : K → {c : Operand} {a b : Body} {y : Bool} → Opd K 𝓛 Γ E c (vbool y) → (T y → Seq K 𝓛 Γ (runs C Λ E a (any_q (after_seq 𝓤 H (Wp 𝓤 H C Λ E b (post 𝓤 H q)) (post 𝓤 H q))))) → (T (not y) → Seq K 𝓛 Γ (runs C Λ E b q))
        → Seq K 𝓛 Γ (runs C Λ E (seq (cond c a skip) b) q)
    tests-in t o go-in go_on = first t $ branches t o go-in (λ h. skips t $ record { prf = (go_on h).prf })

-- the state y has a lower measure than x
abbrev pub Less : {X : Type 0} → (X → ℕ) → X → X → Type 0
Less μ y x = μ y < μ x

module _ {M : Type 1} {𝓤 : Ura M} {𝓛 : Logic 𝓤} {K : Type 0} {X : Type 0} where
  open 𝓛 use {H}

  pub while-loop : K → (𝓣 : Tables 𝓤 H) (μ : X → ℕ) (I : X → List (Item 𝓤)) {E : Env 𝓤 H} {b : Body} {q : Post 𝓤 H}
      → ((x : X) → Seq K 𝓛 (I x) (runs 𝓣.C 𝓣.Λ E b (any_q (after_turn 𝓤 H (Below 𝓛 (Less μ) I x) (post 𝓤 H q))))) → (x : X) → Seq K 𝓛 (I x) (runs 𝓣.C 𝓣.Λ E (loop b) q)
  while-loop t 𝓣 μ I turn x = loops t 𝓣 (Less μ) (InvImage.wf μ lt-wf_rel.wf) I turn x

-- the MIR meets the contract, from a walk at each choice of lifetimes, shares and arguments (`Denote/Triple/Walked.antt`'s `walked` and `walk_Meets` in one)
module _ {M : Type 1} {𝓤 : Ura M} (𝓛 : Logic 𝓤) (T : Ended) (hs : Stays T.signature.params T.kept) (c : Clauses 𝓤 T) (𝓣 : Tables 𝓤 𝓛.H) (f : Fn) where
  open 𝓛 use {H}

  abbrev ptypes : Lfts T.signature.lifetimes → List RattleType
  ptypes κs = types_at T.signature.params κs

  pub met_by : AllGo 𝓛 T.signature.lifetimes T.signature.params T.kept hs → (sp : (κs : Lfts T.signature.lifetimes) → Spells (ptypes κs)) → ((κs : Lfts T.signature.lifetimes) → Tellss (ptypes κs) (Ises (ptypes κs)) (sp κs))
      → ((κs : Lfts T.signature.lifetimes) (qs : Shares T.signature.lifetimes) (bounds : AllOutlive T.signature.lifetimes T.signature.outlives κs) (a : Args T.signature κs) (g : (c κs a).ghost)
      → Are (ptypes κs) (Ises (ptypes κs)) a (valss (ptypes κs) (sp κs) a)
      → ent 𝓤 (sep 𝓤 (on_entry 𝓛 T.signature κs qs a (valss (ptypes κs) (sp κs) a)) ((c κs a).requires g))
      (WpFn 𝓤 H 𝓣.C 𝓣.Λ f (flat (ptypes κs) (valss (ptypes κs) (sp κs) a)) ((walk_of 𝓛 T hs c).post ((κs, qs, bounds, a, valss (ptypes κs) (sp κs) a), g))))
      → Meets 𝓛 T.signature (WpFn 𝓤 H 𝓣.C 𝓣.Λ f) (closing 𝓛 T c)
  met_by gs sp tl k = walk_Meets 𝓛 T hs gs c (WpFn 𝓤 H 𝓣.C 𝓣.Λ f) (WpFn-mono 𝓤 H 𝓛.laws 𝓣 f) (walked 𝓛 T hs c (WpFn 𝓤 H 𝓣.C 𝓣.Λ f) sp tl k)
