-- The ways out of the three tests, on plain variables, as the code's tests and calls give them.
--     short-recovery, by-view            is_answered
--     kind-request, kind-prepare, kind-prepare-ok, kind-commit, kind-recovery, kind-other    what is_usual says of each kind
--     not-normal, short, by_kind         is_usual
--     no-setup, not-leading, by-primary  is_leading
-- Assumes nothing.
use mathlib.Core.Path.{◌≡◌}
use mathlib.Core.Bool.{Bool, true, false, not}
use mathlib.Core.List.{List}
use Prim.Native.Nat.{ℕ, ◌≤◌, ◌<◌}
use lib.Dec.{leb, eqb}
use lib.ListN.{length}
use borrow.Author.Tests.{lt-ltb, le-ltb, ne_eqb}
use Rattle.numbers.specs.Words.{when◌then◌else◌}
use Rattle.numbers.specs.Numbers.{num}
use Rattle.frames.specs.Kinds.{kind_of}
use Rattle.state.specs.State.{leads}
use Rattle.state.specs.Statuses.{is_normal}
use Rattle.state.specs.declared.Replica.{Replica}
use Rattle.usual.specs.Usual.{is_answered, usual_kind, is_usual, is_leading}

module _ (v : ℕ) (frame : List ℕ) where
  pub short-recovery : length frame < 20 → false ≡ is_answered v frame
  unfolding is_answered when◌then◌else◌
  short-recovery l = rw (lt-ltb (length frame) 20 l)

  pub by-view : 20 ≤ length frame → (w : ℕ) → w ≡ num 4 16 frame → leb w v ≡ is_answered v frame
  unfolding is_answered when◌then◌else◌
  by-view l w e = rw (le-ltb (length frame) 20 l, e)

  pub kind-request : kind_of frame ≡ 1 → true ≡ usual_kind v frame
  unfolding usual_kind when◌then◌else◌
  kind-request k = rw k

  pub kind-prepare : kind_of frame ≡ 2 → (w : ℕ) → w ≡ num 4 7 frame → eqb w v ≡ usual_kind v frame
  unfolding usual_kind when◌then◌else◌
  kind-prepare k w e = rw (k, e)

  pub kind-prepare-ok : kind_of frame ≡ 3 → true ≡ usual_kind v frame
  unfolding usual_kind when◌then◌else◌
  kind-prepare-ok k = rw k

  pub kind-commit : kind_of frame ≡ 4 → (w : ℕ) → w ≡ num 4 7 frame → eqb w v ≡ usual_kind v frame
  unfolding usual_kind when◌then◌else◌
  kind-commit k w e = rw (k, e)

  pub kind-recovery : kind_of frame ≡ 10 → (r : Bool) → r ≡ is_answered v frame → r ≡ usual_kind v frame
  unfolding usual_kind when◌then◌else◌
  kind-recovery k r e = rw (k, e)

  pub kind-other : (k : ℕ) → k ≡ kind_of frame → (k ≡ 1 → ⊥) → (k ≡ 2 → ⊥) → (k ≡ 3 → ⊥) → (k ≡ 4 → ⊥) → (k ≡ 10 → ⊥) → false ≡ usual_kind v frame
  unfolding usual_kind when◌then◌else◌
  kind-other k e a b c d f = rw (← e, ne_eqb k 1 a, ne_eqb k 2 b, ne_eqb k 3 c, ne_eqb k 4 d, ne_eqb k 10 f)

module _ (s : Replica) (frame : List ℕ) where
  pub not-normal : not (is_normal s.status) ≡ true → false ≡ is_usual s frame
  unfolding is_usual when◌then◌else◌
  not-normal n = rw n

  pub short : not (is_normal s.status) ≡ false → length frame < 11 → false ≡ is_usual s frame
  unfolding is_usual when◌then◌else◌
  short n l = rw (n, lt-ltb (length frame) 11 l)

  pub by_kind : not (is_normal s.status) ≡ false → 11 ≤ length frame → (r : Bool) → r ≡ usual_kind s.view.0 frame → r ≡ is_usual s frame
  unfolding is_usual when◌then◌else◌
  by_kind n l r e = rw (n, le-ltb (length frame) 11 l, e)

module _ (s : Replica) where
  pub no-setup : s.setup.n ≡ 0 → false ≡ is_leading s
  unfolding is_leading when◌then◌else◌
  no-setup z = rw z

  pub not-leading : (s.setup.n ≡ 0 → ⊥) → not (is_normal s.status) ≡ true → false ≡ is_leading s
  unfolding is_leading when◌then◌else◌
  not-leading z n = rw (ne_eqb _ _ z, n)

  pub by-primary : (s.setup.n ≡ 0 → ⊥) → not (is_normal s.status) ≡ false → leads s ≡ is_leading s
  unfolding is_leading when◌then◌else◌
  by-primary z n = rw (ne_eqb _ _ z, n)
