-- Laws of rules, for every rule.
--     some_word      a rule that never gets stuck has bytes that keep it
--     reach-le       no more bytes keep it than there are
--     reach-good     the bytes that keep it can be gone on to what the rule asks for
--     reach-bad      with the next byte they can't
--     reach-whole    bytes that the rule takes all keep it
--     reach-front    and do, whatever follows them
-- Assumes nothing.
use mathlib.Core.Path.{◌≡◌, refl}
use mathlib.Core.Bool.{true, false, false≢true}
use mathlib.Core.List.{List, [], ◌∷◌, ◌++◌}
use Prim.Native.Nat.{ℕ, zero, suc, ◌≤◌, ◌<◌}
use native.Mathlib.Omega.{arith}
use lib.ListN.{length, take}
use Rattle.numbers.specs.Words.{when◌then◌else◌, ◌and◌}
use Rattle.numbers.specs.Numbers.{Bytes}
use Rattle.numbers.proofs.WordLaws.{split, and_both}
use Rattle.offsets.specs.Rules.{Rule, end, byte, reach, takes}

-- at each place some byte may come, and whichever comes, it goes on so
unfoldable pub Lives : Rule → Type 0
Lives end = Unit {0}
Lives (byte ok next) = ((b : ℕ) × (b < 256) × (ok b ≡ true)) × ((b : ℕ) → b < 256 → ok b ≡ true → Lives (next b))

pub no_bytes : Bytes []
no_bytes i = omega arith

pub cons-bytes : (b : ℕ) (s : List ℕ) → b < 256 → Bytes s → Bytes (b ∷ s)
cons-bytes b s h g zero = h
cons-bytes b s h g (suc i) = g i

pub some_word : (r : Rule) → Lives r → (w : List ℕ) × Bytes w × (takes r w ≡ true)
unfolding Lives takes ◌and◌
some_word end l = ([], no_bytes, refl)
some_word (byte ok next) l =
    let x = some_word (next l.0.0) (l.1 l.0.0 l.0.1 l.0.2) in
    (l.0.0 ∷ x.0, cons-bytes l.0.0 x.0 l.0.1 x.1, rw l.0.2 x.2)

pub reach-le : (r : Rule) (s : List ℕ) → reach r s ≤ length s
unfolding reach
reach-le end s = omega arith
reach-le (byte ok next) [] = omega arith
reach-le (byte ok next) (b ∷ s) =
    split (λ (p : ℕ). p ≤ suc (length s)) (ok b) (suc (reach (next b) s)) 0 (λ e. omega (arith, reach-le (next b) s)) (λ e. omega arith)

pub reach-good : (r : Rule) (s : List ℕ) → Lives r → Bytes s → (w : List ℕ) × Bytes w × (takes r (take (reach r s) s ++ w) ≡ true)
unfolding reach takes Lives ◌and◌
reach-good end s l h = ([], no_bytes, refl)
reach-good (byte ok next) [] l h = some_word (byte ok next) l
reach-good (byte ok next) (b ∷ s) l h =
    split (λ (p : ℕ). (w : List ℕ) × Bytes w × (takes (byte ok next) (take p (b ∷ s) ++ w) ≡ true)) (ok b) (suc (reach (next b) s)) 0
    (λ e. let x = reach-good (next b) s (l.1 b (h 0) e) (λ i. h (suc i)) in (x.0, x.1, rw e x.2))
    (λ e. some_word (byte ok next) l)

pub reach-bad : (r : Rule) (s w : List ℕ) → reach r s < length s → takes r (take (suc (reach r s)) s ++ w) ≡ false
unfolding reach takes ◌and◌
reach-bad end [] w h = absurd (omega arith)
reach-bad end (b ∷ s) w h = refl
reach-bad (byte ok next) [] w h = absurd (omega arith)
reach-bad (byte ok next) (b ∷ s) w h =
    split (λ (p : ℕ). p < suc (length s) → takes (byte ok next) (take (suc p) (b ∷ s) ++ w) ≡ false) (ok b) (suc (reach (next b) s)) 0
    (λ e. λ g. rw e (reach-bad (next b) s w (omega arith)))
    (λ e. λ g. rw e)
    h

-- bytes that are just what the rule asks for all keep it
pub reach-whole : (r : Rule) (s : List ℕ) → takes r s ≡ true → reach r s ≡ length s
unfolding reach takes when◌then◌else◌
reach-whole end [] h = refl
reach-whole end (b ∷ s) h = absurd (false≢true h)
reach-whole (byte ok next) [] h = refl
reach-whole (byte ok next) (b ∷ s) h =
    let p = and_both (ok b) (takes (next b) s) h in
    rw (p.0, reach-whole (next b) s p.1)

pub reach-front : (r : Rule) (s w : List ℕ) → takes r s ≡ true → reach r (s ++ w) ≡ length s
unfolding reach takes when◌then◌else◌
reach-front end [] w h = refl
reach-front end (b ∷ s) w h = absurd (false≢true h)
reach-front (byte ok next) [] w h = absurd (false≢true h)
reach-front (byte ok next) (b ∷ s) w h =
    let p = and_both (ok b) (takes (next b) s) h in
    rw (p.0, reach-front (next b) s w p.1)
