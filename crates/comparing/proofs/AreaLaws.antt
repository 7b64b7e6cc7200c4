-- The runs' places in the memory, and turns of the loop over bytes that a call has to leave alone. Assumes nothing.
use borrow.Rule.Slice.PartMut.{put_mid}
use Rattle.std.proofs.Common.{◌++◌, ◌⊎◌, inl, inr, leb, refl, sym, ◌≡◌, ℕ, ◌+◌, ◌-◌, ◌<◌, ◌≤◌, false, List, length, take, drop, replicate, arith, length-drop, length-take, le-leb}
use borrow.Author.Tests.{lt-leb}
use Rattle.std.proofs.lemmas.List.{length-replicate}
use Rattle.numbers.specs.Words.{when◌then◌else◌, ◌and◌}
use Rattle.numbers.specs.Numbers.{over, put_at}
use Rattle.numbers.proofs.WordLaws.{and-false}
use Rattle.comparing.specs.Areas.{fetched_at, stored_at, spoilt_to, all_spoilt, left_alone}

module _ (from to : ℕ) (area : List ℕ) where
  pub alone-none : (to < from) ⊎ (length area < to) → false ≡ left_alone from to area
  unfolding left_alone ◌and◌
  alone-none (inl h) = rw (lt-leb from to h) (sym (and-false (leb to (length area)) false refl))
  alone-none (inr h) = rw (lt-leb to (length area) h)

  pub alone-all : to ≤ length area → from ≤ to → all_spoilt (take (to - from) (drop from area)) ≡ left_alone from to area
  unfolding left_alone ◌and◌
  alone-all h l = rw (le-leb to (length area) h, le-leb from to l)

module _ (a : ℕ) (memory area : List ℕ) where
  pub fetch-none : length memory < a + length area → area ≡ fetched_at a memory area
  unfolding fetched_at when◌then◌else◌
  fetch-none h = rw (lt-leb (a + length area) (length memory) h)

  pub fetch-some : a + length area ≤ length memory → take (length area) (drop a memory) ≡ fetched_at a memory area
  unfolding fetched_at when◌then◌else◌
  fetch-some h = rw (le-leb (a + length area) (length memory) h)

module _ (a : ℕ) (run memory : List ℕ) where
  pub store-none : length memory < a + length run → memory ≡ stored_at a run memory
  unfolding stored_at when◌then◌else◌
  store-none h = rw (lt-leb (a + length run) (length memory) h)

  -- a run copied to `memory[a..end]`
  pub store-some : {part : List ℕ} (end : ℕ) → end ≡ a + length run → end ≤ length memory → part ≡ run → put_mid a (end - a) memory part ≡ stored_at a run memory
  unfolding stored_at put_at over when◌then◌else◌
  store-some end p h e = let n : end - a ≡ length run = omega arith in rw (n, e, ← p, le-leb end (length memory) h) refl

module _ (n : ℕ) (area : List ℕ) where
  pub spoil-none : length area < n → area ≡ spoilt_to n area
  unfolding spoilt_to when◌then◌else◌
  spoil-none h = rw (lt-leb n (length area) h)

  pub spoil-some : {part : List ℕ} → n ≤ length area → part ≡ replicate (length (take n area)) 165 → part ++ drop n area ≡ spoilt_to n area
  unfolding spoilt_to over when◌then◌else◌
  spoil-some h e = let l : length (take n area) ≡ n = simp length-take (omega arith) in rw (le-leb n (length area) h, e, l, length-replicate {A = ℕ} n 165) refl

-- n bytes from a place on are n
pub part-length : (a n : ℕ) (memory : List ℕ) {part : List ℕ} → a + n ≤ length memory → part ≡ take n (drop a memory) → length part ≡ n
part-length a n memory h e = rw (e, length-take, length-drop) (omega arith)
