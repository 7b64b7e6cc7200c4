-- Laws of the frames' lengths.
--     encode-length   a frame is as long as `length_of` says, where the log's bytes are as many as its entries ask
--     fields-small    no kind has more than 51 bytes before its log
--     others-length   the frames to all others of n are n - 1
--     others-most     the frames to the others below k take no more than those to all
--     room-left       there is room for the next of them
-- Assumes nothing.
use Rattle.std.specs.Prelude.{Some, None}
use mathlib.Core.Path.{◌≡◌, refl, sym, ap, ◌∙◌}
use mathlib.Core.List.{List, append-nil}
use mathlib.Core.Logic.{⊎_elim}
use Prim.Native.Nat.{ℕ, zero, suc, ◌+◌, ◌-◌, ◌*◌, ◌≤◌, ◌<◌}
use native.Mathlib.Nat.{suc-mul, mul-le-mul_right}
use native.Mathlib.Omega.{arith}
use lib.Dec.{lit≤}
use lib.ListN.{length, length-append}
use borrow.Author.Tests.{eq-eqb, ne_eqb}
use Rattle.numbers.specs.Numbers.{big}
use Rattle.entries.specs.Entries.{encode_entry}
use Rattle.numbers.proofs.NumberLaws.{eq-or-not, le-or-lt}
use Rattle.frames.specs.declared.Message.{Message}
use Rattle.frames.specs.declared.Message.TheVariants.{Request, Prepare, PrepareOk, Commit, GetState, NewState, StartViewChange, DoViewChange, StartView, Recovery, RecoveryResponse}
use Rattle.numbers.specs.Words.{when◌then◌else◌}
use Rattle.writers.specs.Writers.{header, encode, state_size, size_of, length_of, to_others}

pub encode-length : (to : ℕ) (m : Message) (log : List ℕ) → length log ≡ 32 * (size_of m).entries → length (encode to m log) ≡ length_of m
unfolding encode header big encode_entry state_size size_of length_of
encode-length to (Request e) log h = refl
encode-length to (Prepare v o c e) log h = refl
encode-length to (PrepareOk v o r) log h = refl
encode-length to (Commit v c) log h = refl
encode-length to (GetState r v o) log h = refl
encode-length to (NewState v a z c) log h = omega arith
encode-length to (StartViewChange v r) log h = refl
encode-length to (DoViewChange v r l o c) log h = omega arith
encode-length to (StartView v o c) log h = omega arith
encode-length to (Recovery r x v) log h = refl
encode-length to (RecoveryResponse v x r None) log h = refl
encode-length to (RecoveryResponse v x r (Some p)) log h = omega arith

pub fields-small : (m : Message) → (size_of m).fields ≤ 51
unfolding size_of state_size
fields-small (Request e) = lit≤ tt
fields-small (Prepare v o c e) = lit≤ tt
fields-small (PrepareOk v o r) = lit≤ tt
fields-small (Commit v c) = lit≤ tt
fields-small (GetState r v o) = lit≤ tt
fields-small (NewState v a z c) = lit≤ tt
fields-small (StartViewChange v r) = lit≤ tt
fields-small (DoViewChange v r l o c) = lit≤ tt
fields-small (StartView v o c) = lit≤ tt
fields-small (Recovery r x v) = lit≤ tt
fields-small (RecoveryResponse v x r None) = lit≤ tt
fields-small (RecoveryResponse v x r (Some p)) = lit≤ tt

-- ---- frames to the others

module _ (me : ℕ) (m : Message) (log : List ℕ) (h : length log ≡ 32 * (size_of m).entries) where
  -- a frame to k, where k is another
  others-next : (k : ℕ) → (k ≡ me → ⊥) → length (to_others (suc k) me m log) ≡ length (to_others k me m log) + length_of m
  unfolding to_others when◌then◌else◌
  others-next k ne = rw (ne_eqb k me ne, length-append (to_others k me m log) (encode k m log), encode-length k m log h)

  -- up to `me` a frame each
  others-up : (k : ℕ) → k ≤ me → length (to_others k me m log) ≡ k * length_of m
  unfolding to_others
  others-up zero l = omega arith
  others-up (suc k) l =
      others-next k (λ e. omega arith)
      ∙ ap (λ (x : ℕ). x + length_of m) (others-up k (omega arith))
      ∙ sym (suc-mul k (length_of m))

  -- past it one less
  others-past : (k : ℕ) → me ≤ k → length (to_others (suc k) me m log) ≡ k * length_of m
  unfolding to_others when◌then◌else◌
  others-past zero l =
      let e : 0 ≡ me = omega arith in
      rw (eq-eqb 0 me e) (omega arith)
  others-past (suc k) l =
      ⊎_elim
      (λ e. rw (eq-eqb (suc k) me e, append-nil (to_others (suc k) me m log)) (others-up (suc k) (omega arith)))
      (λ ne. others-next (suc k) ne ∙ ap (λ (x : ℕ). x + length_of m) (others-past k (omega arith)) ∙ sym (suc-mul k (length_of m)))
      (eq-or-not (suc k) me)

  -- to all others of n
  pub others-length : (n : ℕ) → me < n → length (to_others n me m log) ≡ (n - 1) * length_of m
  others-length zero l = absurd (omega arith)
  others-length (suc n) l =
      let e : suc n - 1 ≡ n = omega arith in
      rw e (others-past n (omega arith))

  -- one more of k frames fits where n - 1 do
  fits_more : (n k x : ℕ) → x ≡ k * length_of m → suc k ≤ n - 1 → x + length_of m ≤ (n - 1) * length_of m
  fits_more n k x e l = omega (arith, suc-mul k (length_of m), mul-le-mul_right (length_of m) l)

  pub room-left : (n k : ℕ) → k < n → me < n → (k ≡ me → ⊥) → length (to_others k me m log) + length_of m ≤ (n - 1) * length_of m
  room-left n zero kn mn ne = fits_more n 0 _ (others-up 0 (omega arith)) (omega (arith, ne))
  room-left n (suc k) kn mn ne =
      ⊎_elim
      (λ l. fits_more n (suc k) _ (others-up (suc k) l) (omega (arith, ne)))
      (λ l. fits_more n k _ (others-past k (omega arith)) (omega arith))
      (le-or-lt (suc k) me)

  pub others-most : (n k : ℕ) → k ≤ n → me < n → length (to_others k me m log) ≤ (n - 1) * length_of m
  others-most n zero kn mn = omega (arith, others-up 0 (omega arith))
  others-most n (suc k) kn mn =
      ⊎_elim
      (λ l. omega (arith, others-up (suc k) l, mul-le-mul_right {m = suc k} {n = n - 1} (length_of m) (omega arith)))
      (λ l. omega (arith, others-past k (omega arith), mul-le-mul_right {m = k} {n = n - 1} (length_of m) (omega arith)))
      (le-or-lt (suc k) me)
