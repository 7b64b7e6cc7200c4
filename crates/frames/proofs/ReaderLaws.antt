-- For the readers of a frame's places.
--     cents-field, entry-field    cents and entries are fields of 8 and of 32 bytes
--     good-entry                  an entry that keeps the entry rules is kept whole
--     length-short, length_none, length-wrong, length-there, version-short, kind-none, kind-wrong, kind-there    a frame up to its kind, by what is read
-- Assumes nothing.
use mathlib.Core.Path.{◌≡◌, sym, ap, ◌∙◌}
use mathlib.Core.Bool.{Bool, true, false}
use mathlib.Core.List.{List, ◌++◌}
use Prim.Native.Nat.{ℕ, ◌+◌, ◌*◌, ◌≤◌, ◌<◌}
use native.Mathlib.Omega.{arith}
use lib.Dec.{eqb}
use lib.ListN.{length, take, drop, take-append-drop}
use lib.Seq.{length-take-le}
use Rattle.numbers.specs.Words.{when◌then◌else◌}
use Rattle.numbers.specs.Numbers.{num, Bytes}
use Rattle.numbers.proofs.NumberLaws.{take-bytes, num-front}
use Rattle.entries.specs.Entries.{entry_ok}
use Rattle.offsets.specs.Rules.{Rule, end, byte, reach, number_reach}
use Rattle.offsets.proofs.RuleLaws.{reach-front}
use Rattle.offsets.proofs.PlaceLaws.{at-end}
use Rattle.offsets.proofs.ReadLaws.{Field, free-field, join-field, number-field, no_field, number-le, past-number, short-number, byte-none, byte-wrong, byte-there}
use Rattle.frames.specs.Kinds.{kind_of}
use Rattle.frames.specs.FrameRules.{fits, some_fits, cents_rule, entry_rule, body_rule, kind_rule, frame_rule, offset_of}
use Rattle.frames.proofs.EntryPlaces.{at_entry}
use Rattle.frames.proofs.BodyLaws.{length-parts}

-- ---- fields

either-field : {n : ℕ} {f g : Rule → Rule} (b : Bool) → Field n f → Field n g → Field n (λ r. when b then f r else g r)
unfolding when◌then◌else◌
either-field true x y = x
either-field false x y = y

pub cents-field : (k : ℕ) → Field 8 (cents_rule k)
unfolding cents_rule
cents-field k = either-field (eqb k 3) (number-field 8 0 0 (λ v. no_field)) (number-field 8 1 1000000 (λ v. no_field))

pub entry-field : Field 32 entry_rule
unfolding entry_rule
entry-field = join-field (free-field 16) (number-field 1 1 3 (λ k. number-field 3 0 0 (λ x. join-field (free-field 4) (cents-field k))))

-- ---- an entry that keeps the entry rules

-- what follows it doesn't matter
entry-front : (s w : List ℕ) → 32 ≤ length s → entry_ok (s ++ w) ≡ entry_ok s
unfolding entry_ok
entry-front s w h = rw (num-front 3 17 s w (omega arith), num-front 1 16 s w (omega arith), num-front 8 24 s w (omega arith))

pub good-entry : (s : List ℕ) → Bytes s → 32 ≤ length s → entry_ok s ≡ true → reach (entry_rule end) s ≡ 32
good-entry s b h o =
    let t = take 32 s in
    let l : length t ≡ 32 = length-take-le 32 s h in
    let e : t ++ drop 32 s ≡ s = take-append-drop 32 s in
    let g : entry_ok t ≡ true = sym (entry-front t (drop 32 s) (omega (arith, l))) ∙ ap entry_ok e ∙ o in
    let k = at_entry end 0 t (take-bytes 32 s b) (omega (arith, l)) g (at-end 32 t l) in
    ap (reach (entry_rule end)) (sym e) ∙ reach-front (entry_rule end) t (drop 32 s) k ∙ l

-- ---- the length, version and kind

module _ (s : List ℕ) where
  -- what follows the first three bytes, and those
  abbrev from_last : ℕ → Rule
  from_last x = byte (λ b. some_fits 11 (x * 256 + b)) (λ b. kind_rule (x * 256 + b))

  module _ (p : ℕ) (e : p ≡ 0 + number_reach 3 0 0 16777215 (drop 0 s)) where
    pub length-short : p < 3 → offset_of s ≡ p
    unfolding offset_of frame_rule
    length-short h = let g = short-number 0 s p 3 0 16777215 from_last e (omega arith) in omega (arith, g)

    last-left : 3 ≤ p → offset_of s ≡ 3 + reach (from_last (num 3 0 s)) (drop 3 s)
    unfolding offset_of frame_rule
    last-left h =
        let g = past-number 0 s p 3 0 16777215 from_last e (omega arith) in
        let q : p ≡ 3 = omega (arith, h, e, number-le 3 0 0 16777215 (drop 0 s)) in
        let w : p + reach (from_last (num 3 0 s)) (drop p s) ≡ 3 + reach (from_last (num 3 0 s)) (drop 3 s) = rw q in
        omega (arith, g, w)

    module _ (h : 3 ≤ p) where
      pub length_none : length s < 4 → offset_of s ≡ 3
      length_none l = last-left h ∙ byte-none _ _ 3 s (omega arith)

      pub length-wrong : 4 ≤ length s → some_fits 11 (num 4 0 s) ≡ false → offset_of s ≡ 3
      length-wrong l f = last-left h ∙ byte-wrong _ _ 3 s (omega arith) (rw (length-parts s l) at f)

      pub length-there : 4 ≤ length s → some_fits 11 (num 4 0 s) ≡ true → offset_of s ≡ 4 + reach (kind_rule (num 4 0 s)) (drop 4 s)
      length-there l t = last-left h ∙ rw (length-parts s l) (byte-there _ _ 3 s (omega arith) (rw (length-parts s l) at t))

  -- the version, read to q
  module _ (n q : ℕ) (e : q ≡ 4 + number_reach 1 0 1 1 (drop 4 s)) where
    pub version-short : q ≡ 4 → 4 + reach (kind_rule n) (drop 4 s) ≡ 4
    unfolding kind_rule
    version-short h = short-number 4 s q 1 1 1 (λ x. byte (fits n) (body_rule n)) e (omega arith) ∙ h

    kind-left : (q ≡ 4 → ⊥) → 4 + reach (kind_rule n) (drop 4 s) ≡ 5 + reach (byte (fits n) (body_rule n)) (drop 5 s)
    unfolding kind_rule
    kind-left h =
        let k = number-le 1 0 1 1 (drop 4 s) in
        let x : q ≡ 5 = omega (arith, h, e, k) in
        let g = past-number 4 s q 1 1 1 (λ x. byte (fits n) (body_rule n)) e (omega (arith, h, e)) in
        g ∙ rw x

    module _ (h : q ≡ 4 → ⊥) where
      pub kind-none : length s < 6 → 4 + reach (kind_rule n) (drop 4 s) ≡ 5
      kind-none l = kind-left h ∙ byte-none (fits n) (body_rule n) 5 s (omega arith)

      pub kind-wrong : 6 ≤ length s → fits n (kind_of s) ≡ false → 4 + reach (kind_rule n) (drop 4 s) ≡ 5
      kind-wrong l f = kind-left h ∙ byte-wrong (fits n) (body_rule n) 5 s (omega arith) f

      pub kind-there : 6 ≤ length s → fits n (kind_of s) ≡ true → 4 + reach (kind_rule n) (drop 4 s) ≡ 6 + reach (body_rule n (kind_of s)) (drop 6 s)
      kind-there l t = kind-left h ∙ byte-there (fits n) (body_rule n) 5 s (omega arith) t
