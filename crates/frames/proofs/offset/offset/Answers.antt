-- `frames::offset::offset` meets its contract: length, version and kind, each test by what was read. Assumes nothing.
use mathlib.Core.Path.{◌≡◌, sym, ap, ◌∙◌}
use mathlib.Core.Bool.{true, false}
use Prim.Native.Nat.{ℕ, ◌+◌}
use lib.ListN.{drop}
use Rattle.numbers.specs.Numbers.{num}
use Rattle.offsets.specs.Rules.{reach}
use Rattle.frames.specs.Kinds.{kind_number, kind_of}
use Rattle.frames.specs.FrameRules.{fits, some_fits, kind_rule, offset_of}
use Rattle.frames.proofs.ReaderLaws.{length-short, length_none, length-wrong, length-there, version-short, kind-none, kind-wrong, kind-there}
use Rattle.frames.proofs.offset.offset.Goals as goal

pub returns-then-p-lt3 : goal.returns-then-p-lt3
returns-then-p-lt3 c = sym (length-short c.args.frame.now _ c.number-p.ensures c.if-p-lt3.true)

pub returns-then-frame-lt4 : goal.returns-then-frame-lt4
returns-then-frame-lt4 c =
    sym (length_none c.args.frame.now _ c.number-p.ensures c.if-p-lt3.false c.if-frame-lt4.true)

pub returns-then-not-some_fits : goal.returns-then-not-some_fits
returns-then-not-some_fits c =
    let some : c.some_fits.result ≡ some_fits 11 (num 4 0 c.args.frame.now) = c.some_fits.ensures ∙ ap (some_fits 11) c.read_u32-n.ensures in
    sym (length-wrong c.args.frame.now _ c.number-p.ensures c.if-p-lt3.false c.if-frame-lt4.false
    (sym some ∙ c.if-not-some_fits.true))

pub returns-then-at-eq4 : goal.returns-then-at-eq4
returns-then-at-eq4 c =
    let some : c.some_fits.result ≡ some_fits 11 (num 4 0 c.args.frame.now) = c.some_fits.ensures ∙ ap (some_fits 11) c.read_u32-n.ensures in
    let length-good : let s = c.args.frame.now in
    offset_of s ≡ 4 + reach (kind_rule c.read_u32-n.result) (drop 4 s) = let s = c.args.frame.now in
    length-there s _ c.number-p.ensures c.if-p-lt3.false c.if-frame-lt4.false (sym some ∙ c.if-not-some_fits.false)
    ∙ ap (λ (n : ℕ). 4 + reach (kind_rule n) (drop 4 s)) (sym c.read_u32-n.ensures) in
    sym (length-good ∙ version-short c.args.frame.now c.read_u32-n.result _ c.number-at.ensures c.if-at-eq4.true)

pub returns-then-frame-lt6 : goal.returns-then-frame-lt6
returns-then-frame-lt6 c =
    let some : c.some_fits.result ≡ some_fits 11 (num 4 0 c.args.frame.now) = c.some_fits.ensures ∙ ap (some_fits 11) c.read_u32-n.ensures in
    let length-good : let s = c.args.frame.now in
    offset_of s ≡ 4 + reach (kind_rule c.read_u32-n.result) (drop 4 s) = let s = c.args.frame.now in
    length-there s _ c.number-p.ensures c.if-p-lt3.false c.if-frame-lt4.false (sym some ∙ c.if-not-some_fits.false)
    ∙ ap (λ (n : ℕ). 4 + reach (kind_rule n) (drop 4 s)) (sym c.read_u32-n.ensures) in
    sym (length-good ∙ kind-none c.args.frame.now c.read_u32-n.result _ c.number-at.ensures c.if-at-eq4.false c.if-frame-lt6.true)

pub returns-in_default : goal.returns-in_default
returns-in_default c =
    let some : c.some_fits.result ≡ some_fits 11 (num 4 0 c.args.frame.now) = c.some_fits.ensures ∙ ap (some_fits 11) c.read_u32-n.ensures in
    let length-good : let s = c.args.frame.now in
    offset_of s ≡ 4 + reach (kind_rule c.read_u32-n.result) (drop 4 s) = let s = c.args.frame.now in
    length-there s _ c.number-p.ensures c.if-p-lt3.false c.if-frame-lt4.false (sym some ∙ c.if-not-some_fits.false)
    ∙ ap (λ (n : ℕ). 4 + reach (kind_rule n) (drop 4 s)) (sym c.read_u32-n.ensures) in
    let s = c.args.frame.now in
    let f : fits c.read_u32-n.result (kind_of s) ≡ false = rw (c.in_default.is, c.kind_of.ensures) at c.fitting.ensures in
    sym (length-good ∙ kind-wrong s c.read_u32-n.result _ c.number-at.ensures c.if-at-eq4.false c.if-frame-lt6.false f)

pub returns : goal.returns
returns c =
    let some : c.some_fits.result ≡ some_fits 11 (num 4 0 c.args.frame.now) = c.some_fits.ensures ∙ ap (some_fits 11) c.read_u32-n.ensures in
    let length-good : let s = c.args.frame.now in
    offset_of s ≡ 4 + reach (kind_rule c.read_u32-n.result) (drop 4 s) = let s = c.args.frame.now in
    length-there s _ c.number-p.ensures c.if-p-lt3.false c.if-frame-lt4.false (sym some ∙ c.if-not-some_fits.false)
    ∙ ap (λ (n : ℕ). 4 + reach (kind_rule n) (drop 4 s)) (sym c.read_u32-n.ensures) in
    let s = c.args.frame.now in
    let f : (fits c.read_u32-n.result (kind_of s) ≡ true) × (kind_number c.in-Some.kind ≡ kind_of s) = rw (c.in-Some.is, c.kind_of.ensures) at c.fitting.ensures in
    rw f.1 at c.body.ensures
    ∙ sym (length-good ∙ kind-there s c.read_u32-n.result _ c.number-at.ensures c.if-at-eq4.false c.if-frame-lt6.false f.0)
