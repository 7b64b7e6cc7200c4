-- `frames::offset::entry` meets its contract. Assumes nothing.
use mathlib.Core.Path.{◌≡◌, sym, ◌∙◌}
use native.Mathlib.Omega.{arith}
use borrow.Author.Tests.{leb-true}
use lib.Dec.{leb}
use lib.ListN.{length, drop}
use Rattle.numbers.specs.Numbers.{Bytes}
use Rattle.numbers.proofs.NumberLaws.{drop-bytes}
use Rattle.numbers.proofs.WordLaws.{and_both}
use Rattle.entries.specs.Entries.{entry_ok}
use Rattle.offsets.specs.Rules.{end, reach}
use Rattle.frames.specs.FrameRules.{entry_rule}
use Rattle.frames.proofs.ReaderLaws.{good-entry}
use Rattle.frames.proofs.offset.entry.Goals as goal

pub returns-then-is_good : goal.returns-then-is_good
returns-then-is_good c =
    let whole : let a = c.args in reach (entry_rule end) (drop a.at a.s.now) ≡ 32 = let a = c.args in
    let s = drop a.at a.s.now in
    let b : Bytes a.s.now = λ i. omega (arith, c.shared_slice_known-1.given i) in
    let p = and_both (leb 32 (length s)) (entry_ok s) (sym c.is_good.ensures ∙ c.if-is_good.true) in
    good-entry s (drop-bytes a.at a.s.now b) (leb-true 32 (length s) p.0) p.1 in
    omega (arith, whole)
