-- `journal::read` meets its contract. Assumes nothing.
use mathlib.Core.Path.{◌≡◌, sym, ap, ◌∙◌}
use Prim.Native.Nat.{ℕ, ◌/◌}
use native.Mathlib.Omega.{arith}
use lib.ListN.{length}
use Rattle.numbers.specs.Numbers.{big, over}
use Rattle.numbers.specs.Cells.{packed}
use Rattle.entries.specs.Entries.{encode_entry}
use Rattle.model.specs.Book.{through}
use Rattle.journal.specs.Journal.{no_totals, filed}
use Rattle.journal.proofs.TakingLaws.{there-is}
use Rattle.journal.proofs.CallLaws.{read-out, read-bad, read-no_room, read_done}
use Rattle.journal.proofs.read.Goals as goal

pub returns-then-not-totals_there : goal.returns-then-not-totals_there
returns-then-not-totals_there c =
    let a = c.args in
    read-out a.members a.file.now a.area.now a.totals.now (sym c.totals_there.ensures ∙ c.if-not-totals_there.true)

pub examine-j-requires : goal.examine-j-requires
examine-j-requires c = (there-is c.args.members c.args.totals.now (sym c.totals_there.ensures ∙ c.if-not-totals_there.false)).some

pub returns-in-Some : goal.returns-in-Some
returns-in-Some c =
    let a = c.args in
    read-bad a.members a.file.now a.area.now a.totals.now (sym c.totals_there.ensures ∙ c.if-not-totals_there.false) c.examine-j.result
    c.examine-j.ensures.is c.in-Some.fault c.in-Some.is

pub returns-then-area-j : goal.returns-then-area-j
returns-then-area-j c =
    let a = c.args in
    read-no_room a.members a.file.now a.area.now a.totals.now (sym c.totals_there.ensures ∙ c.if-not-totals_there.false) c.examine-j.result
    c.examine-j.ensures.is c.in_default.is c.if-area-j.true

pub copy_entries-requires : goal.copy_entries-requires
copy_entries-requires c =
    let x = c.examine-j.ensures in
    record { few = omega (arith, x.few, x.whole c.in_default.is); room = omega (arith, x.whole c.in_default.is, c.if-area-j.false) }

pub put_totals-requires : goal.put_totals-requires
put_totals-requires c = (there-is c.args.members c.args.totals.now (sym c.totals_there.ensures ∙ c.if-not-totals_there.false)).long

pub returns : goal.returns
returns c =
    let a = c.args in
    let file = a.file.now in
    let j = c.examine-j.result in
    let e : length file / 50 ≡ j.frames = omega (arith, c.examine-j.ensures.whole c.in_default.is) in
    read_done a.members file a.area.now a.totals.now (sym c.totals_there.ensures ∙ c.if-not-totals_there.false) j
    c.examine-j.ensures.is c.in_default.is _ _ c.if-area-j.false
    (c.copy_entries.ensures ∙ ap (λ (k : ℕ). over (packed encode_entry (filed k file)) a.area.now) e)
    (c.put_totals.ensures ∙ ap (λ (k : ℕ). packed (big 8) (through (no_totals a.members) (filed k file))) e)
