-- `journal::examining::form_fault` meets its contract. Assumes nothing.
use borrow.Author.Tests.{lt-ltb, le-ltb, ne_eqb, eq-eqb}
use Rattle.numbers.specs.Words.{when◌then◌else◌}
use Rattle.journal.specs.Examining.{form_fault}
use Rattle.journal.proofs.examining.form_fault.Goals as goal

pub returns-then-s-lt50 : goal.returns-then-s-lt50
unfolding when◌then◌else◌ form_fault
returns-then-s-lt50 c =
    rw (lt-ltb _ _ c.if-s-lt50.true)

pub returns-then-read_u32-ne46 : goal.returns-then-read_u32-ne46
unfolding when◌then◌else◌ form_fault
returns-then-read_u32-ne46 c =
    rw (le-ltb _ _ c.if-s-lt50.false, ← c.read_u32.ensures, ne_eqb _ _ c.if-read_u32-ne46.true)

pub returns-then-read_u8-ne1 : goal.returns-then-read_u8-ne1
unfolding when◌then◌else◌ form_fault
returns-then-read_u8-ne1 c =
    rw (le-ltb _ _ c.if-s-lt50.false, ← c.read_u32.ensures, eq-eqb _ _ c.if-read_u32-ne46.false, ← c.read_u8.ensures, ne_eqb _ _ c.if-read_u8-ne1.true)

pub returns-then-read_u32-op : goal.returns-then-read_u32-op
unfolding when◌then◌else◌ form_fault
returns-then-read_u32-op c =
    rw (le-ltb _ _ c.if-s-lt50.false, ← c.read_u32.ensures, eq-eqb _ _ c.if-read_u32-ne46.false, ← c.read_u8.ensures, eq-eqb _ _ c.if-read_u8-ne1.false, ← c.read_u32-2.ensures, ne_eqb _ _ c.if-read_u32-op.true)

pub returns-then-not-entry_ok : goal.returns-then-not-entry_ok
unfolding when◌then◌else◌ form_fault
returns-then-not-entry_ok c =
    rw (le-ltb _ _ c.if-s-lt50.false, ← c.read_u32.ensures, eq-eqb _ _ c.if-read_u32-ne46.false, ← c.read_u8.ensures, eq-eqb _ _ c.if-read_u8-ne1.false, ← c.read_u32-2.ensures, eq-eqb _ _ c.if-read_u32-op.false, ← c.entry_ok.ensures, c.if-not-entry_ok.true)

pub returns : goal.returns
unfolding when◌then◌else◌ form_fault
returns c =
    rw (le-ltb _ _ c.if-s-lt50.false, ← c.read_u32.ensures, eq-eqb _ _ c.if-read_u32-ne46.false, ← c.read_u8.ensures, eq-eqb _ _ c.if-read_u8-ne1.false, ← c.read_u32-2.ensures, eq-eqb _ _ c.if-read_u32-op.false, ← c.entry_ok.ensures, c.if-not-entry_ok.false)
