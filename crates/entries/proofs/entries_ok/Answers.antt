-- `entries::entries_ok` meets its contract. Assumes nothing.
use mathlib.Core.Path.{◌≡◌, sym, ◌∙◌}
use mathlib.Core.Bool.{true, false}
use Prim.Native.Nat.{suc, ◌+◌, ◌-◌, ◌*◌}
use native.Mathlib.Omega.{arith}
use lib.ListN.{drop}
use Rattle.entries.specs.Entries.{entry_ok, entries_ok}
use Rattle.entries.proofs.EntryLaws.{entries_ok-next, entries_ok-stop}
use Rattle.entries.proofs.entries_ok.Goals as goal

pub returns-then-not-entry_ok : goal.returns-then-not-entry_ok
returns-then-not-entry_ok c =
    let l = c.loop-i in
    let a = c.args in
    let m : a.k - l.i ≡ suc (a.k - (l.i + 1)) = omega arith in
    let e : entry_ok (drop (a.at + 32 * l.i) a.s.now) ≡ false = sym c.entry_ok.ensures ∙ c.if-not-entry_ok.true in
    sym (l.invariant ∙ rw m (entries_ok-stop a.s.now (a.at + 32 * l.i) (a.k - (l.i + 1)) e))

pub loop-i-preserved : goal.loop-i-preserved
loop-i-preserved c =
    let l = c.loop-i in
    let a = c.args in
    let m : a.k - l.i ≡ suc (a.k - (l.i + 1)) = omega arith in
    let e : entry_ok (drop (a.at + 32 * l.i) a.s.now) ≡ true = sym c.entry_ok.ensures ∙ c.if-not-entry_ok.false in
    let p : a.at + 32 * (l.i + 1) ≡ a.at + 32 * l.i + 32 = omega arith in
    l.invariant ∙ rw (m, p) (entries_ok-next a.s.now (a.at + 32 * l.i) (a.k - (l.i + 1)) e)

pub returns : goal.returns
unfolding entries_ok
returns c =
    let l = c.loop-i in
    let z : c.args.k - l.i ≡ 0 = omega arith in
    sym (l.invariant ∙ rw z)
