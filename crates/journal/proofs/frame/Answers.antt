-- `journal::frame` meets its contract. Assumes nothing.
use Rattle.std.specs.Prelude.{Ok, Err}
use Rattle.std.proofs.lemmas.Result.{err_from_is_err_and}
use Rattle.std.proofs.lemmas.Grind.{common_steps}
use mathlib.Core.Logic.{⊎_elim}
use mathlib.Core.Path.{◌≡◌, sym, ap, ◌∙◌}
use Prim.Native.Nat.{◌+◌, ◌*◌, ◌<◌}
use native.Mathlib.Omega.{arith}
use lib.ListN.{length, drop, length-drop}
use borrow.Author.Tests.{le-leb, lt-leb}
use Rattle.numbers.proofs.WordLaws.{if-true, if-false}
use Rattle.journal.specs.Journal.{framed_entry, framed_result}
use Rattle.journal.specs.Examining.{form_fault}
use Rattle.journal.specs.Calls.{frame_in}
use Rattle.journal.proofs.FaultLaws.{cut-short, frame-there}
use Rattle.journal.proofs.frame.Goals as goal

pub returns-then-i-ge4096 : goal.returns-then-i-ge4096
unfolding frame_in
returns-then-i-ge4096 c = sym (if-true _ _ _ (le-leb _ _ c.if-i-ge4096.true))

pub returns-in_default : goal.returns-in_default
unfolding frame_in
returns-in_default c =
    let a = c.args in
    let l = ⊎_elim (λ (h : length a.file.now < 50 * a.i). h) (λ h. absurd (omega arith)) c.in_default.ensures.lookup.0 in
    let short : length (drop (50 * a.i) a.file.now) < 50 = omega (arith, length-drop (50 * a.i) a.file.now, l) in
    let f = cut-short (a.i + 1) (drop (50 * a.i) a.file.now) short in
    sym (if-false _ _ _ (lt-leb _ _ c.if-i-ge4096.false) ∙ rw f)

pub returns-in_err-form_fault : goal.returns-in_err-form_fault
unfolding frame_in
returns-in_err-form_fault c =
    let a = c.args in
    let p = err_from_is_err_and c.from_residual.result c.from_residual.ensures.1 in
    let r : c.in-Some.rest.now ≡ drop (50 * a.i) a.file.now = grind (arith, common_steps) in
    let e = ap (form_fault (a.i + 1)) (sym r) ∙ sym c.form_fault.ensures ∙ c.in_err-form_fault.was in
    p.1 ∙ (λ k. Err (p.2 k)) ∙ sym (if-false _ _ _ (lt-leb _ _ c.if-i-ge4096.false) ∙ rw e)

pub entry_at-requires : goal.entry_at-requires
entry_at-requires c =
    let a = c.args in
    omega (arith, frame-there (a.i + 1) c.in-Some.rest.now (sym c.form_fault.ensures ∙ c.in_ok-form_fault.was))

pub result_at-requires : goal.result_at-requires
result_at-requires c =
    let a = c.args in
    omega (arith, frame-there (a.i + 1) c.in-Some.rest.now (sym c.form_fault.ensures ∙ c.in_ok-form_fault.was))

pub returns : goal.returns
unfolding frame_in
returns c =
    let a = c.args in
    let r : c.in-Some.rest.now ≡ drop (50 * a.i) a.file.now = grind (arith, common_steps) in
    let e = c.entry_at.ensures ∙ ap framed_entry r in
    let o = c.result_at.ensures ∙ ap framed_result r in
    let f = ap (form_fault (a.i + 1)) (sym r) ∙ sym c.form_fault.ensures ∙ c.in_ok-form_fault.was in
    (λ k. Ok (record { entry = e k; outcome = o k })) ∙ sym (if-false _ _ _ (lt-leb _ _ c.if-i-ge4096.false) ∙ rw f)
