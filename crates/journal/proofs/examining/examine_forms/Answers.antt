-- `journal::examining::examine_forms` meets its contract. Assumes nothing.
use mathlib.Core.Path.{◌≡◌, sym, ap, ◌∙◌, subst}
use Prim.Native.Nat.{ℕ, ◌+◌, ◌*◌, ◌/◌, ◌≤◌}
use native.Mathlib.Omega.{arith}
use lib.ListN.{length, length-drop}
use Rattle.journal.specs.Examining.{form_fault}
use Rattle.journal.proofs.ChunkLaws.{turn-next, turn-room}
use Rattle.journal.proofs.BelowLaws.{Forms, forms-none, cut-of, cut-form, cut-more, cut-good, forms-more, forms-past, forms-bad, forms-end}
use Rattle.journal.proofs.examining.examine_forms.Goals as goal

pub loop-i-init : goal.loop-i-init
loop-i-init c =
    let z : c.into_iter-i-iterator.result.count ≡ 0 = cc in
    let file = c.args.file.now in
    record {
      size = cc;
      rest = rw z cc;
      few = omega (arith, z);
      there = omega (arith, z);
      forms = subst (λ (k : ℕ). Forms k file) (sym z) (forms-none file);
    }

pub returns-then-i-eq4096 : goal.returns-then-i-eq4096
returns-then-i-eq4096 c M pos =
    let s = c.in-Some.ensures.steps in
    let v = c.loop-i.invariant in
    let file = c.args.file.now in
    let i = c.loop-i.i-iterator.count in
    let n = cut-of {i = i} {file = file} v.size v.rest s.0.1.0 s.0.1.1 s.0.1.2 in
    rw s.1 (forms-past M i file pos v.few v.there v.forms (cut-more n) (sym s.1 ∙ c.if-i-eq4096.true))

pub overflow_cast-i : goal.overflow_cast-i
overflow_cast-i c = omega (arith, c.in-Some.ensures.steps.1, c.loop-i.invariant.few)

pub returns-in-Err : goal.returns-in-Err
returns-in-Err c M pos =
    let s = c.in-Some.ensures.steps in
    let v = c.loop-i.invariant in
    let file = c.args.file.now in
    let i = c.loop-i.i-iterator.count in
    let n = cut-of {i = i} {file = file} v.size v.rest s.0.1.0 s.0.1.1 s.0.1.2 in
    let e = sym (cut-form (i + 1) n) ∙ (λ k. form_fault (sym s.1 k + 1) c.in-Some.frame.now) ∙ sym c.form_fault.ensures ∙ c.in-Err.is in
    rw s.1 (forms-bad M i file pos v.few v.there v.forms (cut-more n) c.in-Err.fault (omega (arith, c.if-i-eq4096.false, s.1, v.few)) e)

pub loop-i-preserved : goal.loop-i-preserved
loop-i-preserved c =
    let s = c.in-Some.ensures.steps in
    let v = c.loop-i.invariant in
    let file = c.args.file.now in
    let i = c.loop-i.i-iterator.count in
    let n = cut-of {i = i} {file = file} v.size v.rest s.0.1.0 s.0.1.1 s.0.1.2 in
    let e = (λ k. form_fault (sym s.1 k + 1) c.in-Some.frame.now) ∙ sym c.form_fault.ensures ∙ c.in_default.is in
    let t = cut-good (i + 1) n e in
    rw s.2 (record {
      size = s.0.0 ∙ v.size;
      rest = turn-next t;
      few = omega (arith, c.if-i-eq4096.false, s.1, v.few);
      there = omega (arith, turn-room t (omega arith));
      forms = forms-more i file v.forms (sym (cut-form (i + 1) n) ∙ e);
    })

pub returns : goal.returns
returns c M pos =
    let s = c.in-None.ensures.steps in
    let v = c.loop-i.invariant in
    let file = c.args.file.now in
    let i = c.loop-i.i-iterator.count in
    let h : length file ≤ 50 * i = omega (arith, s.0.1.0, ap length v.rest, length-drop (50 * i) file) in
    let e : length file / 50 ≡ i = omega (arith, h, v.there) in
    rw e (forms-end M i file pos v.few v.there v.forms h)
