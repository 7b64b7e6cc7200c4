-- `usual::is_usual` meets its contract. Assumes nothing.
use mathlib.Core.Path.{sym, ap, ◌∙◌}
use mathlib.Core.Bool.{not}
use Rattle.usual.proofs.TestLaws.{not-normal, short, by_kind, kind-request, kind-prepare, kind-prepare-ok, kind-commit, kind-recovery, kind-other}
use Rattle.usual.proofs.is_usual.Goals as goal

pub returns-then-not-is_normal : goal.returns-then-not-is_normal
returns-then-not-is_normal c = let a = c.args in not-normal a.s a.frame.now (ap not (sym c.is_normal.ensures) ∙ (ap not c.if-not-is_normal.true))

pub returns-then-frame-lt11 : goal.returns-then-frame-lt11
returns-then-frame-lt11 c = let a = c.args in short a.s a.frame.now (ap not (sym c.is_normal.ensures) ∙ (ap not c.if-not-is_normal.false)) c.if-frame-lt11.true

pub returns-in-1 : goal.returns-in-1
returns-in-1 c = let a = c.args in by_kind a.s a.frame.now (ap not (sym c.is_normal.ensures) ∙ (ap not c.if-not-is_normal.false)) c.if-frame-lt11.false _ (kind-request a.s.view.0 a.frame.now (sym c.kind_of.ensures ∙ c.in-1.is))

pub returns-in-2 : goal.returns-in-2
returns-in-2 c = let a = c.args in by_kind a.s a.frame.now (ap not (sym c.is_normal.ensures) ∙ (ap not c.if-not-is_normal.false)) c.if-frame-lt11.false _ (kind-prepare a.s.view.0 a.frame.now (sym c.kind_of.ensures ∙ c.in-2.is) _ c.read_u32.ensures)

pub returns-in-3 : goal.returns-in-3
returns-in-3 c = let a = c.args in by_kind a.s a.frame.now (ap not (sym c.is_normal.ensures) ∙ (ap not c.if-not-is_normal.false)) c.if-frame-lt11.false _ (kind-prepare-ok a.s.view.0 a.frame.now (sym c.kind_of.ensures ∙ c.in-3.is))

pub returns-in-4 : goal.returns-in-4
returns-in-4 c = let a = c.args in by_kind a.s a.frame.now (ap not (sym c.is_normal.ensures) ∙ (ap not c.if-not-is_normal.false)) c.if-frame-lt11.false _ (kind-commit a.s.view.0 a.frame.now (sym c.kind_of.ensures ∙ c.in-4.is) _ c.read_u32-in-4.ensures)

pub returns-in-10 : goal.returns-in-10
returns-in-10 c = let a = c.args in by_kind a.s a.frame.now (ap not (sym c.is_normal.ensures) ∙ (ap not c.if-not-is_normal.false)) c.if-frame-lt11.false _ (kind-recovery a.s.view.0 a.frame.now (sym c.kind_of.ensures ∙ c.in-10.is) _ c.is_answered.ensures)

pub returns-in_default : goal.returns-in_default
returns-in_default c = let a = c.args in let e = c.kind_of.ensures in let r = c.in_default.in_default-own.rest in by_kind a.s a.frame.now (ap not (sym c.is_normal.ensures) ∙ (ap not c.if-not-is_normal.false)) c.if-frame-lt11.false _ (kind-other a.s.view.0 a.frame.now _ e r.0.0.0.0.1 r.0.0.0.1 r.0.0.1 r.0.1 r.1)
