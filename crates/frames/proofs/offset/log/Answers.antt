-- `frames::offset::log` meets its contract. Assumes nothing.
use mathlib.Core.Path.{◌≡◌, sym, ◌∙◌}
use Prim.Native.Nat.{◌+◌, ◌≤◌}
use native.Mathlib.Omega.{arith}
use lib.ListN.{length, drop}
use Rattle.offsets.specs.Rules.{end, reach, free, between, number_reach}
use Rattle.offsets.proofs.ReadLaws.{free-field, past-field, short-field, past-number, short-number, place-le}
use Rattle.frames.specs.FrameRules.{entries_rule, log_rule}
use Rattle.frames.proofs.offset.log.Goals as goal

pub returns-then-commit-at-lt4 : goal.returns-then-commit-at-lt4
unfolding log_rule
returns-then-commit-at-lt4 c =
    let a = c.args in
    sym (short-number a.at a.s.now _ 4 a.count a.count (λ x. free 4 (entries_rule a.count)) c.number-commit.ensures c.if-commit-at-lt4.true)

pub returns-then-first-commit-lt4 : goal.returns-then-first-commit-lt4
unfolding log_rule
returns-then-first-commit-lt4 c =
    let commit-there : let a = c.args in let p = c.number-commit.result in
    a.at + reach (log_rule a.count) (drop a.at a.s.now) ≡ p + reach (free 4 (entries_rule a.count)) (drop p a.s.now) = let a = c.args in
    past-number a.at a.s.now _ 4 a.count a.count (λ x. free 4 (entries_rule a.count)) c.number-commit.ensures c.if-commit-at-lt4.false in
    let a = c.args in
    sym (commit-there ∙ short-field c.number-commit.result a.s.now _ (free-field 4) (entries_rule a.count) c.free-first.ensures c.if-first-commit-lt4.true)

pub returns : goal.returns
unfolding log_rule
returns c =
    let commit-there : let a = c.args in let p = c.number-commit.result in
    a.at + reach (log_rule a.count) (drop a.at a.s.now) ≡ p + reach (free 4 (entries_rule a.count)) (drop p a.s.now) = let a = c.args in
    past-number a.at a.s.now _ 4 a.count a.count (λ x. free 4 (entries_rule a.count)) c.number-commit.ensures c.if-commit-at-lt4.false in
    let a = c.args in
    c.entries.ensures
    ∙ sym (commit-there ∙ past-field c.number-commit.result a.s.now _ (free-field 4) (entries_rule a.count) c.free-first.ensures c.if-first-commit-lt4.false)

pub free-first-requires : goal.free-first-requires
unfolding number_reach
free-first-requires c =
    let commit-le : c.number-commit.result ≤ length c.args.s.now = omega (arith, c.number-commit.ensures, place-le (between 4 0 c.args.count c.args.count (λ v. end)) c.args.at c.args.s.now c.requires) in
    commit-le

pub entries-requires : goal.entries-requires
unfolding number_reach
entries-requires c =
    let commit-le : c.number-commit.result ≤ length c.args.s.now = omega (arith, c.number-commit.ensures, place-le (between 4 0 c.args.count c.args.count (λ v. end)) c.args.at c.args.s.now c.requires) in
    let first-le : c.free-first.result ≤ length c.args.s.now = omega (arith, c.free-first.ensures, place-le (free 4 end) c.number-commit.result c.args.s.now commit-le) in
    first-le
