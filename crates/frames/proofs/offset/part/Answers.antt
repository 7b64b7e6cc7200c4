-- `frames::offset::part` meets its contract. Assumes nothing.
use mathlib.Core.Path.{◌≡◌, sym, ◌∙◌}
use Prim.Native.Nat.{ℕ, ◌+◌, ◌-◌, ◌≤◌}
use native.Mathlib.Omega.{arith}
use lib.Dec.{lit≤}
use lib.ListN.{length, drop}
use Rattle.numbers.specs.Numbers.{num}
use Rattle.offsets.specs.Rules.{Rule, end, reach, free, between, number_reach}
use Rattle.offsets.proofs.ReadLaws.{free-field, past-field, short-field, past-number, short-number, number-le, place-le}
use Rattle.frames.specs.FrameRules.{entries_rule, part_rule}
use Rattle.frames.proofs.offset.part.Goals as goal

-- the rule behind the start, and behind the end
abbrev from-commit : ℕ → Rule
from-commit c = free 4 (entries_rule c)

abbrev from_end : ℕ → ℕ → Rule
from_end c a = between 4 0 (a + c) (a + c) (λ x. from-commit c)

pub returns-then-stop-at-lt4 : goal.returns-then-stop-at-lt4
unfolding part_rule
returns-then-stop-at-lt4 c =
    let a = c.args in
    sym (short-number a.at a.s.now _ 4 0 (4294967295 - a.count) (from_end a.count) c.number-stop.ensures c.if-stop-at-lt4.true)

pub returns-then-commit-stop-lt4 : goal.returns-then-commit-stop-lt4
unfolding part_rule
returns-then-commit-stop-lt4 c =
    let a = c.args in
    let e = num 4 a.at a.s.now + a.count in
    let second : c.number-commit.result ≡ c.number-stop.result + number_reach 4 0 e e (drop c.number-stop.result a.s.now) = rw c.read_be.ensures.0 at c.number-commit.ensures in
    let end-there : let a = c.args in let p = c.number-stop.result in
    a.at + reach (part_rule a.count) (drop a.at a.s.now) ≡ p + reach (from_end a.count (num 4 a.at a.s.now)) (drop p a.s.now) = let a = c.args in
    past-number a.at a.s.now _ 4 0 (4294967295 - a.count) (from_end a.count) c.number-stop.ensures c.if-stop-at-lt4.false in
    let a = c.args in
    let e = num 4 a.at a.s.now + a.count in
    sym (end-there ∙ short-number c.number-stop.result a.s.now _ 4 e e (λ x. from-commit a.count) second c.if-commit-stop-lt4.true)

pub returns-then-first-commit-lt4 : goal.returns-then-first-commit-lt4
unfolding part_rule
returns-then-first-commit-lt4 c =
    let a = c.args in
    let e = num 4 a.at a.s.now + a.count in
    let second : c.number-commit.result ≡ c.number-stop.result + number_reach 4 0 e e (drop c.number-stop.result a.s.now) = rw c.read_be.ensures.0 at c.number-commit.ensures in
    let end-there : let a = c.args in let p = c.number-stop.result in
    a.at + reach (part_rule a.count) (drop a.at a.s.now) ≡ p + reach (from_end a.count (num 4 a.at a.s.now)) (drop p a.s.now) = let a = c.args in
    past-number a.at a.s.now _ 4 0 (4294967295 - a.count) (from_end a.count) c.number-stop.ensures c.if-stop-at-lt4.false in
    let commit-there : let a = c.args in
    c.number-stop.result + reach (from_end a.count (num 4 a.at a.s.now)) (drop c.number-stop.result a.s.now)
    ≡ c.number-commit.result + reach (from-commit a.count) (drop c.number-commit.result a.s.now) = let a = c.args in
    let e = num 4 a.at a.s.now + a.count in
    past-number c.number-stop.result a.s.now _ 4 e e (λ x. from-commit a.count) second c.if-commit-stop-lt4.false in
    let a = c.args in
    sym (end-there ∙ commit-there ∙ short-field c.number-commit.result a.s.now _ (free-field 4) (entries_rule a.count) c.free-first.ensures c.if-first-commit-lt4.true)

pub returns : goal.returns
unfolding part_rule
returns c =
    let a = c.args in
    let e = num 4 a.at a.s.now + a.count in
    let second : c.number-commit.result ≡ c.number-stop.result + number_reach 4 0 e e (drop c.number-stop.result a.s.now) = rw c.read_be.ensures.0 at c.number-commit.ensures in
    let end-there : let a = c.args in let p = c.number-stop.result in
    a.at + reach (part_rule a.count) (drop a.at a.s.now) ≡ p + reach (from_end a.count (num 4 a.at a.s.now)) (drop p a.s.now) = let a = c.args in
    past-number a.at a.s.now _ 4 0 (4294967295 - a.count) (from_end a.count) c.number-stop.ensures c.if-stop-at-lt4.false in
    let commit-there : let a = c.args in
    c.number-stop.result + reach (from_end a.count (num 4 a.at a.s.now)) (drop c.number-stop.result a.s.now)
    ≡ c.number-commit.result + reach (from-commit a.count) (drop c.number-commit.result a.s.now) = let a = c.args in
    let e = num 4 a.at a.s.now + a.count in
    past-number c.number-stop.result a.s.now _ 4 e e (λ x. from-commit a.count) second c.if-commit-stop-lt4.false in
    let a = c.args in
    c.entries.ensures
    ∙ sym (end-there ∙ commit-there ∙ past-field c.number-commit.result a.s.now _ (free-field 4) (entries_rule a.count) c.free-first.ensures c.if-first-commit-lt4.false)

pub read_be-requires : goal.read_be-requires
unfolding number_reach
read_be-requires c =
    let end-le : c.number-stop.result ≤ length c.args.s.now = omega (arith, c.number-stop.ensures, place-le (between 4 0 0 (4294967295 - c.args.count) (λ v. end)) c.args.at c.args.s.now c.requires.0) in
    let a = c.args in
    (omega (arith, c.number-stop.ensures, c.if-stop-at-lt4.false, end-le, number-le 4 0 0 (4294967295 - a.count) (drop a.at a.s.now)), lit≤ tt)

pub number-commit-requires : goal.number-commit-requires
unfolding number_reach
number-commit-requires c =
    let end-le : c.number-stop.result ≤ length c.args.s.now = omega (arith, c.number-stop.ensures, place-le (between 4 0 0 (4294967295 - c.args.count) (λ v. end)) c.args.at c.args.s.now c.requires.0) in
    (end-le, lit≤ tt)

pub free-first-requires : goal.free-first-requires
unfolding number_reach
free-first-requires c =
    let a = c.args in
    let e = num 4 a.at a.s.now + a.count in
    let second : c.number-commit.result ≡ c.number-stop.result + number_reach 4 0 e e (drop c.number-stop.result a.s.now) = rw c.read_be.ensures.0 at c.number-commit.ensures in
    let end-le : c.number-stop.result ≤ length c.args.s.now = omega (arith, c.number-stop.ensures, place-le (between 4 0 0 (4294967295 - c.args.count) (λ v. end)) c.args.at c.args.s.now c.requires.0) in
    let commit-le : c.number-commit.result ≤ length c.args.s.now = let a = c.args in
    let e = num 4 a.at a.s.now + a.count in
    omega (arith, second, place-le (between 4 0 e e (λ v. end)) c.number-stop.result a.s.now end-le) in
    commit-le

pub entries-requires : goal.entries-requires
unfolding number_reach
entries-requires c =
    let a = c.args in
    let e = num 4 a.at a.s.now + a.count in
    let second : c.number-commit.result ≡ c.number-stop.result + number_reach 4 0 e e (drop c.number-stop.result a.s.now) = rw c.read_be.ensures.0 at c.number-commit.ensures in
    let end-le : c.number-stop.result ≤ length c.args.s.now = omega (arith, c.number-stop.ensures, place-le (between 4 0 0 (4294967295 - c.args.count) (λ v. end)) c.args.at c.args.s.now c.requires.0) in
    let commit-le : c.number-commit.result ≤ length c.args.s.now = let a = c.args in
    let e = num 4 a.at a.s.now + a.count in
    omega (arith, second, place-le (between 4 0 e e (λ v. end)) c.number-stop.result a.s.now end-le) in
    let first-le : c.free-first.result ≤ length c.args.s.now = omega (arith, c.free-first.ensures, place-le (free 4 end) c.number-commit.result c.args.s.now commit-le) in
    first-le
