-- `frames::offset::entry_slowly` meets its contract: behind each field, what is left of the entry's rule. Assumes nothing.
use mathlib.Core.Path.{◌≡◌, sym, ◌∙◌}
use mathlib.Core.List.{List}
use Prim.Native.Nat.{ℕ, ◌+◌, ◌≤◌, ◌<◌}
use native.Mathlib.Omega.{arith}
use lib.Dec.{lit≤}
use lib.ListN.{length, drop}
use Rattle.numbers.specs.Numbers.{num}
use Rattle.numbers.proofs.NumberLaws.{num-byte}
use Rattle.offsets.specs.Rules.{Rule, end, reach, free, between, number_reach}
use Rattle.offsets.proofs.ReadLaws.{free-field, past-field, short-field, past-number, short-number, place-le}
use Rattle.frames.specs.FrameRules.{cents_rule, entry_rule}
use Rattle.frames.proofs.offset.entry_slowly.Goals as goal

-- the rule from the member, the zero bytes and the operation on
abbrev from_member : ℕ → Rule
from_member k = free 4 (cents_rule k end)

abbrev from-zeros : ℕ → Rule
from-zeros k = between 3 0 0 0 (λ x. from_member k)

abbrev from-operation : Rule
from-operation = between 1 0 1 3 from-zeros

-- how far the rule r is kept from place p on
abbrev far : Rule → ℕ → List ℕ → ℕ
far r p s = p + reach r (drop p s)

pub returns-then-operation-at-lt16 : goal.returns-then-operation-at-lt16
unfolding entry_rule
returns-then-operation-at-lt16 c =
    let a = c.args in
    sym (short-field a.at a.s.now _ (free-field 16) from-operation c.free-operation.ensures c.if-operation-at-lt16.true)

pub returns-then-zeros-operation : goal.returns-then-zeros-operation
unfolding number_reach entry_rule
returns-then-zeros-operation c =
    let operation-there : let a = c.args in
    far (entry_rule end) a.at a.s.now ≡ far from-operation c.free-operation.result a.s.now = let a = c.args in
    past-field a.at a.s.now _ (free-field 16) from-operation c.free-operation.ensures c.if-operation-at-lt16.false in
    let p = c.free-operation.result in
    sym (operation-there ∙ short-number p c.args.s.now _ 1 1 3 from-zeros c.number-zeros.ensures (omega (arith, c.if-zeros-operation.true)))

pub returns-then-member-zeros-lt3 : goal.returns-then-member-zeros-lt3
unfolding entry_rule number_reach
returns-then-member-zeros-lt3 c =
    let operation-there : let a = c.args in
    far (entry_rule end) a.at a.s.now ≡ far from-operation c.free-operation.result a.s.now = let a = c.args in
    past-field a.at a.s.now _ (free-field 16) from-operation c.free-operation.ensures c.if-operation-at-lt16.false in
    let zeros-there : let s = c.args.s.now in
    far from-operation c.free-operation.result s ≡ far (from-zeros (num 1 c.free-operation.result s)) c.number-zeros.result s = past-number c.free-operation.result c.args.s.now _ 1 1 3 from-zeros c.number-zeros.ensures (omega (arith, c.number-zeros.ensures, c.if-zeros-operation.false)) in
    let s = c.args.s.now in
    sym (operation-there ∙ zeros-there ∙ short-number c.number-zeros.result s _ 3 0 0 (λ x. from_member (num 1 c.free-operation.result s)) c.number-member.ensures c.if-member-zeros-lt3.true)

pub returns-then-last-member-lt4 : goal.returns-then-last-member-lt4
unfolding entry_rule number_reach
returns-then-last-member-lt4 c =
    let operation-there : let a = c.args in
    far (entry_rule end) a.at a.s.now ≡ far from-operation c.free-operation.result a.s.now = let a = c.args in
    past-field a.at a.s.now _ (free-field 16) from-operation c.free-operation.ensures c.if-operation-at-lt16.false in
    let zeros-there : let s = c.args.s.now in
    far from-operation c.free-operation.result s ≡ far (from-zeros (num 1 c.free-operation.result s)) c.number-zeros.result s = past-number c.free-operation.result c.args.s.now _ 1 1 3 from-zeros c.number-zeros.ensures (omega (arith, c.number-zeros.ensures, c.if-zeros-operation.false)) in
    let member-there : let s = c.args.s.now in
    far (from-zeros (num 1 c.free-operation.result s)) c.number-zeros.result s ≡ far (from_member (num 1 c.free-operation.result s)) c.number-member.result s = let s = c.args.s.now in
    past-number c.number-zeros.result s _ 3 0 0 (λ x. from_member (num 1 c.free-operation.result s)) c.number-member.ensures c.if-member-zeros-lt3.false in
    let s = c.args.s.now in
    sym (operation-there ∙ zeros-there ∙ member-there
    ∙ short-field c.number-member.result s _ (free-field 4) (cents_rule (num 1 c.free-operation.result s) end) c.free-last.ensures c.if-last-member-lt4.true)

pub returns : goal.returns
unfolding entry_rule number_reach
returns c =
    let operation-there : let a = c.args in
    far (entry_rule end) a.at a.s.now ≡ far from-operation c.free-operation.result a.s.now = let a = c.args in
    past-field a.at a.s.now _ (free-field 16) from-operation c.free-operation.ensures c.if-operation-at-lt16.false in
    let zeros-there : let s = c.args.s.now in
    far from-operation c.free-operation.result s ≡ far (from-zeros (num 1 c.free-operation.result s)) c.number-zeros.result s = past-number c.free-operation.result c.args.s.now _ 1 1 3 from-zeros c.number-zeros.ensures (omega (arith, c.number-zeros.ensures, c.if-zeros-operation.false)) in
    let member-there : let s = c.args.s.now in
    far (from-zeros (num 1 c.free-operation.result s)) c.number-zeros.result s ≡ far (from_member (num 1 c.free-operation.result s)) c.number-member.result s = let s = c.args.s.now in
    past-number c.number-zeros.result s _ 3 0 0 (λ x. from_member (num 1 c.free-operation.result s)) c.number-member.ensures c.if-member-zeros-lt3.false in
    let cents-there : let s = c.args.s.now in
    far (from_member (num 1 c.free-operation.result s)) c.number-member.result s ≡ far (cents_rule (num 1 c.free-operation.result s) end) c.free-last.result s = let s = c.args.s.now in
    past-field c.number-member.result s _ (free-field 4) (cents_rule (num 1 c.free-operation.result s) end) c.free-last.ensures c.if-last-member-lt4.false in
    let operation-le : c.free-operation.result ≤ length c.args.s.now = omega (arith, c.free-operation.ensures, place-le (free 16 end) c.args.at c.args.s.now c.requires) in
    let zeros-le : c.number-zeros.result ≤ length c.args.s.now = omega (arith, c.number-zeros.ensures, place-le (between 1 0 1 3 (λ v. end)) c.free-operation.result c.args.s.now operation-le) in
    let operation-before : c.free-operation.result < length c.args.s.now = omega (arith, c.number-zeros.ensures, c.if-zeros-operation.false, zeros-le) in
    let s = c.args.s.now in
    rw (← num-byte c.free-operation.result s operation-before) at c.cents.ensures
    ∙ sym (operation-there ∙ zeros-there ∙ member-there ∙ cents-there)

pub number-zeros-requires : goal.number-zeros-requires
number-zeros-requires c =
    let operation-le : c.free-operation.result ≤ length c.args.s.now = omega (arith, c.free-operation.ensures, place-le (free 16 end) c.args.at c.args.s.now c.requires) in
    (operation-le, lit≤ tt)

pub number-member-requires : goal.number-member-requires
unfolding number_reach
number-member-requires c =
    let operation-le : c.free-operation.result ≤ length c.args.s.now = omega (arith, c.free-operation.ensures, place-le (free 16 end) c.args.at c.args.s.now c.requires) in
    let zeros-le : c.number-zeros.result ≤ length c.args.s.now = omega (arith, c.number-zeros.ensures, place-le (between 1 0 1 3 (λ v. end)) c.free-operation.result c.args.s.now operation-le) in
    (zeros-le, lit≤ tt)

pub free-last-requires : goal.free-last-requires
unfolding number_reach
free-last-requires c =
    let operation-le : c.free-operation.result ≤ length c.args.s.now = omega (arith, c.free-operation.ensures, place-le (free 16 end) c.args.at c.args.s.now c.requires) in
    let zeros-le : c.number-zeros.result ≤ length c.args.s.now = omega (arith, c.number-zeros.ensures, place-le (between 1 0 1 3 (λ v. end)) c.free-operation.result c.args.s.now operation-le) in
    let member-le : c.number-member.result ≤ length c.args.s.now = omega (arith, c.number-member.ensures, place-le (between 3 0 0 0 (λ v. end)) c.number-zeros.result c.args.s.now zeros-le) in
    member-le

pub bounds-s-operation : goal.bounds-s-operation
unfolding number_reach
bounds-s-operation c =
    let operation-le : c.free-operation.result ≤ length c.args.s.now = omega (arith, c.free-operation.ensures, place-le (free 16 end) c.args.at c.args.s.now c.requires) in
    let zeros-le : c.number-zeros.result ≤ length c.args.s.now = omega (arith, c.number-zeros.ensures, place-le (between 1 0 1 3 (λ v. end)) c.free-operation.result c.args.s.now operation-le) in
    let operation-before : c.free-operation.result < length c.args.s.now = omega (arith, c.number-zeros.ensures, c.if-zeros-operation.false, zeros-le) in
    operation-before

pub cents-requires : goal.cents-requires
unfolding number_reach
cents-requires c =
    let operation-le : c.free-operation.result ≤ length c.args.s.now = omega (arith, c.free-operation.ensures, place-le (free 16 end) c.args.at c.args.s.now c.requires) in
    let zeros-le : c.number-zeros.result ≤ length c.args.s.now = omega (arith, c.number-zeros.ensures, place-le (between 1 0 1 3 (λ v. end)) c.free-operation.result c.args.s.now operation-le) in
    let member-le : c.number-member.result ≤ length c.args.s.now = omega (arith, c.number-member.ensures, place-le (between 3 0 0 0 (λ v. end)) c.number-zeros.result c.args.s.now zeros-le) in
    let cents-le : c.free-last.result ≤ length c.args.s.now = omega (arith, c.free-last.ensures, place-le (free 4 end) c.number-member.result c.args.s.now member-le) in
    cents-le
