-- `client::offset::offset` meets its contract: behind each field, what is left of the rule. Assumes nothing.
use mathlib.Core.Path.{◌≡◌, sym, ◌∙◌}
use Prim.Native.Nat.{◌+◌, ◌≤◌}
use native.Mathlib.Omega.{arith}
use lib.Dec.{lit≤}
use lib.ListN.{length, drop}
use Rattle.offsets.specs.Rules.{end, reach, free}
use Rattle.client.specs.Replies.{reply_rule, reply_offset}
use Rattle.client.proofs.PlaceLaws.{from-version, from-kind, from-addressee, from_view, from-outcome, number_read, number-broken, number-long, free-read, free-broken, free-long}
use Rattle.client.proofs.offset.offset.Goals as goal

pub returns-then-version-lt4 : goal.returns-then-version-lt4
unfolding reply_offset reply_rule
returns-then-version-lt4 c = let s = c.args.frame.now in let e = number-broken 0 4 from-version s 32 32 c.number-version.ensures c.if-version-lt4.true in omega (arith, e)

pub returns-then-kind-lt5 : goal.returns-then-kind-lt5
unfolding reply_offset reply_rule
returns-then-kind-lt5 c =
    let at-4 : let s = c.args.frame.now in reply_offset s ≡ 4 + reach from-version (drop 4 s) = let s = c.args.frame.now in let e = number_read 0 4 from-version s 32 32 c.number-version.ensures c.if-version-lt4.false in omega (arith, e) in
    let s = c.args.frame.now in sym (at-4 ∙ number-broken 4 1 from-kind s 1 1 c.number-kind.ensures c.if-kind-lt5.true)

pub returns-then-to-lt6 : goal.returns-then-to-lt6
unfolding reply_offset reply_rule
returns-then-to-lt6 c =
    let at-4 : let s = c.args.frame.now in reply_offset s ≡ 4 + reach from-version (drop 4 s) = let s = c.args.frame.now in let e = number_read 0 4 from-version s 32 32 c.number-version.ensures c.if-version-lt4.false in omega (arith, e) in
    let at_5 : let s = c.args.frame.now in reply_offset s ≡ 5 + reach from-kind (drop 5 s) = let s = c.args.frame.now in at-4 ∙ number_read 4 1 from-kind s 1 1 c.number-kind.ensures c.if-kind-lt5.false in
    let s = c.args.frame.now in sym (at_5 ∙ number-broken 5 1 from-addressee s 12 12 c.number-to.ensures c.if-to-lt6.true)

pub returns-then-view-lt7 : goal.returns-then-view-lt7
unfolding reply_offset reply_rule
returns-then-view-lt7 c =
    let at-4 : let s = c.args.frame.now in reply_offset s ≡ 4 + reach from-version (drop 4 s) = let s = c.args.frame.now in let e = number_read 0 4 from-version s 32 32 c.number-version.ensures c.if-version-lt4.false in omega (arith, e) in
    let at_5 : let s = c.args.frame.now in reply_offset s ≡ 5 + reach from-kind (drop 5 s) = let s = c.args.frame.now in at-4 ∙ number_read 4 1 from-kind s 1 1 c.number-kind.ensures c.if-kind-lt5.false in
    let at-6 : let s = c.args.frame.now in reply_offset s ≡ 6 + reach from-addressee (drop 6 s) = let s = c.args.frame.now in at_5 ∙ number_read 5 1 from-addressee s 12 12 c.number-to.ensures c.if-to-lt6.false in
    let s = c.args.frame.now in sym (at-6 ∙ number-broken 6 1 from_view s 0 0 c.number-view.ensures c.if-view-lt7.true)

pub returns-then-outcome-lt27 : goal.returns-then-outcome-lt27
unfolding reply_offset reply_rule
returns-then-outcome-lt27 c =
    let at-4 : let s = c.args.frame.now in reply_offset s ≡ 4 + reach from-version (drop 4 s) = let s = c.args.frame.now in let e = number_read 0 4 from-version s 32 32 c.number-version.ensures c.if-version-lt4.false in omega (arith, e) in
    let at_5 : let s = c.args.frame.now in reply_offset s ≡ 5 + reach from-kind (drop 5 s) = let s = c.args.frame.now in at-4 ∙ number_read 4 1 from-kind s 1 1 c.number-kind.ensures c.if-kind-lt5.false in
    let at-6 : let s = c.args.frame.now in reply_offset s ≡ 6 + reach from-addressee (drop 6 s) = let s = c.args.frame.now in at_5 ∙ number_read 5 1 from-addressee s 12 12 c.number-to.ensures c.if-to-lt6.false in
    let at_7 : let s = c.args.frame.now in reply_offset s ≡ 7 + reach from_view (drop 7 s) = let s = c.args.frame.now in at-6 ∙ number_read 6 1 from_view s 0 0 c.number-view.ensures c.if-view-lt7.false in
    let s = c.args.frame.now in sym (at_7 ∙ free-broken 7 20 from-outcome s c.free-outcome.ensures c.if-outcome-lt27.true)

pub returns-then-total-lt28 : goal.returns-then-total-lt28
unfolding reply_offset reply_rule
returns-then-total-lt28 c =
    let at-4 : let s = c.args.frame.now in reply_offset s ≡ 4 + reach from-version (drop 4 s) = let s = c.args.frame.now in let e = number_read 0 4 from-version s 32 32 c.number-version.ensures c.if-version-lt4.false in omega (arith, e) in
    let at_5 : let s = c.args.frame.now in reply_offset s ≡ 5 + reach from-kind (drop 5 s) = let s = c.args.frame.now in at-4 ∙ number_read 4 1 from-kind s 1 1 c.number-kind.ensures c.if-kind-lt5.false in
    let at-6 : let s = c.args.frame.now in reply_offset s ≡ 6 + reach from-addressee (drop 6 s) = let s = c.args.frame.now in at_5 ∙ number_read 5 1 from-addressee s 12 12 c.number-to.ensures c.if-to-lt6.false in
    let at_7 : let s = c.args.frame.now in reply_offset s ≡ 7 + reach from_view (drop 7 s) = let s = c.args.frame.now in at-6 ∙ number_read 6 1 from_view s 0 0 c.number-view.ensures c.if-view-lt7.false in
    let at-27 : let s = c.args.frame.now in reply_offset s ≡ 27 + reach from-outcome (drop 27 s) = let s = c.args.frame.now in at_7 ∙ free-read 7 20 from-outcome s c.free-outcome.ensures c.if-outcome-lt27.false in
    let s = c.args.frame.now in sym (at-27 ∙ number-broken 27 1 (free 8 end) s 1 6 c.number-total.ensures c.if-total-lt28.true)

pub returns : goal.returns
unfolding reply_offset reply_rule
returns c =
    let at-4 : let s = c.args.frame.now in reply_offset s ≡ 4 + reach from-version (drop 4 s) = let s = c.args.frame.now in let e = number_read 0 4 from-version s 32 32 c.number-version.ensures c.if-version-lt4.false in omega (arith, e) in
    let at_5 : let s = c.args.frame.now in reply_offset s ≡ 5 + reach from-kind (drop 5 s) = let s = c.args.frame.now in at-4 ∙ number_read 4 1 from-kind s 1 1 c.number-kind.ensures c.if-kind-lt5.false in
    let at-6 : let s = c.args.frame.now in reply_offset s ≡ 6 + reach from-addressee (drop 6 s) = let s = c.args.frame.now in at_5 ∙ number_read 5 1 from-addressee s 12 12 c.number-to.ensures c.if-to-lt6.false in
    let at_7 : let s = c.args.frame.now in reply_offset s ≡ 7 + reach from_view (drop 7 s) = let s = c.args.frame.now in at-6 ∙ number_read 6 1 from_view s 0 0 c.number-view.ensures c.if-view-lt7.false in
    let at-27 : let s = c.args.frame.now in reply_offset s ≡ 27 + reach from-outcome (drop 27 s) = let s = c.args.frame.now in at_7 ∙ free-read 7 20 from-outcome s c.free-outcome.ensures c.if-outcome-lt27.false in
    let at-28 : let s = c.args.frame.now in reply_offset s ≡ 28 + reach (free 8 end) (drop 28 s) = let s = c.args.frame.now in at-27 ∙ number_read 27 1 (free 8 end) s 1 6 c.number-total.ensures c.if-total-lt28.false in
    c.free.ensures ∙ sym at-28

pub number-kind-requires : goal.number-kind-requires
number-kind-requires c =
    let long-4 : 4 ≤ length c.args.frame.now = let s = c.args.frame.now in number-long 0 4 end s 32 32 c.number-version.ensures (omega arith) c.if-version-lt4.false in
    (long-4, lit≤ tt)

pub number-to-requires : goal.number-to-requires
number-to-requires c =
    let long-4 : 4 ≤ length c.args.frame.now = let s = c.args.frame.now in number-long 0 4 end s 32 32 c.number-version.ensures (omega arith) c.if-version-lt4.false in
    let long-5 : 5 ≤ length c.args.frame.now = let s = c.args.frame.now in number-long 4 1 end s 1 1 c.number-kind.ensures long-4 c.if-kind-lt5.false in
    (long-5, lit≤ tt)

pub number-view-requires : goal.number-view-requires
number-view-requires c =
    let long-4 : 4 ≤ length c.args.frame.now = let s = c.args.frame.now in number-long 0 4 end s 32 32 c.number-version.ensures (omega arith) c.if-version-lt4.false in
    let long-5 : 5 ≤ length c.args.frame.now = let s = c.args.frame.now in number-long 4 1 end s 1 1 c.number-kind.ensures long-4 c.if-kind-lt5.false in
    let long-6 : 6 ≤ length c.args.frame.now = let s = c.args.frame.now in number-long 5 1 end s 12 12 c.number-to.ensures long-5 c.if-to-lt6.false in
    (long-6, lit≤ tt)

pub free-outcome-requires : goal.free-outcome-requires
free-outcome-requires c =
    let long-4 : 4 ≤ length c.args.frame.now = let s = c.args.frame.now in number-long 0 4 end s 32 32 c.number-version.ensures (omega arith) c.if-version-lt4.false in
    let long-5 : 5 ≤ length c.args.frame.now = let s = c.args.frame.now in number-long 4 1 end s 1 1 c.number-kind.ensures long-4 c.if-kind-lt5.false in
    let long-6 : 6 ≤ length c.args.frame.now = let s = c.args.frame.now in number-long 5 1 end s 12 12 c.number-to.ensures long-5 c.if-to-lt6.false in
    let long-7 : 7 ≤ length c.args.frame.now = let s = c.args.frame.now in number-long 6 1 end s 0 0 c.number-view.ensures long-6 c.if-view-lt7.false in
    long-7

pub number-total-requires : goal.number-total-requires
number-total-requires c =
    let long-4 : 4 ≤ length c.args.frame.now = let s = c.args.frame.now in number-long 0 4 end s 32 32 c.number-version.ensures (omega arith) c.if-version-lt4.false in
    let long-5 : 5 ≤ length c.args.frame.now = let s = c.args.frame.now in number-long 4 1 end s 1 1 c.number-kind.ensures long-4 c.if-kind-lt5.false in
    let long-6 : 6 ≤ length c.args.frame.now = let s = c.args.frame.now in number-long 5 1 end s 12 12 c.number-to.ensures long-5 c.if-to-lt6.false in
    let long-7 : 7 ≤ length c.args.frame.now = let s = c.args.frame.now in number-long 6 1 end s 0 0 c.number-view.ensures long-6 c.if-view-lt7.false in
    let long-27 : 27 ≤ length c.args.frame.now = let s = c.args.frame.now in free-long 7 20 end s c.free-outcome.ensures long-7 c.if-outcome-lt27.false in
    (long-27, lit≤ tt)

pub free-requires : goal.free-requires
free-requires c =
    let long-4 : 4 ≤ length c.args.frame.now = let s = c.args.frame.now in number-long 0 4 end s 32 32 c.number-version.ensures (omega arith) c.if-version-lt4.false in
    let long-5 : 5 ≤ length c.args.frame.now = let s = c.args.frame.now in number-long 4 1 end s 1 1 c.number-kind.ensures long-4 c.if-kind-lt5.false in
    let long-6 : 6 ≤ length c.args.frame.now = let s = c.args.frame.now in number-long 5 1 end s 12 12 c.number-to.ensures long-5 c.if-to-lt6.false in
    let long-7 : 7 ≤ length c.args.frame.now = let s = c.args.frame.now in number-long 6 1 end s 0 0 c.number-view.ensures long-6 c.if-view-lt7.false in
    let long-27 : 27 ≤ length c.args.frame.now = let s = c.args.frame.now in free-long 7 20 end s c.free-outcome.ensures long-7 c.if-outcome-lt27.false in
    let long-28 : 28 ≤ length c.args.frame.now = let s = c.args.frame.now in number-long 27 1 end s 1 6 c.number-total.ensures long-27 c.if-total-lt28.false in
    long-28
