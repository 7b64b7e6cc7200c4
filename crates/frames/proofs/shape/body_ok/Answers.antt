-- `frames::shape::body_ok` meets its contract. Assumes nothing.
use mathlib.Core.Path.{◌≡◌, refl, ◌∙◌, sym}
use mathlib.Core.Bool.{true, false}
use Prim.Native.Nat.{◌+◌, ◌*◌}
use native.Mathlib.Omega.{arith}
use lib.Dec.{eqb}
use lib.ListN.{length, drop}
use borrow.Author.Tests.{ne_eqb, eq-eqb}
use Rattle.numbers.specs.Words.{◌and◌}
use Rattle.numbers.proofs.WordLaws.{and-false}
use Rattle.entries.specs.Entries.{entries_ok}
use Rattle.frames.specs.Kinds.{kind_number, room_of, fields_ok, count_of, body_ok}
use Rattle.frames.proofs.KindLaws.{kind-within, least-room}
use Rattle.frames.proofs.shape.body_ok.Goals as goal

pub returns-then-n-fields_end : goal.returns-then-n-fields_end
unfolding body_ok ◌and◌
returns-then-n-fields_end c =
    let kind_ok = kind-within c.args.kind in
    let a = c.args in
    let s = a.frame.now in
    rw (
      kind_ok,
      ne_eqb (length s) (room_of (kind_number a.kind) s + 32 * count_of (kind_number a.kind) s) (λ e. omega (arith, least-room (kind_number a.kind) s)),
      and-false (fields_ok (kind_number a.kind) s) false refl,
    )

pub returns-then-not-fields_ok : goal.returns-then-not-fields_ok
unfolding body_ok ◌and◌
returns-then-not-fields_ok c =
    let kind_ok = kind-within c.args.kind in
    rw (kind_ok, ← c.fields_ok.ensures, c.if-not-fields_ok.true)

pub room-at-requires : goal.room-at-requires
room-at-requires c =
    let kind_ok = kind-within c.args.kind in
    rw (← c.fields_end.ensures) c.if-n-fields_end.false

pub returns-then-n-at : goal.returns-then-n-at
unfolding ◌and◌ body_ok
returns-then-n-at c =
    let kind_ok = kind-within c.args.kind in
    let fields-right : let a = c.args in fields_ok (kind_number a.kind) a.frame.now ≡ true = sym c.fields_ok.ensures ∙ c.if-not-fields_ok.false in
    let left : let a = c.args in let k = kind_number a.kind in let s = a.frame.now in
    body_ok k s ≡ (eqb (length s) (room_of k s + 32 * count_of k s) and entries_ok (count_of k s) (drop (room_of k s) s)) = rw (kind_ok, fields-right) in
    let a = c.args in
    let s = a.frame.now in
    rw (left, ne_eqb (length s) (room_of (kind_number a.kind) s + 32 * count_of (kind_number a.kind) s) (λ e. omega arith))

pub returns-then-n-at-2 : goal.returns-then-n-at-2
unfolding ◌and◌ body_ok
returns-then-n-at-2 c =
    let kind_ok = kind-within c.args.kind in
    let fields-right : let a = c.args in fields_ok (kind_number a.kind) a.frame.now ≡ true = sym c.fields_ok.ensures ∙ c.if-not-fields_ok.false in
    let left : let a = c.args in let k = kind_number a.kind in let s = a.frame.now in
    body_ok k s ≡ (eqb (length s) (room_of k s + 32 * count_of k s) and entries_ok (count_of k s) (drop (room_of k s) s)) = rw (kind_ok, fields-right) in
    rw (left, ← c.room-at.ensures, ← c.count-k.ensures, ne_eqb _ _ c.if-n-at-2.true)

pub returns : goal.returns
unfolding ◌and◌ body_ok
returns c =
    let kind_ok = kind-within c.args.kind in
    let fields-right : let a = c.args in fields_ok (kind_number a.kind) a.frame.now ≡ true = sym c.fields_ok.ensures ∙ c.if-not-fields_ok.false in
    let left : let a = c.args in let k = kind_number a.kind in let s = a.frame.now in
    body_ok k s ≡ (eqb (length s) (room_of k s + 32 * count_of k s) and entries_ok (count_of k s) (drop (room_of k s) s)) = rw (kind_ok, fields-right) in
    rw (left, ← c.room-at.ensures, ← c.count-k.ensures, eq-eqb _ _ c.if-n-at-2.false) c.entries_ok.ensures
