-- Laws of the groups in which members are taken.
--     size_few, in-above             a group's size, and its first member
--     below_none, below_next, below_all    the groups below the first, below the next one, and below the end
--     Grouped, grouped-none          a run that has the totals of a group; before any entry
--     grouped-given, grouped-more    an entry of the group, on its totals
--     grouped-other                  any other entry leaves them
-- Assumes nothing.
use mathlib.Core.Path.{◌≡◌, refl, sym, ap, ◌∙◌, subst}
use mathlib.Core.Bool.{Bool, true, false, false≢true}
use mathlib.Core.List.{List}
use Prim.Native.Nat.{ℕ, ◌+◌, ◌-◌, ◌*◌, ◌≤◌, ◌<◌}
use native.Mathlib.Omega.{arith}
use lib.Dec.{leb, ltb}
use lib.ListN.{length, get_or, set, take, drop, replicate, length-drop, length-replicate, replicate-append-replicate}
use lib.Seq.{length-take-le, get_or-take, get_or-drop, take_at, drop_at, take-set-lt, take-set-le, drop-set-add, drop-set-lt}
use borrow.Author.Tests.{ltb-true, ltb-false, leb-true, lt-ltb, le-ltb, le-leb}
use Rattle.numbers.specs.Words.{when◌then◌else◌}
use Rattle.numbers.specs.Numbers.{Bytes}
use Rattle.numbers.specs.Cells.{cells}
use Rattle.numbers.proofs.WordLaws.{split, if-true, if-false}
use Rattle.entries.specs.Entries.{operation_of}
use Rattle.entries.specs.declared.Entry.{Entry}
use Rattle.fees.specs.Fees.{rule, outcome_on, total_bytes_after}
use Rattle.fees.specs.declared.Outcome.{Outcome}
use Rattle.model.specs.Book.{outcome, totals_after, through}
use Rattle.model.proofs.BookLaws.{through-length}
use Rattle.layout.specs.Layout.{total_of}
use Rattle.journal.specs.Journal.{no_totals}
use Rattle.journal.specs.Steps.{group_size, in_group, groups_below, group_entry}
use Rattle.journal.proofs.TotalLaws.{through-none, through-more, given_is, after_is, after-bytes, zero-totals, zero-bytes}

-- ---- who is in a group

module _ (M low : ℕ) where
  size-le : group_size M low ≤ M - low
  unfolding group_size
  size-le = omega arith

  pub size_few : group_size M low ≤ 64
  unfolding group_size
  size_few = omega arith

  -- a member that is less than 64 above the first is one of them
  size_above : (k : ℕ) → k < 64 → k < M - low → k < group_size M low
  unfolding group_size
  size_above k h l = omega arith

  module _ (m : ℕ) where
    pub in-above : in_group M low m ≡ true → low ≤ m
    unfolding in_group
    in-above =
        split (λ (b : Bool). b ≡ true → low ≤ m) (ltb m low) _ _ (λ _ e. absurd (false≢true e)) (λ p _. ltb-false m low p)

    in_near : in_group M low m ≡ true → m < M → m - low < 64
    unfolding in_group
    in_near =
        split (λ (b : Bool). b ≡ true → m < M → m - low < 64) (ltb m low) _ _ (λ _ e. absurd (false≢true e))
        (λ p.
        split (λ (b : Bool). b ≡ true → m < M → m - low < 64) (ltb (m - low) 64) _ _ (λ q _ _. ltb-true (m - low) 64 q)
        (λ _ e h. let l = leb-true (M - low) 64 e in let g = ltb-false m low p in omega arith))

    out-far : in_group M low m ≡ false → low ≤ m → 64 ≤ m - low
    unfolding in_group
    out-far =
        split (λ (b : Bool). b ≡ false → low ≤ m → 64 ≤ m - low) (ltb m low) _ _
        (λ p _ h. let l = ltb-true m low p in absurd (omega arith))
        (λ _.
        split (λ (b : Bool). b ≡ false → low ≤ m → 64 ≤ m - low) (ltb (m - low) 64) _ _ (λ _ e. absurd (false≢true (sym e)))
        (λ q _ _. ltb-false (m - low) 64 q))

    pub below_next : groups_below M (low + 64) m ≡ true → groups_below M low m ≡ false → in_group M low m ≡ true
    unfolding groups_below in_group
    below_next =
        split (λ (b : Bool). (when ltb m (low + 64) then true else leb M (low + 64)) ≡ true → b ≡ false → in_group M low m ≡ true) (ltb m low) _ _
        (λ _ _ e. absurd (false≢true (sym e)))
        (λ p a _.
        if-false _ _ _ p
        ∙ split (λ (b : Bool). b ≡ true) (ltb (m - low) 64) _ _ (λ _. refl)
        (λ q.
        let far = ltb-false (m - low) 64 q in
        let above = ltb-false m low p in
        let l = leb-true M (low + 64) (sym (if-false _ _ _ (le-ltb m (low + 64) (omega arith))) ∙ a) in
        le-leb (M - low) 64 (omega arith)))

    pub below_all : M ≤ low → groups_below M low m ≡ true
    unfolding groups_below
    below_all h = split (λ (b : Bool). b ≡ true) (ltb m low) _ _ (λ _. refl) (λ _. le-leb M low h)

    pub below_none : 1 ≤ M → low ≡ 0 → groups_below M low m ≡ true → ⊥
    unfolding groups_below
    below_none h z =
        split (λ (b : Bool). b ≡ true → ⊥) (ltb m low) _ _ (λ p _. let l = ltb-true m low p in omega arith)
        (λ _ e. let l = leb-true M low e in omega arith)

-- ---- the totals of a group

abbrev pub group_totals : (M low : ℕ) (ts : List ℕ) → List ℕ
group_totals M low ts = take (group_size M low) (drop low ts)

group-none : (M low n : ℕ) → low < M → 512 ≤ n → cells 8 total_of (group_size M low) (replicate n 0) ≡ group_totals M low (no_totals M)
group-none M low n h l =
    let k = group_size M low in
    let a = size-le M low in
    let b = size_few M low in
    let r = replicate {A = ℕ} (M - low - k) 0 in
    let e : low + (M - low) ≡ M = omega arith in
    let f : k + (M - low - k) ≡ M - low = omega arith in
    zero-totals k n (omega arith)
    ∙ sym
    (ap (λ (m : ℕ). take k (drop low (replicate m 0))) (sym e)
    ∙ ap (λ (ts : List ℕ). take k (drop low ts)) (sym (replicate-append-replicate {A = ℕ} low (M - low) 0))
    ∙ ap (take k) (drop_at (replicate low 0) (replicate (M - low) 0) low (length-replicate {A = ℕ} low 0))
    ∙ ap (λ (m : ℕ). take k (replicate m 0)) (sym f)
    ∙ ap (take k) (sym (replicate-append-replicate {A = ℕ} k (M - low - k) 0))
    ∙ take_at (replicate k 0) r k (length-replicate {A = ℕ} k 0))

module _ (M low : ℕ) (ts : List ℕ) (n : length ts ≡ M) where
  abbrev us : List ℕ
  us = group_totals M low ts

  group-length : length us ≡ group_size M low
  group-length = length-take-le (group_size M low) (drop low ts) (omega (arith, size-le M low, length-drop low ts, n))

  module _ (e : Entry) where
    abbrev m : ℕ
    m = e.member

    -- an entry of the group
    module _ (i : in_group M low m ≡ true) where
      in_size : m < M → m - low < group_size M low
      in_size h = size_above M low (m - low) (in_near M low m i h) (omega (arith, in-above M low m i))

      same_outcome : (b : Bool) → ltb m M ≡ b → outcome us (group_entry low e) ≡ outcome ts e
      unfolding outcome
      same_outcome true p =
          let h = ltb-true m M p in
          let s : low + (m - low) ≡ m = omega (arith, in-above M low m i) in
          let g : get_or us (m - low) 0 ≡ get_or ts m 0 =
          get_or-take (group_size M low) (drop low ts) (m - low) 0 (in_size h) ∙ get_or-drop low ts (m - low) 0 ∙ ap (λ (k : ℕ). get_or ts k 0) s in
          if-true _ _ _ (lt-ltb (m - low) (length us) (omega (arith, group-length, in_size h)))
          ∙ ap (λ (t : ℕ). rule t (operation_of e.operation) e.cents) g
          ∙ sym (if-true _ _ _ (lt-ltb m (length ts) (omega (arith, n))))
      same_outcome false p =
          let h = ltb-false m M p in
          if-false _ _ _ (le-ltb (m - low) (length us) (omega (arith, group-length, size-le M low)))
          ∙ sym (if-false _ _ _ (le-ltb m (length ts) (omega (arith, n))))

      same_after : (b : Bool) → ltb m M ≡ b → totals_after us (group_entry low e) ≡ group_totals M low (totals_after ts e)
      unfolding totals_after
      same_after true p =
          let h = ltb-true m M p in
          let s : low + (m - low) ≡ m = omega (arith, in-above M low m i) in
          let x = (outcome ts e).total in
          if-true _ _ _ (lt-ltb (m - low) (length us) (omega (arith, group-length, in_size h)))
          ∙ ap (λ (o : Outcome). set us (m - low) o.total) (same_outcome true p)
          ∙ sym
          (ap (group_totals M low) (if-true _ _ _ (lt-ltb m (length ts) (omega (arith, n))))
          ∙ ap (λ (k : ℕ). group_totals M low (set ts k x)) (sym s)
          ∙ ap (take (group_size M low)) (drop-set-add low ts (m - low) x)
          ∙ take-set-lt (group_size M low) (drop low ts) (m - low) x (in_size h))
      same_after false p =
          let h = ltb-false m M p in
          if-false _ _ _ (le-ltb (m - low) (length us) (omega (arith, group-length, size-le M low)))
          ∙ sym (ap (group_totals M low) (if-false _ _ _ (le-ltb m (length ts) (omega (arith, n)))))

    -- any other entry
    group-stays : in_group M low m ≡ false → group_totals M low (totals_after ts e) ≡ group_totals M low ts
    unfolding totals_after
    group-stays i =
        split (λ (vs : List ℕ). group_totals M low vs ≡ us) (ltb m (length ts)) _ _
        (λ _. put-elsewhere (ltb m low) refl)
        (λ _. refl)
      where
        put-elsewhere : (b : Bool) → ltb m low ≡ b → group_totals M low (set ts m (outcome ts e).total) ≡ us
        put-elsewhere true p = ap (take (group_size M low)) (drop-set-lt low ts m (outcome ts e).total (ltb-true m low p))
        put-elsewhere false p =
            let h = ltb-false m low p in
            let s : low + (m - low) ≡ m = omega arith in
            let x = (outcome ts e).total in
            ap (λ (k : ℕ). group_totals M low (set ts k x)) (sym s)
            ∙ ap (take (group_size M low)) (drop-set-add low ts (m - low) x)
            ∙ take-set-le (group_size M low) (drop low ts) (m - low) x (omega (arith, size_few M low, out-far M low m i h))

-- a run of 512 bytes that has the totals of a group, where all members' totals are ts
pub record Grouped (M low : ℕ) (ts totals : List ℕ) : Type 0 where
  pub bytes : Bytes totals
  pub long : length totals ≡ 512
  pub are : cells 8 total_of (group_size M low) totals ≡ group_totals M low ts

-- over the entries of a run, read by any reader of cells
module _ (M low w : ℕ) (get : List ℕ → Entry) (s : List ℕ) where
  -- the members' totals before entry number i + 1
  abbrev before : (i : ℕ) → List ℕ
  before i = through (no_totals M) (cells w get i s)

  pub grouped-none : low < M → Grouped M low (before 0) (replicate 512 0)
  grouped-none h =
      record {
        bytes = zero-bytes 512;
        long = refl;
        are = group-none M low 512 h (omega arith) ∙ ap (group_totals M low) (through-none w get (no_totals M) s);
      }

  module _ (i : ℕ) (totals : List ℕ) (g : Grouped M low (before i) totals) (e : Entry) (p : e ≡ get (drop (w * i) s)) where
    all_there : length (before i) ≡ M
    all_there = through-length (no_totals M) (cells w get i s) ∙ length-replicate {A = ℕ} M 0

    next : totals_after (before i) e ≡ before (i + 1)
    next = through-more w get (no_totals M) s i (before i) e refl p

    pub grouped-other : in_group M low e.member ≡ false → Grouped M low (before (i + 1)) totals
    grouped-other o =
        record {
          bytes = g.bytes;
          long = g.long;
          are = g.are ∙ sym (group-stays M low (before i) all_there e o) ∙ ap (group_totals M low) next;
        }

    module _ (y : in_group M low e.member ≡ true) where
      pub grouped-given : (o : Outcome) → o ≡ outcome_on (group_size M low) totals (group_entry low e) → o ≡ outcome (before i) (get (drop (w * i) s))
      grouped-given o q =
          given_is (group_size M low) totals (group_entry low e) (group_totals M low (before i)) o g.are q
          ∙ same_outcome M low (before i) all_there e y (ltb e.member M) refl ∙ ap (outcome (before i)) p

      pub grouped-more : (after : List ℕ) → after ≡ total_bytes_after (group_size M low) totals (group_entry low e) → length after ≡ length totals
          → Grouped M low (before (i + 1)) after
      grouped-more after q l =
          let k = group_size M low in
          record {
            bytes = subst Bytes (sym q) (after-bytes k totals (group_entry low e) g.bytes);
            long = l ∙ g.long;
            are =
                after_is k totals (group_entry low e) after g.bytes (omega (arith, size_few M low, g.long)) q
                ∙ ap (λ (vs : List ℕ). totals_after vs (group_entry low e)) g.are
                ∙ same_after M low (before i) all_there e y (ltb e.member M) refl
                ∙ ap (group_totals M low) next;
          }
