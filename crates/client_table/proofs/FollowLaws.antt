-- What the functions that follow a log show of the rows, on any form of row.
--     rebuild-done                     the table of a log: its committed entries with what they gave, then the others
--     one-appended, none-appended      a call that appended one entry, or none
--     found-client                     what was found of that entry's client
--     follow-done                      the whole change of a call that appended and committed
-- Assumes nothing.
use mathlib.Core.Path.{◌≡◌, refl, sym, ap, ◌∙◌}
use mathlib.Core.Bool.{false}
use mathlib.Core.List.{List, ◌++◌}
use Prim.Native.Nat.{ℕ, ◌+◌, ◌-◌, ◌*◌, ◌≤◌, ◌<◌}
use native.Mathlib.Omega.{arith}
use lib.ListN.{length, take, drop, take-append-drop}
use Rattle.numbers.proofs.CellLaws.{cells-length, cells-drop, cells-take, cells-next, cells-none}
use Rattle.entries.specs.declared.Entry.{Entry}
use Rattle.entries.specs.Entries.{entry_of, entries}
use Rattle.entries.specs.Places.{entry_in}
use Rattle.fees.specs.Results.{result_of, outcomes}
use Rattle.client_table.specs.declared.Change.{Change}
use Rattle.client_table.specs.Found.{Found, found_in, AppendsFor}
use Rattle.client_table.specs.Rows.{put_row, appended, rows_committed, rebuilt, followed}
use Rattle.client_table.specs.Shape.{Shape}
use Rattle.client_table.proofs.Turns.{append-turn, append-none, rebuild-append, follow-committed}

module _ {R : Type 0} (h : Shape R) where
  -- ---- the table of a log of n entries, d of them committed

  module _ (ls rs : List ℕ) (n d : ℕ) (l : d ≤ n) where
    abbrev behind : List Entry
    behind = entries (n - d) (drop (32 * d) ls)

    parted : entries d ls ++ behind ≡ entries n ls
    parted =
        ap (λ (es : List Entry). es ++ behind) (sym (cells-take 32 entry_of n ls d l))
        ∙ ap (λ (es : List Entry). take d (entries n ls) ++ es) (sym (cells-drop 32 entry_of n ls d)) ∙ take-append-drop d (entries n ls)

    pub rebuild-done : (new xs zs fin : List R) → xs ≡ new → zs ≡ rebuilt h xs (entries d ls) (outcomes d rs) → fin ≡ appended h zs behind
        → fin ≡ rebuilt h new (entries n ls) (outcomes d rs)
    rebuild-done new xs zs fin p q r =
        r ∙ ap (λ (us : List R). appended h us behind) (q ∙ ap (λ (us : List R). rebuilt h us (entries d ls) (outcomes d rs)) p)
        ∙ sym (rebuild-append h new (entries d ls) behind (outcomes d rs) (cells-length 32 entry_of d ls ∙ sym (cells-length 9 result_of d rs)))
        ∙ ap (λ (es : List Entry). rebuilt h new es (outcomes d rs)) parted

  module _ (k : Change) (xs : List R) (ls : List ℕ) where
    -- ---- no more than one entry was appended

    pub none-appended : k.to.0 ≤ k.op.0 → xs ≡ appended h xs (drop k.op.0 (entries k.to.0 ls))
    none-appended l =
        let e = cells-drop 32 entry_of k.to.0 ls k.op.0 ∙ cells-none 32 entry_of k.to.0 (drop (32 * k.op.0) ls) k.op.0 l in
        sym (append-none h xs (drop k.op.0 (entries k.to.0 ls)) e)

    module _ {f : Found R} (w : AppendsFor h k f xs ls) (l : k.op.0 < k.to.0) (e : Entry) (r : R) (p : e ≡ entry_in ls k.op.0) (q : r ≡ h.fresh e)
        (client : h.client (h.fresh e) ≡ e.client) where
      pub found-client : f ≡ found_in h xs (h.client r)
      found-client =
          w.found l ∙ ap (λ (x : Entry). found_in h xs x.client) (sym p)
          ∙ ap (λ (c : ℕ). found_in h xs c) (sym client ∙ ap (λ (x : R). h.client x) (sym q))

      pub one-appended : put_row h xs r ≡ appended h xs (drop k.op.0 (entries k.to.0 ls))
      one-appended =
          let rest = entries (k.to.0 - (k.op.0 + 1)) (drop (32 * (k.op.0 + 1)) ls) in
          let s = cells-drop 32 entry_of k.to.0 ls k.op.0 ∙ cells-next 32 entry_of k.to.0 ls k.op.0 e l p in
          let none = cells-none 32 entry_of k.to.0 (drop (32 * (k.op.0 + 1)) ls) (k.op.0 + 1) w.one in
          sym (append-none h (put_row h xs r) rest none)
          ∙ sym (append-turn h xs (put_row h xs r) e r (drop k.op.0 (entries k.to.0 ls)) rest s q refl)

    -- ---- the whole change of a call

    pub from-op : appended h xs (entries (k.to.0 - k.op.0) (drop (32 * k.op.0) ls)) ≡ appended h xs (drop k.op.0 (entries k.to.0 ls))
    from-op = ap (λ (es : List Entry). appended h xs es) (sym (cells-drop 32 entry_of k.to.0 ls k.op.0))

    pub follow-done : (rs : List ℕ) → k.installed ≡ false → k.done.0 ≤ k.to.0 → (ys : List R) → ys ≡ appended h xs (drop k.op.0 (entries k.to.0 ls))
        → rows_committed h ys (entries (k.done.0 - k.commit.0) (drop (32 * k.commit.0) ls)) (outcomes (k.done.0 - k.commit.0) (drop (9 * k.commit.0) rs))
        ≡ followed h k xs (entries k.to.0 ls) (outcomes k.done.0 rs)
    follow-done rs i l ys y =
        let m = k.done.0 - k.commit.0 in
        let log = drop (32 * k.commit.0) ls in
        let res = drop (9 * k.commit.0) rs in
        let e : take (length (outcomes m res)) (drop k.commit.0 (entries k.to.0 ls)) ≡ entries m log =
        rw (cells-length 9 result_of m res, cells-drop 32 entry_of k.to.0 ls k.commit.0)
        (cells-take 32 entry_of (k.to.0 - k.commit.0) log m (omega (arith, l))) in
        follow-committed h k xs (entries k.to.0 ls) (outcomes k.done.0 rs) i ys y (entries m log) (outcomes m res)
        (cells-drop 9 result_of k.done.0 rs k.commit.0) e
