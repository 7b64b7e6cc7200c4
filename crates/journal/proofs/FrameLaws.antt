-- Laws of frames put together.
--     cells-last                      one cell more behind the others
--     frame-length, frames-length     50 bytes a frame
--     frames-join, frames-more        frames behind frames, and one more
--     copied_none, copied_more        a turn of the frames that are made out of log and results
--     entries_none, entries-more      a turn of the entries that are read back
-- Assumes nothing.
use mathlib.Core.Path.{◌≡◌, refl, sym, ap, ◌∙◌}
use mathlib.Core.List.{List, [], ◌∷◌, ◌++◌, append_assoc, append-nil}
use Prim.Native.Nat.{ℕ, zero, suc, ◌+◌, ◌-◌, ◌*◌}
use native.Mathlib.Nat.{mul-zero, mul-suc, add_comm, add-zero}
use native.Mathlib.Numerals.{add-one}
use native.Mathlib.Omega.{arith}
use lib.ListN.{length, take, drop, length-append}
use lib.Seq.{drop-drop}
use Rattle.numbers.specs.Numbers.{big, over}
use Rattle.numbers.specs.Cells.{cells, packed}
use Rattle.numbers.proofs.RunLaws.{over-lend, over-nil}
use Rattle.numbers.proofs.CellLaws.{cells-length, packed-append, packed-length}
use Rattle.entries.specs.Entries.{encode_entry, entry_of, entries, EntryFits}
use Rattle.entries.specs.Places.{entry_place, result_place, entry_in}
use Rattle.entries.specs.declared.Entry.{Entry}
use Rattle.entries.proofs.EntryLaws.{entry-codec}
use Rattle.fees.specs.Results.{result_of, encode_result, result_in, outcomes}
use Rattle.fees.specs.declared.Outcome.{Outcome}
use Rattle.journal.specs.Journal.{journal_frame, frames_after, framed_entry, filed}

-- ---- cells

pub cells-last : {A : Type 0} (w : ℕ) (get : List ℕ → A) (k : ℕ) (s : List ℕ)
    → cells w get (suc k) s ≡ cells w get k s ++ get (drop (w * k) s) ∷ []
unfolding cells
cells-last w get zero s = rw (mul-zero w)
cells-last w get (suc k) s =
    let e : w + w * k ≡ w * suc k = add_comm w (w * k) ∙ sym (mul-suc w k) in
    ap (λ (xs : List _). get s ∷ xs) (cells-last w get k (drop w s)) ∙ rw (drop-drop, e)

-- ---- frames

pub frame-length : (op : ℕ) (e : Entry) (o : Outcome) → length (journal_frame op e o) ≡ 50
unfolding journal_frame big encode_entry encode_result
frame-length op e o = refl

pub frames-length : (i : ℕ) (es : List Entry) (os : List Outcome) → length es ≡ length os → length (frames_after i es os) ≡ 50 * length es
unfolding frames_after
frames-length i [] os h = refl
frames-length i (e ∷ es) [] h = absurd (omega arith)
frames-length i (e ∷ es) (o ∷ os) h =
    length-append (journal_frame (suc i) e o) (frames_after (suc i) es os)
    ∙ omega (arith, frame-length (suc i) e o, frames-length (suc i) es os (omega arith))

pub frames-join : (i : ℕ) (es fs : List Entry) (os ps : List Outcome) → length es ≡ length os
    → frames_after i (es ++ fs) (os ++ ps) ≡ frames_after i es os ++ frames_after (i + length es) fs ps
unfolding frames_after
frames-join i [] fs [] ps h = rw (add-zero i)
frames-join i [] fs (o ∷ os) ps h = absurd (omega arith)
frames-join i (e ∷ es) fs [] ps h = absurd (omega arith)
frames-join i (e ∷ es) fs (o ∷ os) ps h =
    let n : suc i + length es ≡ i + suc (length es) = omega arith in
    rw (frames-join (suc i) es fs os ps (omega arith), n) (sym (append_assoc (journal_frame (suc i) e o) (frames_after (suc i) es os) (frames_after (i + suc (length es)) fs ps)))

pub frames-more : (i k : ℕ) (es : List Entry) (os : List Outcome) (e : Entry) (o : Outcome) → length es ≡ k → length os ≡ k
    → frames_after i (es ++ e ∷ []) (os ++ o ∷ []) ≡ frames_after i es os ++ journal_frame (i + k + 1) e o
unfolding frames_after
frames-more i k es os e o p q =
    let n : suc (i + length es) ≡ i + k + 1 = omega arith in
    frames-join i es (e ∷ []) os (o ∷ []) (p ∙ sym q) ∙ rw (append-nil, n)

-- ---- out of log and results

module _ (from : ℕ) (log results area : List ℕ) where
  abbrev es : ℕ → List Entry
  es j = entries j (drop (entry_place from) log)

  abbrev os : ℕ → List Outcome
  os j = outcomes j (drop (result_place from) results)

  es-last : (j : ℕ) → es (suc j) ≡ es j ++ entry_in log (from + j) ∷ []
  es-last j =
      let a : 32 * from + 32 * j ≡ 32 * (from + j) = omega arith in
      cells-last 32 entry_of j (drop (entry_place from) log) ∙ rw (drop-drop, a)

  os-last : (j : ℕ) → os (suc j) ≡ os j ++ result_in results (from + j) ∷ []
  os-last j =
      let b : 9 * from + 9 * j ≡ 9 * (from + j) = omega arith in
      cells-last 9 result_of j (drop (result_place from) results) ∙ rw (drop-drop, b)

  pub copied_none : area ≡ over (frames_after from (es 0) (os 0)) area
  unfolding frames_after cells
  copied_none = over-nil area

  pub copied_more : (j : ℕ) (cur : List ℕ) {part : List ℕ} (e : Entry) (o : Outcome) → cur ≡ over (frames_after from (es j) (os j)) area
      → e ≡ entry_in log (from + j) → o ≡ result_in results (from + j)
      → part ≡ over (journal_frame (from + j + 1) e o) (take (length cur - 50 * j) (drop (50 * j) cur))
      → take (50 * j) cur ++ (part ++ drop (length cur - 50 * j) (drop (50 * j) cur)) ≡ over (frames_after from (es (j + 1)) (os (j + 1))) area
  copied_more j cur e o p q r w =
      let n = cells-length 32 entry_of j (drop (entry_place from) log) in
      let m = cells-length 9 result_of j (drop (result_place from) results) in
      let l : length (frames_after from (es j) (os j)) ≡ 50 * j = frames-length from (es j) (os j) (n ∙ sym m) ∙ ap (λ (k : ℕ). 50 * k) n in
      over-lend (frames_after from (es j) (os j)) (journal_frame (from + j + 1) e o) area (50 * j) l p w
      ∙ ap (λ (s : List ℕ). over s area)
      (sym (frames-more from j (es j) (os j) e o n m)
      ∙ rw (q, r, add-one, es-last j, os-last j))

-- ---- entries read back

module _ (file area : List ℕ) where
  pub entries_none : area ≡ over (packed encode_entry (filed 0 file)) area
  unfolding packed cells
  entries_none = over-nil area

  pub entries-more : (j : ℕ) (cur : List ℕ) {part : List ℕ} (e : Entry) → cur ≡ over (packed encode_entry (filed j file)) area
      → e ≡ framed_entry (drop (50 * j) file)
      → part ≡ over (encode_entry e) (take (length cur - 32 * j) (drop (32 * j) cur))
      → take (32 * j) cur ++ (part ++ drop (length cur - 32 * j) (drop (32 * j) cur)) ≡ over (packed encode_entry (filed (j + 1) file)) area
  unfolding packed
  entries-more j cur e p q w =
      let l : length (packed encode_entry (filed j file)) ≡ 32 * j =
      packed-length 32 entry_of encode_entry EntryFits entry-codec (filed j file) ∙ ap (λ (k : ℕ). 32 * k) (cells-length 50 framed_entry j file) in
      over-lend (packed encode_entry (filed j file)) (encode_entry e) area (32 * j) l p w
      ∙ ap (λ (s : List ℕ). over s area)
      (rw (q, add-one, cells-last 50 framed_entry j file, packed-append encode_entry (filed j file) (framed_entry (drop (50 * j) file) ∷ []), append-nil))
