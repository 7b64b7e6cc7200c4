-- Laws of frames that are written group by group.
--     group-begins, other-frame, group-frame    a turn of the frames of a group; group-framed: the frame itself
--     WrittenBelow, below-begins, below_more    the groups below one
--     all-written                     once all groups are written
-- Assumes nothing.
use mathlib.Core.Path.{◌≡◌, refl, sym, ap, ◌∙◌}
use mathlib.Core.Bool.{Bool, true, false, false≢true}
use mathlib.Core.List.{List, [], ◌∷◌, ◌++◌}
use Prim.Native.Nat.{ℕ, zero, suc, ◌+◌, ◌*◌, ◌≤◌, ◌<◌}
use native.Mathlib.Nat.{zero-add}
use native.Mathlib.Omega.{arith}
use lib.ListN.{length, take, drop, take-append-drop}
use lib.Seq.{take-add, take_at, drop_at, drop-drop, length-take-le}
use Rattle.numbers.specs.Numbers.{over, put_at}
use Rattle.numbers.specs.Cells.{cells}
use borrow.Author.Count.{below_more as each_more}
use Rattle.numbers.proofs.RunLaws.{put-before, put-after, put-length}
use Rattle.numbers.proofs.CellLaws.{cells-length}
use Rattle.entries.specs.Entries.{entry_of, entries}
use Rattle.entries.specs.declared.Entry.{Entry}
use Rattle.fees.specs.Fees.{outcome_on}
use Rattle.fees.specs.declared.Outcome.{Outcome}
use Rattle.model.specs.Book.{outcome, results_of}
use Rattle.model.proofs.BookLaws.{answers-length, answers-append}
use Rattle.journal.specs.Journal.{journal_frame, frames_after, no_totals, journal}
use Rattle.journal.specs.Steps.{group_size, in_group, groups_below, group_entry, entry_of_run, totals_of_run, frame_of_run, WritesGroup}
use Rattle.journal.proofs.FrameLaws.{cells-last, frames-length, frames-more}
use Rattle.journal.proofs.GroupLaws.{below_next, below_all, below_none, Grouped, grouped-given}

-- what was written at a place stands there
stands : (a n : ℕ) (w s : List ℕ) → length w ≡ n → a ≤ length s → take n (drop a (put_at a w s)) ≡ w
unfolding put_at over
stands a n w s e l =
    ap (take n) (drop_at (take a s) (w ++ drop (length w) (drop a s)) a (length-take-le a s l)) ∙ take_at w (drop (length w) (drop a s)) n e

-- ---- the frames of a group

module _ (M low : ℕ) (run before : List ℕ) where
  abbrev member : (i : ℕ) → ℕ
  member i = (entry_of_run i run).member

  pub group-begins : WritesGroup M low 0 run before before
  group-begins =
      record { long = refl; behind = refl; frames = λ i l. absurd (omega arith); others = λ i l. absurd (omega arith) }

  module _ (k : ℕ) (cur : List ℕ) (g : WritesGroup M low k run before cur) where
    next-behind : (after : List ℕ) → drop (50 * (k + 1)) after ≡ drop (50 * (k + 1)) cur → drop (50 * (k + 1)) after ≡ drop (50 * (k + 1)) before
    next-behind after p =
        let d : 50 * k + 50 ≡ 50 * (k + 1) = omega arith in
        p ∙ ap (λ (n : ℕ). drop n cur) (sym d) ∙ sym (drop-drop 50 (50 * k) cur) ∙ ap (drop 50) g.behind ∙ drop-drop 50 (50 * k) before
        ∙ ap (λ (n : ℕ). drop n before) d

    pub other-frame : in_group M low (entry_of_run k run).member ≡ false → WritesGroup M low (k + 1) run before cur
    other-frame o =
        record {
          long = g.long;
          behind = next-behind cur refl;
          frames =
              each_more (λ (i : ℕ). in_group M low (member i) ≡ true → take 50 (drop (50 * i) cur) ≡ frame_of_run M i run) k g.frames
              (λ y. absurd (false≢true (sym o ∙ y)));
          others =
              each_more (λ (i : ℕ). in_group M low (member i) ≡ false → take 50 (drop (50 * i) cur) ≡ take 50 (drop (50 * i) before)) k g.others
              (λ _. ap (take 50) g.behind);
        }

    pub group-frame : (w : List ℕ) → length w ≡ 50 → 50 * (k + 1) ≤ length cur → in_group M low (entry_of_run k run).member ≡ true
        → w ≡ frame_of_run M k run → WritesGroup M low (k + 1) run before (put_at (50 * k) w cur)
    group-frame w fifty room y p =
        let after = put_at (50 * k) w cur in
        record {
          long = put-length (50 * k) w cur (omega (arith, fifty)) ∙ g.long;
          behind = next-behind after (put-after (50 * k) (50 * (k + 1)) w cur (omega (arith, fifty)) (omega arith));
          frames =
              each_more (λ (i : ℕ). in_group M low (member i) ≡ true → take 50 (drop (50 * i) after) ≡ frame_of_run M i run) k
              (λ i l e. put-before (50 * k) (50 * i) 50 w cur (omega arith) (omega arith) ∙ g.frames i l e) (λ _. stands (50 * k) 50 w cur fifty (omega arith) ∙ p);
          others =
              each_more (λ (i : ℕ). in_group M low (member i) ≡ false → take 50 (drop (50 * i) after) ≡ take 50 (drop (50 * i) before)) k
              (λ i l e. put-before (50 * k) (50 * i) 50 w cur (omega arith) (omega arith) ∙ g.others i l e) (λ o. absurd (false≢true (sym o ∙ y)));
        }

-- the frame of an entry of the group, on its totals
pub group-framed : (M low k : ℕ) (run totals : List ℕ) → Grouped M low (totals_of_run M k run) totals → (e : Entry) → e ≡ entry_of_run k run
    → in_group M low e.member ≡ true → (o : Outcome) → o ≡ outcome_on (group_size M low) totals (group_entry low e)
    → journal_frame (k + 1) e o ≡ frame_of_run M k run
group-framed M low k run totals g e p y o q =
    let given = grouped-given M low 32 entry_of run k totals g e p y o q in
    λ i. journal_frame (k + 1) (p i) (given i)

-- ---- all groups

-- of n frames those of the groups below low are written, and nothing behind them is changed
pub record WrittenBelow (M low n : ℕ) (run before after : List ℕ) : Type 0 where
  pub long : length after ≡ length before
  pub behind : drop (50 * n) after ≡ drop (50 * n) before
  pub frames : (i : ℕ) → i < n → groups_below M low (entry_of_run i run).member ≡ true → take 50 (drop (50 * i) after) ≡ frame_of_run M i run

module _ (M n : ℕ) (run before : List ℕ) where
  pub below-begins : 1 ≤ M → WrittenBelow M 0 n run before before
  below-begins h =
      record { long = refl; behind = refl; frames = λ i l e. absurd (below_none M 0 (entry_of_run i run).member h refl e) }

  pub below_more : (low : ℕ) (cur after : List ℕ) → WrittenBelow M low n run before cur → WritesGroup M low n run cur after
      → WrittenBelow M (low + 64) n run before after
  below_more low cur after b g =
      record {
        long = g.long ∙ b.long;
        behind = g.behind ∙ b.behind;
        frames = λ i l e. which i l e (in_group M low (entry_of_run i run).member) refl (groups_below M low (entry_of_run i run).member) refl;
      }
    where
      which : (i : ℕ) → i < n → groups_below M (low + 64) (entry_of_run i run).member ≡ true
          → (t : Bool) → in_group M low (entry_of_run i run).member ≡ t → (u : Bool) → groups_below M low (entry_of_run i run).member ≡ u
          → take 50 (drop (50 * i) after) ≡ frame_of_run M i run
      which i l e true p u q = g.frames i l p
      which i l e false p true q = g.others i l p ∙ b.frames i l q
      which i l e false p false q = absurd (false≢true (sym p ∙ below_next M low (entry_of_run i run).member e q))

  none-in-order : (area : List ℕ) → take (50 * 0) area ≡ frames_after 0 (entries 0 run) (results_of (no_totals M) (entries 0 run))
  unfolding frames_after cells
  none-in-order area = refl

  -- frames at their places are frames one behind the other
  in_order : (k : ℕ) (area : List ℕ) → ((i : ℕ) → i < k → take 50 (drop (50 * i) area) ≡ frame_of_run M i run)
      → take (50 * k) area ≡ frames_after 0 (entries k run) (results_of (no_totals M) (entries k run))
  unfolding results_of
  in_order zero area h = none-in-order area
  in_order (suc k) area h =
      let es = entries k run in
      let os = results_of (no_totals M) es in
      let e = entry_of_run k run in
      let o = outcome (totals_of_run M k run) e in
      let len = cells-length 32 entry_of k run in
      let d : 50 * suc k ≡ 50 * k + 50 = omega arith in
      ap (λ (j : ℕ). take j area) d ∙ take-add (50 * k) 50 area
      ∙ (λ i. in_order k area (λ j l. h j (omega arith)) i ++ h k (omega arith) i)
      ∙ ap (λ (j : ℕ). frames_after 0 es os ++ journal_frame (j + 1) e o) (sym (zero-add k))
      ∙ sym (frames-more 0 k es os e o len (answers-length (no_totals M) es ∙ len))
      ∙ rw (cells-last 32 entry_of k run, answers-append (no_totals M) es (e ∷ []))

  pub all-written : (low : ℕ) (area : List ℕ) → M ≤ low → WrittenBelow M low n run before area → area ≡ over (journal M (entries n run)) before
  unfolding over journal
  all-written low area h b =
      let len = cells-length 32 entry_of n run in
      let m = frames-length 0 (entries n run) (results_of (no_totals M) (entries n run)) (sym (answers-length (no_totals M) (entries n run))) ∙ ap (λ (k : ℕ). 50 * k) len in
      sym (take-append-drop (50 * n) area)
      ∙ (λ i. in_order n area (λ k l. b.frames k l (below_all M low (entry_of_run k run).member h)) i ++ b.behind i)
      ∙ ap (λ (k : ℕ). frames_after 0 (entries n run) (results_of (no_totals M) (entries n run)) ++ drop k before) (sym m)
