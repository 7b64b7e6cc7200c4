-- The journal that an owner keeps.
--     completes                             the last ops, out of memory that calls produced, complete the journal
--     journaled, journal-kept               any chain of calls, and one from a creation
--     run-journaled, run-journal-kept       the same at the C boundary
-- Assumes nothing.
use mathlib.Core.Path.{◌≡◌, refl, sym, ap, ◌∙◌, subst}
use mathlib.Core.Bool.{true}
use borrow.Author.Tests.{le-leb}
use Rattle.numbers.specs.Words.{◌and◌}
use mathlib.Core.List.{List, [], ◌∷◌, ◌++◌, append_assoc, append-nil}
use Prim.Native.Nat.{ℕ, zero, suc, ◌+◌, ◌-◌, ◌*◌, ◌≤◌}
use native.Mathlib.Nat.{zero-add}
use native.Mathlib.Omega.{arith}
use lib.ListN.{length, take, drop, length-take, take-append-drop}
use lib.Seq.{take_at, take_all}
use Rattle.numbers.proofs.CellLaws.{cells-length, cells-take, cells-drop}
use Rattle.entries.specs.Entries.{entry_of, entries}
use Rattle.entries.specs.Places.{entry_place, result_place}
use Rattle.entries.specs.declared.Entry.{Entry}
use Rattle.config.specs.declared.Setup.{Setup}
use Rattle.fees.specs.Results.{result_of, outcomes}
use Rattle.fees.specs.declared.Outcome.{Outcome}
use Rattle.state.specs.declared.Replica.{Replica}
use Rattle.state_bytes.specs.Layout.{state_of, state_ok}
use Rattle.model.specs.Book.{outcome, totals_after, results_of}
use Rattle.layout.specs.Layout.{book_of, model_of}
use Rattle.safety.specs.Demand.{Safe, Later}
use Rattle.safety.proofs.Runs.{demand3}
use Rattle.config.proofs.SetupLaws.{sized}
use Rattle.steps.specs.Steps.{Sound}
use Rattle.outside.proofs.SoundLaws.{sound-is}
use Rattle.replica.specs.Lent.{Lent, Called}
use Rattle.replica.specs.Meaning.{Kept, meaning_of}
use Rattle.replica.specs.Demands.{HandedBack, Link, Chain, GoesOn}
use Rattle.replica.specs.Demands.Chain.{none, more}
use Rattle.replica.specs.Promise.{CreatePromise, RecoverPromise}
use Rattle.replica.proofs.DemandLaws.{handed-kept, handed-means, chain-goes}
use Rattle.whitherhaul.specs.Replicas.{Ran}
use Rattle.whitherhaul.specs.Demands.{RunLink, RunChain}
use Rattle.whitherhaul.specs.Demands.RunChain.{none as no_run, more as more-runs}
use Rattle.whitherhaul.proofs.DemandLaws.{run-chain-goes, begun, done-leaves}
use Rattle.whitherhaul.specs.Replicas.{CreateRan, RecoverRan, create_run, recover_run}
use Rattle.replica.specs.Calls.{create_call, recover_call}
use Rattle.numbers.specs.declared.View.{View}
use Rattle.journal.specs.Journal.{frames_after, no_totals, journal}
use Rattle.journal.specs.Calls.{frames_in, ops_there}
use Rattle.journal.proofs.FrameLaws.{frames-join}
use Rattle.kept_journal.specs.Appended.{frames_of, ops_of, journaled_by, journaled_in, run_journaled_by, run_journaled_in, Completes, Journaled, JournalKept}
use Rattle.state.specs.Answers.{code_of}

-- frames out of bytes, from any op on, complete those before it
frames-split : (from to : ℕ) (log results : List ℕ) → from ≤ to
    → frames_after 0 (entries from log) (outcomes from results) ++ frames_in from to log results ≡ frames_after 0 (entries to log) (outcomes to results)
unfolding frames_in
frames-split from to log results h =
    let e = cells-take 32 entry_of to log from h in
    let f = cells-drop 32 entry_of to log from in
    let o = cells-take 9 result_of to results from h in
    let p = cells-drop 9 result_of to results from in
    let n = cells-length 32 entry_of from log in
    let m = cells-length 9 result_of from results in
    sym
    (ap (λ (es : List Entry). frames_after 0 es (outcomes to results)) (sym (take-append-drop from (entries to log)))
    ∙ ap (frames_after 0 (take from (entries to log) ++ drop from (entries to log))) (sym (take-append-drop from (outcomes to results)))
    ∙ rw (e, f, o, p) (frames-join 0 (entries from log) (entries (to - from) (drop (entry_place from) log)) (outcomes from results) (outcomes (to - from) (drop (result_place from) results)) (n ∙ sym m))
    ∙ ap (λ (i : ℕ). frames_after 0 (entries from log) (outcomes from results) ++ frames_after i (entries (to - from) (drop (entry_place from) log)) (outcomes (to - from) (drop (result_place from) results))) (zero-add (length (entries from log)) ∙ n))

-- what the first entries gave are the first results
results-take : (ts : List ℕ) (es : List Entry) (j : ℕ) → results_of ts (take j es) ≡ take j (results_of ts es)
unfolding results_of
results-take ts es zero = refl
results-take ts [] (suc j) = refl
results-take ts (e ∷ es) (suc j) = ap (λ (os : List Outcome). outcome ts e ∷ os) (results-take (totals_after ts e) es j)

-- ---- one state

module _ (s : Replica) (x : Lent) (applied : List Entry) (k : Kept s x applied) where
  abbrev log : List ℕ
  log = x.core.runs.log

  abbrev results : List ℕ
  results = x.core.runs.money.results

  abbrev M : ℕ
  M = s.setup.members

  abbrev c : ℕ
  c = s.commit.0

  pub safe-kept : Safe s.setup (meaning_of s x applied)
  safe-kept =
      let r = k.reached in
      subst (Safe s.setup) (sym r.is) (demand3 s.setup r.first r.created r.calls []).safe

  whole : Sound s x.core.runs
  whole = (sound-is s x.core (length x.table) k.sound).gathering.sound

  applied-are : applied ≡ entries c log
  unfolding model_of book_of
  applied-are = safe-kept.applied-is ∙ cells-take 32 entry_of s.op.0 log c whole.commit-le

  results-are : outcomes c results ≡ results_of (no_totals M) applied
  unfolding model_of book_of
  results-are = safe-kept.results-are

  pub applied-count : length applied ≡ c
  applied-count = ap length applied-are ∙ cells-length 32 entry_of c log

  -- the journal of the first applied entries is made of bytes
  first : (from : ℕ) → from ≤ c → journal M (take from applied) ≡ frames_after 0 (entries from log) (outcomes from results)
  unfolding journal
  first from h =
      let e : take from applied ≡ entries from log = ap (take from) applied-are ∙ cells-take 32 entry_of c log from h in
      let o : results_of (no_totals M) (take from applied) ≡ outcomes from results =
      results-take (no_totals M) applied from ∙ ap (take from) (sym results-are) ∙ cells-take 9 result_of c results from h in
      λ i. frames_after 0 (e i) (o i)

  pub completes : (from : ℕ) → from ≤ c → Completes s x applied from
  unfolding ops_there ◌and◌
  completes from h =
      let w = whole in
      let z = sized s.setup w.sized in
      let l : 32 * c ≤ length log = omega (arith, w.commit-le, w.op_le, w.log-long) in
      let r : 9 * c ≤ length results = omega (arith, w.commit-le, w.op_le, w.results-long) in
      let n : c ≤ 4096 = omega (arith, w.commit-le, w.op_le, z.room-high) in
      let a : take c applied ≡ applied = take_all c applied (omega (arith, applied-count)) in
      record {
        there = rw (le-leb from c h, le-leb c 4096 n, le-leb (32 * c) (length log) l, le-leb (9 * c) (length results) r);
        whole =
            ap (λ (v : List ℕ). v ++ frames_in from c log results) (first from h) ∙ frames-split from c log results h
            ∙ sym (first c (omega arith)) ∙ ap (journal M) a;
      }

-- ---- one call

-- what a call committed goes behind the journal of what was applied before it
goes-journal : (s : Replica) (x : Lent) (applied : List Entry) (s' : Replica) (x' : Lent) → Kept s x applied → (g : GoesOn s x applied s' x')
    → journal s.setup.members applied ++ frames_of s.commit.0 s'.commit.0 x' ≡ journal s.setup.members g.applied'
unfolding model_of book_of
goes-journal s x applied s' x' k g =
    let n = s.commit.0 in
    let e : take n g.applied' ≡ applied =
    ap (take n) g.later.applied-grows ∙ take_at applied g.later.more n (applied-count s x applied k) in
    let w = (completes s' x' g.applied' g.kept n g.later.commit-up).whole in
    let v : journal s'.setup.members applied ++ frames_of n s'.commit.0 x' ≡ journal s'.setup.members g.applied' =
    ap (λ (es : List Entry). journal s'.setup.members es ++ frames_of n s'.commit.0 x') (sym e) ∙ w in
    subst (λ (u : Setup). journal u.members applied ++ frames_of n s'.commit.0 x' ≡ journal u.members g.applied') g.setup v

handed-same : (x : Lent) → HandedBack x x
handed-same x = record { runs = refl; acks = refl; stored = refl; table = refl }

-- ---- any calls

-- a call, and then others
onward : (s : Replica) (x : Lent) (applied : List Entry) (t : Replica) (z : Lent) (g : GoesOn s x applied t z) → Kept s x applied
    → (s' : Replica) (x' : Lent) (w : List ℕ) → Journaled t g.applied' s' x' w
    → Journaled s applied s' x' (frames_of s.commit.0 t.commit.0 z ++ w)
onward s x applied t z g k s' x' w r =
    let v = frames_of s.commit.0 t.commit.0 z in
    let p : journal s.setup.members g.applied' ++ w ≡ journal s.setup.members r.applied' =
    subst (λ (u : Setup). journal u.members g.applied' ++ w ≡ journal u.members r.applied') g.setup r.is in
    record {
      applied' = r.applied';
      kept = r.kept;
      setup = r.setup ∙ g.setup;
      safe = subst (λ (u : Setup). Safe u (meaning_of s' x' r.applied')) g.setup r.safe;
      is =
          sym (append_assoc (journal s.setup.members applied) v w)
          ∙ ap (λ (l : List ℕ). l ++ w) (goes-journal s x applied t z k g) ∙ p;
    }

-- no call
stays : (s : Replica) (x : Lent) (applied : List Entry) → Kept s x applied → Journaled s applied s x []
stays s x applied k =
    record { applied' = applied; kept = k; setup = refl; safe = safe-kept s x applied k; is = append-nil (journal s.setup.members applied) }

pub journaled : (s' : Replica) (x' : Lent) (s : Replica) (x : Lent) (applied : List Entry) → Kept s x applied → (c : Chain s' x' s x)
    → Journaled s applied s' x' (journaled_in s' x' s x c)
journaled s' x' s x applied k none = stays s' x' applied k
journaled s' x' s x applied k (more _ _ d y l h c) =
    let t = d.answer.state in
    let g = chain-goes s x applied t d.lent k (more s x d d.lent l (handed-same d.lent) none) in
    onward s x applied t d.lent g k s' x' _ (journaled s' x' t y g.applied' (handed-kept t g.applied' d.lent y h g.kept) c)

-- the same at the C boundary
pub run-journaled : (state' : List ℕ) (x' : Lent) (state : List ℕ) (x : Lent) (applied : List Entry) → state_ok state ≡ true
    → Kept (state_of state) x applied → (c : RunChain state' x' state x)
    → Journaled (state_of state) applied (state_of state') x' (run_journaled_in state' x' state x c)
run-journaled state' x' state x applied ok k no_run = stays (state_of state') x' applied k
run-journaled state' x' state x applied ok k (more-runs _ _ d y l h c) =
    let t = state_of d.state in
    let r = run-chain-goes state x applied d.state d.lent ok k (more-runs state x d d.lent l (handed-same d.lent) no_run) in
    let g = r.goes in
    onward (state_of state) x applied t d.lent g k (state_of state') x' _
    (run-journaled state' x' d.state y g.applied' r.ok (handed-kept t g.applied' d.lent y h g.kept) c)

-- ---- from a creation

-- where nothing was applied before
from_nothing : (s s' : Replica) (x' : Lent) (w : List ℕ) → Journaled s [] s' x' w → JournalKept s' x' w
unfolding journal frames_after
from_nothing s s' x' w r =
    record {
      applied = r.applied';
      kept = r.kept;
      safe = safe-kept s' x' r.applied' r.kept;
      is = r.is ∙ ap (λ (u : Setup). journal u.members r.applied') (sym r.setup);
    }

pub journal-kept : (u : Setup) (x : Lent) (d : Called) (y : Lent) (s : Replica) (z : Lent) → CreatePromise u x d → code_of d.answer ≡ 0
    → HandedBack d.lent y → (c : Chain s z d.answer.state y) → JournalKept s z (journaled_in s z d.answer.state y c)
journal-kept u x d y s z p e h c = from_nothing _ _ _ _ (journaled s z _ y [] (handed-kept _ _ _ _ h (p.keeps e)) c)

pub journal-kept-recovered : (u : Setup) (v : View) (nonce : ℕ) (x : Lent) (d : Called) (y : Lent) (s : Replica) (z : Lent)
    → RecoverPromise u v nonce x d → code_of d.answer ≡ 0 → HandedBack d.lent y → (c : Chain s z d.answer.state y)
    → JournalKept s z (journaled_in s z d.answer.state y c)
journal-kept-recovered u v nonce x d y s z p e h c = from_nothing _ _ _ _ (journaled s z _ y [] (handed-kept _ _ _ _ h (p.keeps e)) c)

pub run-journal-kept : (u : Setup) (state : List ℕ) (x : Lent) (d : Ran) (y : Lent) (state' : List ℕ) (z : Lent) → CreateRan u state x d
    → d.code ≡ 0 → HandedBack d.lent y → (c : RunChain state' z d.state y) → JournalKept (state_of state') z (run_journaled_in state' z d.state y c)
unfolding create_run
run-journal-kept u state x d y state' z p e h c =
    let b = begun state y (create_call u x) d (done-leaves state x _ _ d p.exact e) (p.next e) p.call.keeps e h in
    from_nothing _ _ _ _ (run-journaled state' z d.state y [] (p.next e).ok b c)

pub run-journal-kept-recovered : (u : Setup) (v : View) (nonce : ℕ) (state : List ℕ) (x : Lent) (d : Ran) (y : Lent) (state' : List ℕ) (z : Lent)
    → RecoverRan u v nonce state x d → d.code ≡ 0 → HandedBack d.lent y → (c : RunChain state' z d.state y)
    → JournalKept (state_of state') z (run_journaled_in state' z d.state y c)
unfolding recover_run
run-journal-kept-recovered u v nonce state x d y state' z p e h c =
    let b = begun state y (recover_call u v nonce x) d (done-leaves state x _ _ d p.exact e) (p.next e) p.call.keeps e h in
    from_nothing _ _ _ _ (run-journaled state' z d.state y [] (p.next e).ok b c)
