-- The book: the fee rules over the members' totals, the client table, append, commit and install. Assumes nothing.
use Rattle.std.specs.Prelude.{ℕ, zero, suc, ◌+◌, ◌-◌, ◌<◌, Bool, true, false, List, [], ◌∷◌, ◌++◌, ltb, eqb, length, get_or, set, take, drop, replicate}
use Rattle.std.proofs.Math.Option.{Option, none, some}
use Rattle.numbers.specs.Words.{when◌then◌else◌, ◌and◌}
use Rattle.entries.specs.Entries.{operation_of}
use Rattle.entries.specs.declared.Entry.{Entry}
use Rattle.fees.specs.Fees.{gives, rule}
use Rattle.fees.specs.Takings.{takings_after}
use Rattle.fees.specs.declared.Outcome.{Outcome}
use Rattle.model.specs.State.{ClientEntry, Book, Reply}

-- what the fee rules give for an entry on the members' totals: a member not below M has outcome 4 (document 01, "Fee rules")
unfoldable pub outcome : List ℕ → Entry → Outcome
outcome ts e =
    when ltb e.member (length ts) then rule (get_or ts e.member 0) (operation_of e.operation) e.cents else
    gives 4 0

-- the totals after it
unfoldable pub totals_after : List ℕ → Entry → List ℕ
totals_after ts e = when ltb e.member (length ts) then set ts e.member (outcome ts e).total else ts

-- the totals after a list of entries, one after the other
unfoldable pub through : List ℕ → List Entry → List ℕ
through ts [] = ts
through ts (e ∷ es) = through (totals_after ts e) es

-- what each of the entries gave, in order
unfoldable pub results_of : List ℕ → List Entry → List Outcome
results_of ts [] = []
results_of ts (e ∷ es) = outcome ts e ∷ results_of (totals_after ts e) es

-- the takings t after them, by what each gave
unfoldable pub takings_through : ℕ → List ℕ → List Entry → ℕ
takings_through t ts [] = t
takings_through t ts (e ∷ es) = takings_through (takings_after t (outcome ts e) e.cents) (totals_after ts e) es

-- each row's client id is above c
abbrev pub Above : ℕ → List ClientEntry → Type 0
Above c [] = Unit
Above c (r ∷ rs) = (c < r.client) × Above c rs

-- each client id is above those before it
abbrev pub Rises : List ClientEntry → Type 0
Rises [] = Unit
Rises (r ∷ rs) = Above r.client rs × Rises rs

-- what the table has of a client: `client_table.get`
pub record Seen : Type 0 where
  pub there : Bool
  pub request : ℕ
  pub kept : Option Outcome

-- the first row of the client; ids rise, so it is the only one
unfoldable pub find : List ClientEntry → ℕ → Seen
find [] c = record { there = false; request = 0; kept = none }
find (r ∷ rs) c = when eqb r.client c then record { there = true; request = r.request; kept = r.kept } else find rs c

-- `client_table.insert`: the row in its place, or in place of the client's old one; client ids rise
unfoldable pub put : List ClientEntry → ClientEntry → List ClientEntry
put [] r = r ∷ []
put (q ∷ qs) r =
    when ltb r.client q.client then r ∷ q ∷ qs else
    when eqb r.client q.client then r ∷ qs else
    q ∷ put qs r

-- the row of an entry, with the reply kept for it
unfoldable pub entry_row : Entry → Option Outcome → ClientEntry
entry_row e k = record { client = e.client; request = e.request; kept = k }

-- append_to_log: the client's latest request, not yet executed
unfoldable pub append : Book → Entry → Book
append b e =
    record {
      log = b.log ++ (e ∷ []);
      commit = b.commit;
      results = b.results;
      table = put b.table (entry_row e none);
      totals = b.totals;
      takings = b.takings;
      applied = b.applied;
    }

-- append_to_log for each entry: the loop of on_new_state
unfoldable pub append_all : Book → List Entry → Book
append_all b [] = b
append_all b (e ∷ es) = append_all (append b e) es

-- the table after an entry was executed: its reply is kept if the request is still the client's latest
unfoldable pub keep : List ClientEntry → Entry → Outcome → List ClientEntry
keep t e o =
    when (find t e.client).there and eqb (find t e.client).request e.request then put t (entry_row e (some o)) else
    t

-- commit_op, of the entry given: it goes through the fee rules, and is added to the applied entries. Here alone the takings change.
unfoldable pub commit_one : Book → Entry → Book
commit_one b e =
    record {
      log = b.log;
      commit = b.commit + 1;
      results = b.results ++ (outcome b.totals e ∷ []);
      table = keep b.table e (outcome b.totals e);
      totals = totals_after b.totals e;
      takings = takings_after b.takings (outcome b.totals e) e.cents;
      applied = b.applied ++ (e ∷ []);
    }

-- the loop of commit_up_to, over the entries that it goes through
unfoldable pub commit_all : Book → List Entry → Book
commit_all b [] = b
commit_all b (e ∷ es) = commit_all (commit_one b e) es

-- the entries that a commit up to k puts through the rules
unfoldable pub due_entries : Book → ℕ → List Entry
due_entries b k = take (k - b.commit) (drop b.commit b.log)

-- commit_up_to: the commit number never falls
unfoldable pub commit_up_to : Book → ℕ → Book
commit_up_to b k = commit_all b (due_entries b k)

-- the replies to entries with what each gave, in order, with the view given
unfoldable pub replies_of : ℕ → List Entry → List Outcome → List Reply
replies_of v [] os = []
replies_of v (e ∷ es) [] = []
replies_of v (e ∷ es) (o ∷ os) = record { view = v; client = e.client; request = e.request; result = o } ∷ replies_of v es os

-- the replies of a commit up to k
unfoldable pub commit_replies : ℕ → Book → ℕ → List Reply
commit_replies v b k = replies_of v (due_entries b k) (results_of b.totals (due_entries b k))

-- install_log, its table: a row for each entry in the order of the log, with what the entry gave, as far as there are outcomes. A later entry
-- of a client overwrites an earlier one's row.
unfoldable pub rebuilt : (new : List ClientEntry) → List Entry → List Outcome → List ClientEntry
rebuilt new [] os = new
rebuilt new (e ∷ es) [] = rebuilt (put new (entry_row e none)) es []
rebuilt new (e ∷ es) (o ∷ os) = rebuilt (put new (entry_row e (some o))) es os

-- The client table of a log, `commit` of its entries being committed, which gave these results (document 02, order 6): a client's row is that of
-- its last entry, and has the outcome and total that this entry gave if it is committed.
unfoldable pub table_of : List Entry → List Outcome → (commit : ℕ) → List ClientEntry
table_of log results commit = rebuilt [] log (take commit results)

-- install_log
unfoldable pub install : Book → List Entry → Book
install b log =
    record {
      log = log;
      commit = b.commit;
      results = b.results;
      table = table_of log b.results b.commit;
      totals = b.totals;
      takings = b.takings;
      applied = b.applied;
    }

-- refusal 7, "alter": two entries are equal, field by field
unfoldable pub same_entry : Entry → Entry → Bool
same_entry a b =
    eqb a.client b.client and eqb a.request b.request and eqb a.operation b.operation
    and eqb a.member b.member and eqb a.cents b.cents

-- the first n entries of both logs are there, and equal
unfoldable pub agree : ℕ → List Entry → List Entry → Bool
agree zero xs ys = true
agree (suc n) [] ys = false
agree (suc n) (x ∷ xs) [] = false
agree (suc n) (x ∷ xs) (y ∷ ys) = same_entry x y and agree n xs ys

-- a new replica's book, of M members
unfoldable pub empty_book : ℕ → Book
empty_book M = record { log = []; commit = 0; results = []; table = []; totals = replicate M 0; takings = 0; applied = [] }
