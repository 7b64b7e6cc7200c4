-- FORMAT.md's state line: nineteen numbers of the state and of the lent runs, in the line's order; and the line `+ nonce reports` behind it. Assumes nothing.
use Rattle.std.specs.Prelude.{ℕ, zero, suc, ◌+◌, ◌*◌, Bool, true, false, List, [], ◌∷◌, ◌++◌, get_or, min, take, replicate, ◌==◌, nat_le, nat_lt, slice_index, slice_index_or}
use Rattle.std.specs.Int.{from_bool}
use Rattle.numbers.specs.Words.{when◌then◌else◌}
use Rattle.numbers.specs.Numbers.{big}
use Rattle.config.specs.Replicas.{with_member}
use Rattle.frames.specs.Looks.{status_number}
use Rattle.state.specs.Statuses.{is_recovering, no_report}
use Rattle.state.specs.Lengths.{stored_place}
use Rattle.state.specs.declared.Report.{Report}
use Rattle.state.specs.declared.Replica.{Replica}
use Rattle.comparing.specs.Text.{number_at}
use Rattle.comparing.specs.Digests.{digest_of, offset_basis, part_at}

-- 0 or 1
abbrev pub one_if : Bool → ℕ
one_if b = from_bool b

-- whose report is held among the first n, one bit for each replica id
unfoldable pub held_set : (n : ℕ) → List Report → ℕ
held_set zero rows = 0
held_set (suc i) rows = when (get_or rows i no_report).there then with_member (held_set i rows) i else held_set i rows

-- of seven replicas at most: there are no more rows
abbrev pub at_most_seven : ℕ → ℕ
at_most_seven n = min n 7

-- the rows hold RecoveryResponses in Recovering, else DoViewChanges
unfoldable pub held_as : (responses : Bool) → Replica → ℕ
held_as true s = when is_recovering s.status then held_set (at_most_seven s.setup.n) s.reports.rows else 0
held_as false s = when is_recovering s.status then 0 else held_set (at_most_seven s.setup.n) s.reports.rows

-- a row of the client table as it is digested: client, request, outcome and total; a row without a reply has 0 for both, an unused row is left out
unfoldable pub row_text : List ℕ → List ℕ
row_text row =
    when slice_index row 16 == 0 then [] else
    when nat_lt 6 (slice_index row 16) then take 16 row ++ replicate 9 0 else
    row

-- the first n rows of the table, which begins at 400
unfoldable pub table_text : (n : ℕ) → List ℕ → List ℕ
table_text zero mem = []
table_text (suc i) mem = table_text i mem ++ row_text (part_at (400 + 25 * i) 25 mem)

-- status view last_normal op commit heard waiting stable attempts svc dvc_sent catching_up dvcs responses log rows totals acks applied
unfoldable pub state_line : Replica → List ℕ → List ℕ
state_line s mem =
    status_number s.status
    ∷ s.view.0
    ∷ s.normal.0
    ∷ s.op.0
    ∷ s.commit.0
    ∷ one_if s.clock.heard
    ∷ s.clock.waiting
    ∷ s.clock.stable
    ∷ s.clock.attempts
    ∷ s.starts
    ∷ one_if s.sent
    ∷ one_if s.catching
    ∷ held_as false s
    ∷ held_as true s
    ∷ digest_of (part_at 0 (32 * s.op.0) mem)
    ∷ digest_of (table_text s.setup.room mem)
    ∷ digest_of (part_at 328 (8 * s.setup.members) mem)
    ∷ digest_of (part_at 392 s.setup.room mem)
    ∷ digest_of (part_at 0 (32 * s.commit.0) mem)
    ∷ []

-- number k of a state line: the last five are digests
unfoldable pub field_in : (k : ℕ) → List ℕ → ℕ
field_in k line = number_at (nat_le 14 k) (k + 1) line

-- the first place at which a line differs from numbers, the first of which is its number k; behind them all where none does
unfoldable pub first_differing : (line : List ℕ) (k : ℕ) → List ℕ → ℕ
first_differing line k [] = k
first_differing line k (x ∷ xs) = when field_in k line == x then first_differing line (k + 1) xs else k

-- a report as it is digested: the replica's id, whether it has a log, view, op, commit, and the log's entries, which lie behind 600
unfoldable pub report_text : (room i : ℕ) → Report → List ℕ → List ℕ
report_text room i d mem =
    when d.there
    then (i ∷ one_if d.full ∷ []) ++ (big 4 d.view.0 ++ (big 4 d.op.0 ++ (big 4 d.commit.0 ++ part_at (600 + stored_place room i) (32 * d.op.0) mem)))
    else []

-- those of the first n, by rising id
unfoldable pub reports_text : (room n : ℕ) → List Report → List ℕ → List ℕ
reports_text room zero rows mem = []
reports_text room (suc i) rows mem = reports_text room i rows mem ++ report_text room i (slice_index_or rows i no_report) mem

-- the digest of the reports that are held; of nothing where a setup has no room for any
unfoldable pub reports_digest : Replica → List ℕ → ℕ
reports_digest s mem =
    when nat_le s.setup.room 4096
    then digest_of (reports_text s.setup.room (at_most_seven s.setup.n) s.reports.rows mem)
    else offset_basis
