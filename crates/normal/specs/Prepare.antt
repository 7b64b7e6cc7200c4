-- on_prepare, on the state by value and the bytes of the lent runs; the client's row is handed in by value. Assumes nothing.
use Rattle.std.specs.Prelude.{false, not, List, ℕ, ◌+◌, min, ltb, leb, length}
use Rattle.numbers.specs.Words.{when◌then◌else◌}
use Rattle.numbers.specs.declared.View.{View}
use Rattle.numbers.specs.declared.Op.{Op}
use Rattle.entries.specs.Entries.{encode_entry}
use Rattle.book.specs.Log.{with_entries}
use Rattle.state.specs.State.{heard_by, with_log}
use Rattle.state.specs.Answers.{refusal}
use Rattle.state.specs.declared.Replica.{Replica}
use Rattle.steps.specs.Steps.{Left, left, alone, accept_of, is_take, deferred, transferred, committed_and_acked}
use Rattle.book.specs.Memory.{Runs}
use Rattle.normal.specs.declared.prepare.PrepareVerdict.{PrepareVerdict}
use Rattle.normal.specs.declared.prepare.PrepareVerdict.TheVariants.{Transfer, Again, Refuse, Append}
use Rattle.normal.specs.declared.prepare.Prepared.{Prepared}
use Rattle.normal.specs.Request.{next_op}
use Rattle.entries.specs.declared.Entry.{Entry}
use Rattle.client_table.specs.Latest.{is_new}
use Rattle.client_table.specs.declared.Latest.{Latest}
use Rattle.frames.specs.declared.Refusal.TheVariants.{PastRoom, NotRising, NoRoomForMessages}

-- the lower of two op numbers
abbrev pub lower_of : Op → Op → Op
lower_of a b = record { 0 = min a.0 b.0 }

-- the numbers of a Prepare beside its view, and the client's row
abbrev pub prepared_by : (o c : Op) → Entry → Latest → Prepared
prepared_by o c e latest = record { op = o; commit = c; entry = e; latest = latest }

-- the next op: refusal 4 where the log has L entries; 6 where the client's row has this number or a later one
unfoldable pub append_verdict : Replica → Prepared → PrepareVerdict
append_verdict s p =
    when leb s.setup.room s.op.0 then Refuse PastRoom else
    when not (is_new p.latest p.entry.request) then Refuse NotRising else
    Append

-- past the next op a state transfer; an earlier one is a re-sent Prepare, not compared with our entry
unfoldable pub prepare_verdict : Replica → Prepared → PrepareVerdict
prepare_verdict s p =
    when ltb (s.op.0 + 1) p.op.0 then Transfer else
    when ltb p.op.0 (s.op.0 + 1) then Again else
    append_verdict s p

-- the log with the entry after its first op entries
abbrev pub with_entry : Replica → Prepared → Runs → Runs
with_entry s p x = record { log = with_entries s.op.0 (encode_entry p.entry) x.log; money = x.money }

-- appended; then commit to the smaller of c and our op number, and acknowledge our op number
unfoldable pub appended_by : Replica → Prepared → Runs → List ℕ → Left
appended_by s p x out =
    when ltb (length out) 16 then left (refusal NoRoomForMessages s) x out else
    committed_and_acked s (with_log (heard_by s) (next_op s) s.commit) (lower_of p.commit (next_op s)) false (with_entry s p x) out

unfoldable pub by_prepare_verdict : PrepareVerdict → Replica → Prepared → Runs → List ℕ → Left
by_prepare_verdict Transfer s p x out = alone x (transferred s out)
by_prepare_verdict Again s p x out = committed_and_acked s (heard_by s) (lower_of p.commit s.op) false x out
by_prepare_verdict (Refuse k) s p x out = left (refusal k s) x out
by_prepare_verdict Append s p x out = appended_by s p x out

-- on_prepare, of a backup in Normal in the message's view
unfoldable pub taken_prepare : Replica → Prepared → Runs → List ℕ → Left
taken_prepare s p x out = by_prepare_verdict (prepare_verdict s p) s p x out

-- on_prepare
unfoldable pub prepare_step : Replica → View → Prepared → Runs → List ℕ → Left
prepare_step s v p x out = when is_take (accept_of s v) then taken_prepare s p x out else alone x (deferred (accept_of s v) s v out)
