-- The vectors: a frame of each kind to replica 1, with the first of four entries, in 192 bytes; and a frame with a part changed. Assumes nothing.
use Rattle.std.specs.Prelude.{ℕ, ◌-◌, ◌*◌, List, [], length, take, replicate, ◌==◌, nat_le, nat_lt, Some, None}
use Rattle.numbers.specs.Words.{when◌then◌else◌}
use Rattle.numbers.specs.Numbers.{over}
use Rattle.numbers.specs.declared.View.{View}
use Rattle.numbers.specs.declared.Op.{Op}
use Rattle.entries.specs.Entries.{encode_entry}
use Rattle.entries.specs.declared.Entry.{Entry}
use Rattle.frames.specs.Messages.{progress}
use Rattle.frames.specs.declared.Message.{Message}
use Rattle.frames.specs.declared.Message.TheVariants.{Request, Prepare, PrepareOk, Commit, GetState, NewState, StartViewChange, DoViewChange, StartView, Recovery, RecoveryResponse}
use Rattle.writers.specs.Writers.{encode, reply, size_of, length_of}
use Rattle.comparing.specs.Areas.{stored_at}
use Rattle.frame_vectors.specs.declared.vector.Vector.{Vector}
use Rattle.frame_vectors.specs.declared.vector.ShortKind.{ShortKind}
use Rattle.frame_vectors.specs.declared.vector.ShortKind.TheVariants.{Request as ShortRequest, Prepare as ShortPrepare, PrepareOk as ShortPrepareOk, Commit as ShortCommit, GetState as ShortGetState, StartViewChange as ShortStartViewChange, Recovery as ShortRecovery, RecoveryResponse as ShortRecoveryResponse}
use Rattle.frame_vectors.specs.declared.vector.LoggedKind.{LoggedKind}
use Rattle.frame_vectors.specs.declared.vector.LoggedKind.TheVariants.{NewState as LoggedNewState, DoViewChange as LoggedDoViewChange, StartView as LoggedStartView, RecoveryResponse as LoggedRecoveryResponse}

-- a fee of 4500 cents, of member 3
abbrev pub tried_entry : (client request : ℕ) → Entry
tried_entry client request = record { client = client; request = request; operation = 1; member = 3; cents = 4500 }

-- four entries that rise, and zeros behind them
abbrev pub entries_run : List ℕ
entries_run = stored_at 96 (encode_entry (tried_entry 9 6)) (stored_at 64 (encode_entry (tried_entry 9 5)) (stored_at 32 (encode_entry (tried_entry 7 6)) (stored_at 0 (encode_entry (tried_entry 7 5)) (replicate 192 0))))

-- view 7, as all vectors are
abbrev pub seventh : View
seventh = record { 0 = 7 }

abbrev numbered_op : ℕ → Op
numbered_op k = record { 0 = k }

abbrev pub nonce_of : ℕ
nonce_of = 72623859790382856

-- by kind, a message that carries no log
abbrev pub short_message : ShortKind → Message
short_message ShortRequest = Request (tried_entry 7 5)
short_message ShortPrepare = Prepare seventh (numbered_op 1) (numbered_op 0) (tried_entry 7 5)
short_message ShortPrepareOk = PrepareOk seventh (numbered_op 1) 2
short_message ShortCommit = Commit seventh (numbered_op 1)
short_message ShortGetState = GetState 2 seventh (numbered_op 1)
short_message ShortStartViewChange = StartViewChange seventh 2
short_message ShortRecovery = Recovery 2 nonce_of seventh
short_message ShortRecoveryResponse = RecoveryResponse seventh nonce_of 2 None

-- by kind, a message that carries a log of k entries, all committed
abbrev pub logged_message : LoggedKind → ℕ → Message
logged_message LoggedNewState k = NewState seventh (numbered_op 0) (numbered_op k) (numbered_op k)
logged_message LoggedDoViewChange k = DoViewChange seventh 2 (record { 0 = 6 }) (numbered_op k) (numbered_op k)
logged_message LoggedStartView k = StartView seventh (numbered_op k) (numbered_op k)
logged_message LoggedRecoveryResponse k = RecoveryResponse seventh nonce_of 2 (Some (progress (numbered_op k) (numbered_op k)))

-- a message's frame to replica 1, with the first entries of a run; nothing where 192 bytes do not hold it
unfoldable pub tried_frame : List ℕ → Message → List ℕ
tried_frame run m = when nat_le (length_of m) 192 then encode 1 m (take (32 * (size_of m).entries) run) else []

-- bytes, and zeros behind them
unfoldable pub vector_of : List ℕ → Vector
vector_of w = record { bytes = over w (replicate 192 0); len = length w }

-- a Reply
abbrev pub tried_reply : List ℕ
tried_reply = reply seventh 7 5 1 4500

-- bytes put at a place of the 192; as it was where there is no room
unfoldable pub with_bytes : Vector → ℕ → List ℕ → Vector
with_bytes v a w = record { bytes = stored_at a w v.bytes; len = v.len }

-- the first n bytes
unfoldable pub cut_to : ℕ → Vector → Vector
cut_to n v = record { bytes = v.bytes; len = n }

-- what the length field of n bytes says
unfoldable pub fitted_length : ℕ → ℕ
fitted_length n = when nat_lt n 4 then 0 else when nat_lt 192 n then 0 else n - 4
