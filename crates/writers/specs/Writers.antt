-- Document 01, "Frames": the bytes of a frame of each kind, and frames one after the other. v view, o op, c commit (4 bytes each), r sender (1),
-- x nonce (8). The length is that of what follows it. Assumes nothing.
use Rattle.std.specs.Prelude.{Option, Some, None, List, [], ◌++◌, ℕ, zero, suc, ◌+◌, ◌-◌, ◌*◌, ◌≤◌, eqb}
use Rattle.numbers.specs.Words.{when◌then◌else◌}
use Rattle.numbers.specs.Numbers.{big}
use Rattle.numbers.specs.declared.View.{View}
use Rattle.entries.specs.Entries.{encode_entry}
use Rattle.frames.specs.Kinds.{fields_end, state_end}
use Rattle.frames.specs.declared.Progress.{Progress}
use Rattle.frames.specs.declared.Message.{Message}
use Rattle.frames.specs.declared.Message.TheVariants.{Request, Prepare, PrepareOk, Commit, GetState, NewState, StartViewChange, DoViewChange, StartView, Recovery, RecoveryResponse}
use Rattle.writers.specs.declared.Size.{Size}

-- length, version 1, kind, addressee
unfoldable pub header : ℕ → ℕ → ℕ → List ℕ
header len kind to = big 4 len ++ big 1 1 ++ big 1 kind ++ big 1 to

-- a message's frame to replica `to`, with the bytes of the log that it carries
unfoldable pub encode : ℕ → Message → List ℕ → List ℕ
encode to (Request e) log = header 35 1 to ++ encode_entry e
encode to (Prepare v o c e) log = header 47 2 to ++ big 4 v.0 ++ big 4 o.0 ++ big 4 c.0 ++ encode_entry e
encode to (PrepareOk v o r) log = header 12 3 to ++ big 4 v.0 ++ big 4 o.0 ++ big 1 r
encode to (Commit v c) log = header 11 4 to ++ big 4 v.0 ++ big 4 c.0
encode to (GetState r v o) log = header 12 5 to ++ big 1 r ++ big 4 v.0 ++ big 4 o.0
encode to (NewState v a z c) log =
    header (19 + 32 * (z.0 - a.0)) 6 to ++ big 4 v.0 ++ big 4 a.0 ++ big 4 z.0 ++ big 4 c.0 ++ log
encode to (StartViewChange v r) log = header 8 7 to ++ big 4 v.0 ++ big 1 r
encode to (DoViewChange v r l o c) log =
    header (20 + 32 * o.0) 8 to ++ big 4 v.0 ++ big 1 r ++ big 4 l.0 ++ big 4 o.0 ++ big 4 c.0 ++ log
encode to (StartView v o c) log = header (15 + 32 * o.0) 9 to ++ big 4 v.0 ++ big 4 o.0 ++ big 4 c.0 ++ log
encode to (Recovery r x v) log = header 16 10 to ++ big 1 r ++ big 8 x ++ big 4 v.0
encode to (RecoveryResponse v x r None) log = header 17 11 to ++ big 4 v.0 ++ big 8 x ++ big 1 r ++ big 1 0
encode to (RecoveryResponse v x r (Some p)) log =
    header (25 + 32 * p.op.0) 11 to ++ big 4 v.0 ++ big 8 x ++ big 1 r ++ big 1 1 ++ big 4 p.op.0 ++ big 4 p.commit.0 ++ log

-- a Reply's frame, kind 12: the addressee is 0
unfoldable pub reply : View → (client request outcome total : ℕ) → List ℕ
reply v client request outcome total = header 32 12 0 ++ big 4 v.0 ++ big 8 client ++ big 8 request ++ big 1 outcome ++ big 8 total

abbrev size : ℕ → ℕ → Size
size k n = record { fields = k; entries = n }

unfoldable pub state_size : Option Progress → Size
state_size None = size (fields_end 11) 0
state_size (Some p) = size state_end p.op.0

-- by kind, the bytes before the carried log, and how many entries it has; the one entry of a Request or Prepare is no log, and counts as fields
unfoldable pub size_of : Message → Size
size_of (Request e) = size (fields_end 1 + 32) 0
size_of (Prepare v o c e) = size (fields_end 2 + 32) 0
size_of (PrepareOk v o r) = size (fields_end 3) 0
size_of (Commit v c) = size (fields_end 4) 0
size_of (GetState r v o) = size (fields_end 5) 0
size_of (NewState v a z c) = size (fields_end 6) (z.0 - a.0)
size_of (StartViewChange v r) = size (fields_end 7) 0
size_of (DoViewChange v r l o c) = size (fields_end 8) o.0
size_of (StartView v o c) = size (fields_end 9) o.0
size_of (Recovery r x v) = size (fields_end 10) 0
size_of (RecoveryResponse v x r t) = state_size t

-- a frame's length
unfoldable pub length_of : Message → ℕ
length_of m = (size_of m).fields + 32 * (size_of m).entries

-- what a writer is lent: the carried entries at the front of a run of n bytes, and an area that the frame fits
pub record Room (m : Message) (n area : ℕ) : Type 0 where
  pub few : (size_of m).entries ≤ 4096
  pub log : 32 * (size_of m).entries ≤ n
  pub fits : length_of m ≤ area

-- the Rust's `send_to_others`: a frame to each replica below n but `me`, in id order, each straight after the one before it
unfoldable pub to_others : (n me : ℕ) → Message → List ℕ → List ℕ
to_others zero me m log = []
to_others (suc k) me m log = to_others k me m log ++ (when eqb k me then [] else encode k m log)
