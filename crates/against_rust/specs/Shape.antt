-- What a recorded run is: a setup, a creation and calls, each with what was answered; and what it says of the model: that it answers just so.
-- The fields are those of ../shared/vectors/FORMAT.md, in its order, and of the lines `+` and `$` of host/README.md. Assumes nothing.
use Rattle.std.specs.Prelude.{ℕ, ◌+◌, ◌-◌, ◌*◌, ◌%◌, ◌≡◌, Bool, true, false, List, [], ◌∷◌, ◌++◌, length}
use Rattle.std.proofs.Math.Option.{Option, none, some}
use Rattle.std.specs.Int.Bits.{bit_xor}
use Rattle.numbers.specs.Numbers.{big}
use Rattle.numbers.specs.Cells.{packed}
use Rattle.entries.specs.Entries.{encode_entry}
use Rattle.config.specs.declared.Setup.{Setup}
use Rattle.fees.specs.declared.Outcome.{Outcome}
use Rattle.frames.specs.Looks.{status_number}
use Rattle.model.specs.State.{ClientEntry, Held, Reported, Response, State, Answer, after}
use Rattle.model.specs.State.Answer.{refused, done}
use Rattle.model.specs.Sending.{messages_out, replies_out}
use Rattle.model.specs.Steps.{on_frame, on_tick, create, recover}
use Rattle.frames.specs.Refusals.{number_of}

-- bytes as a trace writes them: how many, and their hex digits as one number
unfoldable pub hex : ℕ → ℕ → List ℕ
hex k x = big k x

-- what is seen of a call: its number, the bytes of its messages and of its replies, 14 numbers of the state, 5 digests of it, the nonce with a digest
-- of the stored messages, and the takings. Each of the last four is [] where it wasn't recorded.
pub record Seen : Type 0 where
  pub number : ℕ
  pub messages : List ℕ
  pub replies : List ℕ
  pub numbers : List ℕ
  pub digests : List ℕ
  pub kept : List ℕ
  pub takings : List ℕ

unfoldable pub saw_all : ℕ → (messages replies numbers digests kept takings : List ℕ) → Seen
saw_all k out rs ns ds ks ts = record { number = k; messages = out; replies = rs; numbers = ns; digests = ds; kept = ks; takings = ts }

-- nothing of the nonce and the stored messages was recorded
unfoldable pub saw_sum : ℕ → (messages replies numbers digests takings : List ℕ) → Seen
saw_sum k out rs ns ds ts = saw_all k out rs ns ds [] ts

-- nor the takings
unfoldable pub saw : ℕ → (messages replies numbers digests : List ℕ) → Seen
saw k out rs ns ds = saw_all k out rs ns ds [] []

-- a creation: the first, or after a crash, with a view, a nonce and the size of the area for messages
pub data Start : Type 0 where
  new : Start
  back : (view nonce room : ℕ) → Start

-- a call, with the sizes of the areas for messages and replies, and what was seen of it
pub data Line : Type 0 where
  frame : (room room_replies : ℕ) → List ℕ → Seen → Line
  tick : (room room_replies : ℕ) → Seen → Line

-- a creation, what was seen of it, and the calls after it
pub record Run : Type 0 where
  pub setup : Setup
  pub start : Start
  pub first : Seen
  pub lines : List Line

-- n, own id, T, L, M
unfoldable pub run : (n id T L M : ℕ) → Start → Seen → List Line → Run
run n id T L M s f ls =
    record { setup = record { n = n; id = id; timeout = T; room = L; members = M }; start = s; first = f; lines = ls }

-- a flag as FORMAT.md writes it
unfoldable pub flag : Bool → ℕ
flag true = 1
flag false = 0

-- which places are filled, one bit for each replica id, the first one's being b
unfoldable pub bits_of : {A : Type 0} → ℕ → List (Option A) → ℕ
bits_of b [] = 0
bits_of b (none ∷ xs) = bits_of (b * 2) xs
bits_of b (some x ∷ xs) = b + bits_of (b * 2) xs

-- status view last_normal op commit heard waiting stable attempts svc dvc_sent catching_up dvcs responses
unfoldable pub numbers_of : State → List ℕ
numbers_of m =
    status_number m.place.status ∷ m.place.view ∷ m.place.last_normal ∷ length m.book.log ∷ m.book.commit ∷ flag m.clock.heard
    ∷ m.clock.waiting ∷ m.clock.stable ∷ m.clock.attempts ∷ m.votes.starts ∷ flag m.votes.sent ∷ flag m.place.catching_up
    ∷ bits_of 1 m.store.reports ∷ bits_of 1 m.store.responses ∷ []

-- the numbers, where they were recorded
unfoldable pub numbers_like : List ℕ → State → List ℕ
numbers_like [] m = []
numbers_like (k ∷ ks) m = numbers_of m

-- FNV-1a over 64 bits, from h on
unfoldable pub fnv_from : ℕ → List ℕ → ℕ
fnv_from h [] = h
fnv_from h (b ∷ bs) = fnv_from ((h - h % 256 + bit_xor b (h % 256)) * 0x100000001B3 % 0x10000000000000000) bs

unfoldable pub fnv : List ℕ → ℕ
fnv bs = fnv_from 0xCBF29CE484222325 bs

-- a kept reply, 0 where there is none
unfoldable pub kept_bytes : Option Outcome → List ℕ
kept_bytes none = big 9 0
kept_bytes (some o) = big 1 o.code ++ big 8 o.total

unfoldable pub row_bytes : ClientEntry → List ℕ
row_bytes r = big 8 r.client ++ big 8 r.request ++ kept_bytes r.kept

-- log rows totals acks applied
unfoldable pub digests_of : State → List ℕ
digests_of m =
    fnv (packed encode_entry m.book.log) ∷ fnv (packed row_bytes m.book.table) ∷ fnv (packed (big 8) m.book.totals)
    ∷ fnv m.votes.acks ∷ fnv (packed encode_entry m.book.applied) ∷ []

-- a stored log: whether there is one, view, op number, commit number, entries
unfoldable pub held_bytes : ℕ → Option Held → List ℕ
held_bytes v none = 0 ∷ big 4 v ++ big 4 0 ++ big 4 0
held_bytes v (some h) = 1 ∷ big 4 v ++ big 4 (length h.log) ++ big 4 h.commit ++ packed encode_entry h.log

-- a stored DoViewChange, which has a log
unfoldable pub report_bytes : Reported → List ℕ
report_bytes d = held_bytes d.last_normal (some d.held)

-- a stored RecoveryResponse
unfoldable pub response_bytes : Response → List ℕ
response_bytes d = held_bytes d.view d.held

-- what is stored of each replica behind its id, the first one's being i
unfoldable pub stored_bytes : {A : Type 0} → (A → List ℕ) → ℕ → List (Option A) → List ℕ
stored_bytes f i [] = []
stored_bytes f i (none ∷ xs) = stored_bytes f (i + 1) xs
stored_bytes f i (some x ∷ xs) = i ∷ f x ++ stored_bytes f (i + 1) xs

-- nonce reports; where DoViewChanges are stored there are no responses, and the other way round
unfoldable pub kept_of : State → List ℕ
kept_of m =
    m.store.nonce
    ∷ fnv (stored_bytes report_bytes 0 m.store.reports ++ stored_bytes response_bytes 0 m.store.responses) ∷ []

-- the nonce and that digest, where they were recorded
unfoldable pub kept_like : List ℕ → State → List ℕ
kept_like [] m = []
kept_like (k ∷ ks) m = kept_of m

-- the digests, where they were recorded
unfoldable pub digests_like : List ℕ → State → List ℕ
digests_like [] m = []
digests_like (d ∷ ds) m = digests_of m

-- the takings, where they were recorded
unfoldable pub takings_like : List ℕ → State → List ℕ
takings_like [] m = []
takings_like (t ∷ ts) m = m.book.takings ∷ []

-- what is seen of the model's answer, of what was recorded; a refusal leaves the state as it was
unfoldable pub shown : Seen → State → Answer → Seen
shown w m (refused k) =
    saw_all (number_of k) [] [] (numbers_like w.numbers m) (digests_like w.digests m) (kept_like w.kept m) (takings_like w.takings m)
shown w m (done m' out rs) =
    saw_all 0 (messages_out out) (replies_out rs) (numbers_like w.numbers m') (digests_like w.digests m') (kept_like w.kept m')
    (takings_like w.takings m')

-- what was recorded of a call
unfoldable pub wanted : Line → Seen
wanted (frame a b s w) = w
wanted (tick a b w) = w

-- what was recorded of each
unfoldable pub all_wanted : List Line → List Seen
all_wanted [] = []
all_wanted (l ∷ ls) = wanted l ∷ all_wanted ls

module _ (u : Setup) where
  -- what the model answers to a call
  unfoldable pub answer : State → Line → Answer
  answer m (frame a b s w) = on_frame u m s a b
  answer m (tick a b w) = on_tick u m a b

  -- what is seen of the model, call after call
  unfoldable pub seen : State → List Line → List Seen
  seen m [] = []
  seen m (l ∷ ls) = shown (wanted l) m (answer m l) ∷ seen (after m (answer m l)) ls

  -- and of its creation; a refused one has no state
  unfoldable pub seen_from : Seen → Answer → List Line → List Seen
  seen_from w (refused k) ls = saw (number_of k) [] [] [] [] ∷ []
  seen_from w (done m out rs) ls = shown w m (done m out rs) ∷ seen m ls

  unfoldable pub starts : Start → Answer
  starts new = create u
  starts (back v x a) = recover u v x a

-- the model answers as recorded
abbrev pub RunHolds : Run → Type 0
RunHolds r = seen_from r.setup r.first (starts r.setup r.start) r.lines ≡ r.first ∷ all_wanted r.lines
