-- What a step sends, lifted to the model.
--     others-bytes    to all others, with a log as its bytes are packed
--     bare-bytes      without a log
--     told-did        a step that changed runs, with its messages and replies
--     sends-only      refusals 9 and 10 where there are no replies
--     replies-only    where there are no messages
--     silent          where there is neither
--     idle-shown      a step that does nothing
-- Assumes nothing.
use Prim.Native.Nat.{ℕ, zero, suc}
use native.Mathlib.Omega.{arith}
use mathlib.Core.Path.{◌≡◌, refl, sym, ap, ◌∙◌}
use mathlib.Core.Bool.{Bool}
use mathlib.Core.List.{List, [], ◌++◌, append-nil}
use lib.Dec.{ltb, eqb}
use lib.ListN.{length}
use borrow.Author.Tests.{le-ltb}
use Rattle.numbers.specs.Words.{when◌then◌else◌}
use Rattle.numbers.specs.Numbers.{over}
use Rattle.numbers.specs.Cells.{packed}
use Rattle.numbers.proofs.WordLaws.{if-false, split₂}
use Rattle.numbers.proofs.CellLaws.{packed-append}
use Rattle.entries.specs.Entries.{encode_entry}
use Rattle.entries.specs.declared.Entry.{Entry}
use Rattle.config.specs.declared.Setup.{Setup}
use Rattle.frames.specs.declared.Message.{Message}
use Rattle.writers.specs.Writers as W
use Rattle.writers.specs.Writers.{encode}
use Rattle.state.specs.Answers.{completed, quiet}
use Rattle.state.specs.declared.Replica.{Replica}
use Rattle.steps.specs.Steps.{spoke}
use Rattle.model.specs.State.{ClientEntry, Book, State, Sent, Reply, Answer, ignored}
use Rattle.model.specs.State.Answer.{refused, done}
use Rattle.model.specs.Sending.{sent_bytes, messages_out, replies_out, send, to_others_below, to_others}
use Rattle.layout.specs.Layout.{LentRuns, book_of, model_of}
use Rattle.model.specs.Steps.{fitted}
use Rattle.layout.specs.Shown.{Given, Step, Grew, Did, Shown}
use Rattle.steps.proofs.StepLift.{of_spoke, quiet-shown, no-growth}
use Rattle.frames.specs.declared.Refusal.TheVariants.{NoRoomForMessages, NoRoomForReplies}

module _ (u : Setup) (x : Message) where
  module _ (log : List Entry) where
    -- to replica k, unless it is ourselves
    one-bytes : (k : ℕ) → packed sent_bytes (when eqb k u.id then [] else send k x log)
        ≡ (when eqb k u.id then [] else encode k x (packed encode_entry log))
    unfolding send sent_bytes packed
    one-bytes k = split₂ (λ (a : List Sent) (w : List ℕ). packed sent_bytes a ≡ w) _ _ _ _ _ _ refl (λ _. refl) (λ _. append-nil _)

    below-bytes : (k : ℕ) → messages_out (to_others_below u k x log) ≡ W.to_others k u.id x (packed encode_entry log)
    unfolding messages_out to_others_below W.to_others packed
    below-bytes zero = refl
    below-bytes (suc k) = packed-append sent_bytes (to_others_below u k x log) _ ∙ λ i. below-bytes k i ++ one-bytes k i

    pub others-bytes : messages_out (to_others u x log) ≡ W.to_others u.n u.id x (packed encode_entry log)
    unfolding to_others
    others-bytes = below-bytes u.n

  pub bare-bytes : messages_out (to_others u x []) ≡ W.to_others u.n u.id x []
  unfolding packed
  bare-bytes = others-bytes []

-- what a step leaves that wrote the messages w and the replies y
abbrev pub told : Given → Replica → LentRuns → Bool → (w y : List ℕ) (k j : ℕ) → Step
told c t x installed w y k j = record { answer = completed t k j installed; runs = x; out = over w c.out; reps = over y c.reps }

pub told-did : (c : Given) (t : Replica) (x : LentRuns) (installed : Bool) (b : Book) (m' : State) → t.setup ≡ c.state.setup
    → model_of t x m'.book.table m'.book.applied ≡ m' → Grew b installed m'.book
    → (ms : List Sent) (rs : List Reply) (w y : List ℕ) (k j : ℕ) → messages_out ms ≡ w → length w ≡ k → replies_out rs ≡ y → length y ≡ j
    → Did c (told c t x installed w y k j) b m' ms rs
told-did c t x installed b m' same reads grew ms rs w y k j p l q n =
    record {
      code = refl;
      setup = same;
      state = reads;
      grew = grew;
      messages = sym (ap length p ∙ l);
      out = ap (λ (z : List ℕ). over z c.out) (sym p);
      replies = sym (ap length q ∙ n);
      reps = ap (λ (z : List ℕ). over z c.reps) (sym q);
    }

pub sends-only : (a b : ℕ) (m : State) (ms : List Sent)
    → fitted a b (done m ms []) ≡ (when ltb a (length (messages_out ms)) then refused NoRoomForMessages else done m ms [])
unfolding fitted replies_out packed
sends-only a b m ms =
    ap (λ (z : Answer). when ltb a (length (messages_out ms)) then refused NoRoomForMessages else z)
    (if-false _ (refused NoRoomForReplies) (done m ms []) (le-ltb b 0 (omega arith)))

pub replies-only : (a b : ℕ) (m : State) (rs : List Reply)
    → fitted a b (done m [] rs) ≡ (when ltb b (length (replies_out rs)) then refused NoRoomForReplies else done m [] rs)
unfolding fitted messages_out packed
replies-only a b m rs = if-false _ (refused NoRoomForMessages) _ (le-ltb a 0 (omega arith))

pub silent : (a b : ℕ) (m : State) → fitted a b (done m [] []) ≡ done m [] []
unfolding replies_out packed
silent a b m = replies-only a b m [] ∙ if-false _ (refused NoRoomForReplies) (done m [] []) (le-ltb b 0 (omega arith))

module _ (c : Given) (table : List ClientEntry) (applied : List Entry) where
  abbrev now : State
  now = model_of c.state c.runs table applied

  pub still-reads : model_of c.state c.runs now.book.table now.book.applied ≡ now
  unfolding model_of book_of
  still-reads = refl

  pub idle-shown : Shown c (of_spoke c (spoke (quiet c.state) c.out)) now.book
      (fitted (length c.out) (length c.reps) (ignored now))
  unfolding ignored
  idle-shown = quiet-shown c c.state now.book now refl still-reads (no-growth now.book)

-- one message, with the log that it carries
pub message-log : (to : ℕ) (x : Message) (log : List Entry) → messages_out (send to x log) ≡ encode to x (packed encode_entry log)
unfolding messages_out send sent_bytes packed
message-log to x log = append-nil (encode to x (packed encode_entry log))
