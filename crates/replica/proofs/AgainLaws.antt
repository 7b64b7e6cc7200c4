-- State and memory that calls produced answer a request again: `answers-in`. Assumes nothing.
use mathlib.Core.Path.{◌≡◌, ap, ◌∙◌, subst}
use mathlib.Core.List.{List, [], ◌∷◌, append-nil}
use Prim.Native.Nat.{ℕ, ◌≤◌}
use lib.ListN.{length}
use Rattle.numbers.specs.Numbers.{over}
use Rattle.numbers.specs.Cells.{packed}
use Rattle.entries.specs.declared.Entry.{Entry}
use Rattle.state.specs.declared.Replica.{Replica}
use Rattle.model.specs.State.{State, Reply}
use Rattle.model.specs.State.Answer.{done}
use Rattle.model.specs.Sending.{reply_bytes, messages_out, replies_out}
use Rattle.layout.specs.Layout.{book_of, model_of}
use Rattle.safety.specs.Demand.{answer}
use Rattle.safety.specs.Again.{AskedAgain, reply_again}
use Rattle.safety.proofs.Again.{safe-answers, reply-length}
use Rattle.replica.specs.Lent.{Lent, Called}
use Rattle.replica.specs.Meaning.{Kept, Done, Means, meaning_of, frame_answer}
use Rattle.replica.specs.Again.{WroteAgain, AnswersIn}
use Rattle.replica.proofs.KeptLaws.{reached-safe}

module _ (s : Replica) (x : Lent) (applied : List Entry) (k : Kept s x applied) where
  abbrev m : State
  m = meaning_of s x applied

  -- the model's answer
  again-is : (frame : List ℕ) (e : Entry) (i : ℕ) → AskedAgain s.setup m frame e i → 36 ≤ length x.core.reps
      → frame_answer s frame x applied ≡ done m [] (reply_again s.setup m e i ∷ [])
  unfolding answer
  again-is frame e i q h =
      safe-answers s.setup m (reached-safe s.setup m k.reached) frame e i (length x.core.out) (length x.core.reps) q h

  one-reply : (r : Reply) → replies_out (r ∷ []) ≡ reply_bytes r
  unfolding replies_out packed
  one-reply r = append-nil (reply_bytes r)

  wrote-again : (e : Entry) (i : ℕ) (d : Called) → Done s.setup x d m [] (reply_again s.setup m e i ∷ []) → WroteAgain s x applied e i d
  unfolding messages_out packed over model_of book_of
  wrote-again e i d p =
      let r = reply_again s.setup m e i in
      record {
        code = p.code;
        messages = p.messages;
        out = p.out;
        replies = p.replies ∙ reply-length r;
        reps = p.reps ∙ ap (λ (b : List ℕ). over b x.core.reps) (one-reply r);
        same = p.state;
      }

  pub answers-in : AnswersIn s x applied
  answers-in frame d e i b o p q h =
      wrote-again e i d (subst (Means s.setup s x d) (again-is frame e i q h) (p.meaning applied b o k))
