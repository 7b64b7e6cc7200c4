-- The marked examples hold of the outside calls, by their promises.
--     heard-means    what is heard of a call is what the model's answer shows
--     played-so      the calls of an example
--     plays          an example that holds of the model holds of the outside calls
--     marked-played  the marked examples do
-- Assumes nothing.
use mathlib.Core.Path.{◌≡◌, refl, sym, ap, ◌∙◌, subst}
use mathlib.Core.List.{List, [], ◌∷◌, ◌++◌}
use Prim.Native.Nat.{ℕ}
use lib.ListN.{length, take, drop}
use Rattle.numbers.proofs.WordLaws.{split}
use Rattle.numbers.specs.Numbers.{over}
use Rattle.entries.specs.declared.Entry.{Entry}
use Rattle.config.specs.Setup.{setup_ok}
use Rattle.config.specs.declared.Setup.{Setup}
use Rattle.state.specs.declared.Replica.{Replica}
use Rattle.model.specs.State.{State, Sent, Reply, Answer, after}
use Rattle.model.specs.State.Answer.{refused, done}
use Rattle.model.specs.Sending.{messages_out, replies_out}
use Rattle.model.specs.Book.{empty_book}
use Rattle.model.specs.Steps.{on_frame, on_tick, new_at, create}
use Rattle.outside.specs.Sound.{no_replica}
use Rattle.replica.specs.Lent.{Lent, Called}
use Rattle.replica.specs.Meaning.{Owned, Kept, Means, meaning_of, applied_after}
use Rattle.replica.specs.Promise.{CreatePromise}
use Rattle.replica.specs.Demands.{HandedBack}
use Rattle.replica.proofs.DemandLaws.{handed-means, handed-kept, next-means}
use Rattle.model.specs.Examples.{Event, saw, saw_refused, answer_seen, answer, seen, starts, seen_from, Example, ExampleHolds, setup}
use Rattle.model.specs.Examples.Start.{new}
use Rattle.model.specs.Examples.Event.{idle, idle_in, gets}
use Rattle.model.specs.Marked.{first, ticks_only, bad_frames, two, full, again, short, marked}
use Rattle.replica.specs.Marked.{heard, heard_in, each, CallOf, Played, PlayedSo, AllPlayed}
use Rattle.replica.specs.Marked.Played.{none, more}
use Rattle.model.proofs.ExamplesHold.{marked-hold}
use Rattle.model.proofs.Open.{open-marked}
use Rattle.state.specs.Answers.{messages_written, replies_written}
use Rattle.frames.specs.declared.Refusal.{Refusal}

take-front : (w s : List ℕ) → take (length w) (w ++ s) ≡ w
take-front [] s = refl
take-front (b ∷ w) s = ap (λ (l : List ℕ). b ∷ l) (take-front w s)

-- the bytes that are counted
counted : (w s t : List ℕ) (n : ℕ) → n ≡ length w → t ≡ over w s → take n t ≡ w
unfolding over
counted w s t n e p = rw (e, p) (take-front w (drop (length w) s))

heard-means : (u : Setup) (s : Replica) (x : Lent) (d : Called) (m : State) (a : Answer) → Means u s x d a → heard d ≡ heard_in (answer_seen m a)
unfolding heard heard_in answer_seen saw
heard-means u s x d m (refused k) e = ap heard e
heard-means u s x d m (done n ms rs) e =
    λ i. record {
      number = e.code i;
      messages = counted (messages_out ms) x.core.out d.lent.core.out (messages_written d.answer) e.messages e.out i;
      replies = counted (replies_out rs) x.core.reps d.lent.core.reps (replies_written d.answer) e.replies e.reps i;
    }

-- a call shows the model's answer a, and leaves memory that calls produced
pub record Shows (s : Replica) (x : Lent) (applied : List Entry) (d : Called) (a : Answer) : Type 0 where
  means : Means s.setup s x d a
  keeps : Kept d.answer.state d.lent (applied_after (meaning_of s x applied) a)

-- that to the event
answered : (e : Event) (s : Replica) (x : Lent) (applied : List Entry) (d : Called) → Owned x → Kept s x applied → CallOf e s x d
    → Shows s x applied d (answer s.setup (meaning_of s x applied) e)
unfolding answer
answered idle s x applied d o k c =
    subst (Shows s x applied d) (λ i. on_tick s.setup (meaning_of s x applied) (c.1.messages i) (c.1.replies i))
    (record { means = c.0.meaning applied o k; keeps = c.0.keeps applied o k })
answered (idle_in a) s x applied d o k c =
    subst (Shows s x applied d) (λ i. on_tick s.setup (meaning_of s x applied) (c.1.messages i) (c.1.replies i))
    (record { means = c.0.meaning applied o k; keeps = c.0.keeps applied o k })
answered (gets f) s x applied d o k c =
    subst (Shows s x applied d) (λ i. on_frame s.setup (meaning_of s x applied) f (c.1.1.messages i) (c.1.1.replies i))
    (record { means = c.0.meaning applied c.1.0 o k; keeps = c.0.keeps applied c.1.0 o k })

played-so : (u : Setup) (m : State) (s : Replica) (x : Lent) (applied : List Entry) (es : List Event) (ds : List Called) → s.setup ≡ u
    → meaning_of s x applied ≡ m → Kept s x applied → Played s x es ds → each heard ds ≡ each heard_in (seen u m es)
unfolding each seen
played-so u m s x applied [] [] p q k (none _ _) = refl
played-so u m s x applied [] (d ∷ ds) p q k y = elim y [ ]
played-so u m s x applied (e ∷ es) [] p q k y = elim y [ ]
played-so u m s x applied (e ∷ es) (d ∷ ds) p q k (more _ _ _ _ _ _ y o c h l) =
    let a = answer s.setup (meaning_of s x applied) e in
    let w = answered e s x applied d o k c in
    let n = next-means s x applied d a w.means in
    let same : a ≡ answer u m e = λ i. answer (p i) (q i) e in
    let t = d.answer.state in
    let b = applied_after (meaning_of s x applied) a in
    let rest = played-so u (after m (answer u m e)) t y b es ds (n.1 ∙ p)
    (handed-means t b d.lent y h ∙ n.0 ∙ (λ i. after (q i) (same i)))
    (handed-kept t b d.lent y h w.keeps) l in
    let head : heard d ≡ heard_in (answer_seen m (answer u m e)) =
    heard-means s.setup s x d m a w.means ∙ ap (λ (z : Answer). heard_in (answer_seen m z)) same in
    λ i. head i ∷ rest i

-- a creation that is refused is followed by no call
abbrev Ends : Example → Type 0
Ends e = (k : Refusal) → create e.setup ≡ refused k → e.calls ≡ []

none_then : (s : Replica) (x : Lent) (es : List Event) (ds : List Called) → es ≡ [] → Played s x es ds → each heard ds ≡ []
unfolding each
none_then s x [] [] p (none _ _) = refl
none_then s x [] (d ∷ ds) p l = elim l [ ]
none_then s x (e ∷ es) [] p l = elim l [ ]
none_then s x (e ∷ es) (d ∷ ds) p l = cc

applied_in : Answer → List Entry
applied_in (refused k) = []
applied_in (done m ms rs) = m.book.applied

-- a new replica's applied entries are none
new_applied : (u : Setup) (m : State) (ms : List Sent) (rs : List Reply) → create u ≡ done m ms rs → m.book.applied ≡ []
unfolding create new_at empty_book applied_in
new_applied u m ms rs =
    split (λ (a : Answer). a ≡ done m ms rs → m.book.applied ≡ []) (setup_ok u) _ _ (λ _ e. sym (ap applied_in e)) (λ _ e. cc)

begins : (u : Setup) (es : List Event) (a : Answer) → create u ≡ a → ((k : Refusal) → a ≡ refused k → es ≡ []) → (x : Lent) (d : Called) (y : Lent)
    (ds : List Called) → CreatePromise u x d → Means u no_replica x d a → HandedBack d.lent y → Played d.answer.state y es ds
    → each heard (d ∷ ds) ≡ each heard_in (seen_from u a es)
unfolding each seen_from heard heard_in saw_refused saw answer_seen
begins u es (refused k) q ends x d y ds p w h c =
    let head = ap heard w in
    let rest = none_then d.answer.state y es ds (ends k refl) c in
    λ i. head i ∷ rest i
begins u es (done m ms rs) q ends x d y ds p w h c =
    let t = d.answer.state in
    let head = heard-means u no_replica x d m (done m ms rs) w in
    let is : meaning_of t d.lent [] ≡ m =
    ap (λ (b : List Entry). meaning_of t d.lent b) (sym (new_applied u m ms rs q)) ∙ w.state in
    let rest = played-so u m t y [] es ds w.setup (handed-means t [] d.lent y h ∙ is) (handed-kept t [] d.lent y h (p.keeps w.code)) c in
    λ i. head i ∷ rest i

plays : (e : Example) → e.start ≡ new → Ends e → ExampleHolds e → PlayedSo e
unfolding starts
plays e start ends holds =
    record {
      so = λ x d y ds p l h c.
          let u = e.setup in
          begins u e.calls (create u) refl ends x d y ds p (p.meaning l) h c
          ∙ ap (each heard_in) ((λ i. seen_from u (starts u (sym start i)) e.calls) ∙ holds);
    }

pub marked-played : AllPlayed marked
unfolding open-marked
marked-played =
    let m = marked-hold in (
      plays first refl (λ k p. cc) m.0,
      (
        plays ticks_only refl (λ k p. cc) m.1.0,
        (
          plays bad_frames refl (λ k p. cc) m.1.1.0,
          (
            plays two refl (λ k p. refl) m.1.1.1.0,
            (
              plays full refl (λ k p. cc) m.1.1.1.1.0,
              (plays again refl (λ k p. cc) m.1.1.1.1.1.0, (plays short refl (λ k p. cc) m.1.1.1.1.1.1.0, tt)),
            ),
          ),
        ),
      ),
    )
