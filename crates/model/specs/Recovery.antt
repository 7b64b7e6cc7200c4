-- Recovery: what a replica answers to one that is back from a crash, and how that one comes back. Assumes nothing.
use Rattle.std.specs.Prelude.{ℕ, max, not, List, [], ◌∷◌, ltb, eqb, get_or, set, replicate}
use Rattle.std.proofs.Math.Option.{Option, none, some}
use Rattle.numbers.specs.Words.{when◌then◌else◌}
use Rattle.config.specs.Replicas.{quorum_of}
use Rattle.config.specs.declared.Setup.{Setup}
use Rattle.state.specs.Statuses.{is_normal}
use Rattle.model.specs.State.{Held, Response, State, Answer}
use Rattle.model.specs.State.Answer.{refused, done}
use Rattle.model.specs.State.{ignored, set_store}
use Rattle.model.specs.Book.{commit_up_to, install, agree}
use Rattle.model.specs.Sending.{primary, send_recovery_response}
use Rattle.model.specs.ViewChange.{filled, enter_normal, start_view_change}
use Rattle.frames.specs.declared.Refusal.TheVariants.{Uncommits}

-- the latest view among the responses
unfoldable pub latest_view : List (Option Response) → ℕ
latest_view [] = 0
latest_view (none ∷ xs) = latest_view xs
latest_view (some a ∷ xs) = max a.view (latest_view xs)

-- recovery_responses.insert: a later response of a sender replaces an earlier one, even with a lower view
unfoldable pub noted : State → ℕ → Response → State
noted m r d =
    set_store m
    (record { reports = m.store.reports; responses = set m.store.responses r (some d); nonce = m.store.nonce })

module _ (u : Setup) where
  -- no response, of n replicas
  unfoldable pub no_responses : List (Option Response)
  no_responses = replicate u.n none

  -- recovery_responses.clear
  unfoldable pub forgotten : State → State
  forgotten m = set_store m (record { reports = m.store.reports; responses = no_responses; nonce = m.store.nonce })

  -- on_recovery. The Rust's Recovery carries the sender's view, the paper's doesn't: a later one starts the view change, answers nothing and
  -- doesn't count its sender.
  unfoldable pub on_recovery : State → (sender nonce view : ℕ) → Answer
  on_recovery m r x v =
      when ltb m.place.view v then start_view_change u m v [] else
      when not (is_normal m.place.status) then ignored m else
      done m (send_recovery_response u m r x) []

  -- on_recovery_response, its end: back in view v with the primary's state; no PrepareOk
  unfoldable pub recovered : State → ℕ → Held → State
  recovered m v h = enter_normal u (forgotten m) v (commit_up_to (install m.book h.log) h.commit) m.votes.acks

  -- with what the primary of the latest view, v, answered in its view w. Refusal 7: the install would shorten or alter committed entries, or
  -- the view would fall (never, since such a response is dropped before).
  unfoldable pub recover_with : State → ℕ → ℕ → Option Held → Answer
  recover_with m v w none = ignored m
  recover_with m v w (some h) =
      when not (eqb w v) then ignored m else
      when not (agree m.book.commit h.log m.book.log) then refused Uncommits else
      when ltb v m.place.view then refused Uncommits else
      done (recovered m v h) [] []

  -- with the place of the primary of the latest view, v, which may be empty
  unfoldable pub recover_from : State → ℕ → Option Response → Answer
  recover_from m v none = ignored m
  recover_from m v (some d) = recover_with m v d.view d.held

  -- with a quorum of responses, v being the latest view among them
  unfoldable pub recover_latest : State → ℕ → Answer
  recover_latest m v =
      when ltb (filled m.store.responses) (quorum_of u.n) then ignored m else
      when ltb v m.place.view then ignored m else
      recover_from m v (get_or m.store.responses (primary u v) none)

  -- on_recovery_response
  unfoldable pub on_recovery_response : State → (view nonce sender : ℕ) → Option Held → Answer
  on_recovery_response m v x r h =
      when not (eqb x m.store.nonce) then ignored m else
      recover_latest
      (noted m r (record { view = v; held = h }))
      (latest_view (noted m r (record { view = v; held = h })).store.responses)
