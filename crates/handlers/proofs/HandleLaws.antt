-- Each arm of on_message's match, and each way out of on_message and on_idle, on plain variables, as the code's tests and calls give them.
--     request-is .. response-is    an arm, from what its handler promises
--     looks-not, looks             on_message
--     leads-on, follows_on         a Normal replica's tick
--     up-follows, waits, up-asks, asks    a tick whose wait is over, and one whose isn't
--     normal-is, transfer-is, change-is, recovering-is    on_idle, by status
-- Assumes nothing.
use Rattle.std.specs.Prelude.{Option}
use mathlib.Core.Path.{◌≡◌, sym, ap, ◌∙◌}
use mathlib.Core.Bool.{Bool, true, false, not}
use mathlib.Core.List.{List}
use Prim.Native.Nat.{ℕ}
use borrow.Author.Tests.{not-true, not-false}
use Rattle.numbers.specs.declared.View.{View}
use Rattle.numbers.specs.declared.Op.{Op}
use Rattle.numbers.proofs.WordLaws.{if-true, if-false}
use Rattle.entries.specs.declared.Entry.{Entry}
use Rattle.clock.specs.Clock.{tick_of}
use Rattle.clock.specs.declared.Ticked.{Ticked}
use Rattle.clock.specs.declared.Duty.TheVariants.{Follow, Change}
use Rattle.frames.specs.Messages.{carried_of, carried_bytes}
use Rattle.frames.specs.Looks.{looks_at}
use Rattle.frames.specs.declared.Progress.{Progress}
use Rattle.frames.specs.declared.Message.{Message}
use Rattle.frames.specs.declared.Message.TheVariants.{Request, Prepare, PrepareOk, Commit, GetState, NewState, StartViewChange, DoViewChange, StartView, Recovery, RecoveryResponse}
use Rattle.client_table.specs.declared.Latest.{Latest}
use Rattle.state.specs.State.{leads}
use Rattle.state.specs.Statuses.{is_normal, is_transfer, is_changing}
use Rattle.state.specs.Answers.{quiet}
use Rattle.state.specs.declared.Returned.{Returned}
use Rattle.state.specs.declared.Replica.{Replica}
use Rattle.book.specs.Memory.{money, runs, Memory, memory}
use Rattle.steps.specs.Steps.{left, Spoke, spoke}
use Rattle.normal.specs.Request.{served, request_step, of_served}
use Rattle.normal.specs.Prepare.{prepare_step, prepared_by}
use Rattle.normal.specs.PrepareOk.{counted, prepare_ok_step, of_counted}
use Rattle.normal.specs.Commit.{commit_step}
use Rattle.normal.specs.Tick.{primary_tick, backup_tick}
use Rattle.transfer.specs.GetState.{get_state_step}
use Rattle.transfer.specs.NewState.{new_state_step, part_of}
use Rattle.transfer.specs.Tick.{transfer_tick}
use Rattle.view_change.specs.StartView.{joined, start_view_step, of_joined}
use Rattle.steps.specs.Recorded.{Recorded, recorded, only_sent, of_left}
use Rattle.do_view_change.specs.Record.{do_view_change_step}
use Rattle.voting.specs.Votes.{start_view_change_step}
use Rattle.voting.specs.Tick.{next_view, next_view_asking, change_tick}
use Rattle.recovery.specs.Recovery.{collected, recovering_tick, recovery_step, response_step, of_collected}
use Rattle.handlers.specs.Handlers.{handled, message_step, follow_tick, normal_tick, ask_tick, changing_tick, idle_step}

module _ (s : Replica) (x : Message) (latest : Latest) (frame log results totals acks stored out reps : List ℕ) where
  abbrev m : Memory
  m = memory log results totals acks stored out reps

  abbrev told : Recorded
  told = handled x s latest frame m

  arm : (y : Message) → x ≡ y → {d : Recorded} → d ≡ handled y s latest frame m → d ≡ told
  arm y e p = p ∙ ap (λ (z : Message). handled z s latest frame m) (sym e)

  -- ---- the match

  pub request-is : (e : Entry) → x ≡ Request e → {a : Returned} {log' acks' out' reps' : List ℕ}
      → served a log' acks' out' reps' ≡ request_step s e latest log acks out reps
      → recorded a (memory log' results totals acks' stored out' reps') ≡ told
  unfolding handled
  request-is e q p = arm (Request e) q (ap (of_served m) p)

  pub prepare-is : (v : View) (o c : Op) (e : Entry) → x ≡ Prepare v o c e → {a : Returned} {log' results' totals' out' : List ℕ}
      → left a (runs log' results' totals') out' ≡ prepare_step s v (prepared_by o c e latest) (runs log results totals) out
      → recorded a (memory log' results' totals' acks stored out' reps) ≡ told
  unfolding handled
  prepare-is v o c e q p = arm (Prepare v o c e) q (ap (of_left m) p)

  pub prepare-ok-is : (v : View) (o : Op) (r : ℕ) → x ≡ PrepareOk v o r → {a : Returned} {results' totals' acks' reps' : List ℕ}
      → counted a (money results' totals') acks' reps' ≡ prepare_ok_step s v o r log (money results totals) acks reps
      → recorded a (memory log results' totals' acks' stored out reps') ≡ told
  unfolding handled
  prepare-ok-is v o r q p = arm (PrepareOk v o r) q (ap (of_counted m) p)

  pub commit-is : (v : View) (c : Op) → x ≡ Commit v c → {a : Returned} {results' totals' out' : List ℕ}
      → left a (runs log results' totals') out' ≡ commit_step s v c (runs log results totals) out
      → recorded a (memory log results' totals' acks stored out' reps) ≡ told
  unfolding handled
  commit-is v c q p = arm (Commit v c) q (ap (of_left m) p)

  pub get-state-is : (r : ℕ) (v : View) (o : Op) → x ≡ GetState r v o → {a : Returned} {out' : List ℕ}
      → spoke a out' ≡ get_state_step s r v o log out → recorded a (memory log results totals acks stored out' reps) ≡ told
  unfolding handled
  get-state-is r v o q p = arm (GetState r v o) q (ap (only_sent m) p)

  pub new-state-is : (v : View) (a z c : Op) → x ≡ NewState v a z c → {b : Returned} {part log' results' totals' out' : List ℕ} → part ≡ carried_bytes (NewState v a z c) frame
      → left b (runs log' results' totals') out' ≡ new_state_step s v (part_of a z c) part (runs log results totals) out
      → recorded b (memory log' results' totals' acks stored out' reps) ≡ told
  unfolding handled
  new-state-is v a z c q e p =
      arm (NewState v a z c) q
      (ap (of_left m) (p ∙ ap (λ (f : List ℕ). new_state_step s v (part_of a z c) f (runs log results totals) out) e))

  pub start-view-change-is : (v : View) (r : ℕ) → x ≡ StartViewChange v r → {d : Recorded} → d ≡ start_view_change_step s v r m → d ≡ told
  unfolding handled
  start-view-change-is v r q p = arm (StartViewChange v r) q p

  pub do-view-change-is : (v : View) (r : ℕ) (l : View) (o c : Op) → x ≡ DoViewChange v r l o c → {d : Recorded} {part : List ℕ} → part ≡ carried_bytes (DoViewChange v r l o c) frame
      → d ≡ do_view_change_step s v r l o c part m → d ≡ told
  unfolding handled
  do-view-change-is v r l o c q e p =
      arm (DoViewChange v r l o c) q (p ∙ ap (λ (f : List ℕ). do_view_change_step s v r l o c f m) e)

  pub start-view-is : (v : View) (o c : Op) → x ≡ StartView v o c → {a : Returned} {part log' results' totals' acks' out' : List ℕ} → part ≡ carried_bytes (StartView v o c) frame
      → joined a (runs log' results' totals') acks' out' ≡ start_view_step s v o c part (runs log results totals) acks out
      → recorded a (memory log' results' totals' acks' stored out' reps) ≡ told
  unfolding handled
  start-view-is v o c q e p =
      arm (StartView v o c) q
      (ap (of_joined m) (p ∙ ap (λ (f : List ℕ). start_view_step s v o c f (runs log results totals) acks out) e))

  pub recovery-is : (r k : ℕ) (v : View) → x ≡ Recovery r k v → {a : Returned} {out' : List ℕ} → spoke a out' ≡ recovery_step s r k v log out
      → recorded a (memory log results totals acks stored out' reps) ≡ told
  unfolding handled
  recovery-is r k v q p = arm (Recovery r k v) q (ap (only_sent m) p)

  pub response-is : (v : View) (k r : ℕ) (t : Option Progress) → x ≡ RecoveryResponse v k r t → {a : Returned} {part log' results' totals' stored' : List ℕ} → part ≡ carried_bytes (RecoveryResponse v k r t) frame
      → collected a (runs log' results' totals') stored' ≡ response_step s v k r t part (runs log results totals) stored
      → recorded a (memory log' results' totals' acks stored' out reps) ≡ told
  unfolding handled
  response-is v k r t q e p =
      arm (RecoveryResponse v k r t) q
      (ap (of_collected m) (p ∙ ap (λ (f : List ℕ). response_step s v k r t f (runs log results totals) stored) e))

  -- ---- on_message

  pub looks-not : {a : Returned} (b : Bool) → b ≡ looks_at s.status (carried_of x).kind → not b ≡ true → a ≡ quiet s
      → recorded a m ≡ message_step x s latest frame m
  unfolding message_step
  looks-not b e h p = ap (λ (y : Returned). recorded y m) p ∙ sym (if-false _ _ _ (sym e ∙ not-true b h))

  pub looks : {d : Recorded} (b : Bool) → b ≡ looks_at s.status (carried_of x).kind → not b ≡ false → d ≡ told
      → d ≡ message_step x s latest frame m
  unfolding message_step
  looks b e h p = p ∙ sym (if-true _ _ _ (sym e ∙ not-false b h))

-- ---- ticks

module _ (s : Replica) (out : List ℕ) {d : Spoke} where
  pub leads-on : (log : List ℕ) (b : Bool) → b ≡ leads s → b ≡ true → d ≡ primary_tick s log out → d ≡ normal_tick s log out
  unfolding normal_tick
  leads-on log b e h p = p ∙ sym (if-true _ _ _ (sym e ∙ h))

  pub follows_on : (log : List ℕ) (b : Bool) → b ≡ leads s → b ≡ false → (t : Ticked) → t ≡ tick_of s.setup.timeout Follow s.clock
      → d ≡ follow_tick s t out → d ≡ normal_tick s log out
  unfolding normal_tick
  follows_on log b e h t q p = p ∙ ap (λ (z : Ticked). follow_tick s z out) q ∙ sym (if-false _ _ _ (sym e ∙ h))

  module _ (t : Ticked) where
    pub up-follows : t.up ≡ true → d ≡ next_view s t.clock out → d ≡ follow_tick s t out
    unfolding follow_tick
    up-follows h p = p ∙ sym (if-true _ _ _ h)

    pub waits : t.up ≡ false → d ≡ spoke (backup_tick s t.clock) out → d ≡ follow_tick s t out
    unfolding follow_tick
    waits h p = p ∙ sym (if-false _ _ _ h)

    pub up-asks : t.up ≡ true → d ≡ next_view_asking s t.clock out → d ≡ ask_tick s t out
    unfolding ask_tick
    up-asks h p = p ∙ sym (if-true _ _ _ h)

    pub asks : t.up ≡ false → d ≡ transfer_tick s t.clock out → d ≡ ask_tick s t out
    unfolding ask_tick
    asks h p = p ∙ sym (if-false _ _ _ h)

module _ (s : Replica) (log results totals acks stored out reps : List ℕ) where
  abbrev k : Memory
  k = memory log results totals acks stored out reps

  module _ (n : Bool) (ne : n ≡ is_normal s.status) where
    pub normal-is : n ≡ true → {a : Returned} {out' : List ℕ} → spoke a out' ≡ normal_tick s log out
        → recorded a (memory log results totals acks stored out' reps) ≡ idle_step s k
    unfolding idle_step
    normal-is h p = ap (only_sent k) p ∙ sym (if-true _ _ _ (sym ne ∙ h))

    module _ (h : n ≡ false) (f : Bool) (fe : f ≡ is_transfer s.status) where
      pub transfer-is : f ≡ true → (t : Ticked) → t ≡ tick_of s.setup.timeout Follow s.clock → {a : Returned} {out' : List ℕ}
          → spoke a out' ≡ ask_tick s t out → recorded a (memory log results totals acks stored out' reps) ≡ idle_step s k
      unfolding idle_step
      transfer-is g t q p =
          ap (only_sent k) (p ∙ ap (λ (z : Ticked). ask_tick s z out) q) ∙ sym (if-false _ _ _ (sym ne ∙ h) ∙ if-true _ _ _ (sym fe ∙ g))

      module _ (g : f ≡ false) (b : Bool) (be : b ≡ is_changing s.status) where
        pub change-is : b ≡ true → (t : Ticked) → t ≡ tick_of s.setup.timeout Change s.clock → {d : Recorded}
            → d ≡ change_tick s t.clock t.up k → d ≡ idle_step s k
        unfolding idle_step changing_tick
        change-is i t q p =
            p ∙ ap (λ (z : Ticked). change_tick s z.clock z.up k) q
            ∙ sym (if-false _ _ _ (sym ne ∙ h) ∙ if-false _ _ _ (sym fe ∙ g) ∙ if-true _ _ _ (sym be ∙ i))

        pub recovering-is : b ≡ false → {a : Returned} {out' : List ℕ} → spoke a out' ≡ recovering_tick s out
            → recorded a (memory log results totals acks stored out' reps) ≡ idle_step s k
        unfolding idle_step
        recovering-is i p =
            ap (only_sent k) p ∙ sym (if-false _ _ _ (sym ne ∙ h) ∙ if-false _ _ _ (sym fe ∙ g) ∙ if-false _ _ _ (sym be ∙ i))
