-- Laws of the calls.
--     requested-refusal, replied-refusal, idled-refusal     the answer's number is that of the first cause
--     requested-cause, idled-cause                          and it is refused by that cause
--     requested-keeps, replied-keeps, idled_keeps           a refused call leaves record and area as they were
--     replied-view           a reply raises the view to the greater, whether its number matches or not
--     idle-free              nothing pending: any area does, and it stays as it was
--     create-refused         a refused creation's record is refused by 1 in every call
-- Assumes nothing.
use mathlib.Core.Path.{◌≡◌, refl, sym, ap}
use mathlib.Core.Bool.{Bool, true, false}
use mathlib.Core.List.{List}
use Prim.Native.Nat.{ℕ, ◌≤◌}
use native.Mathlib.Omega.{arith}
use lib.ListN.{length}
use borrow.Author.Tests.{le-ltb}
use Rattle.std.specs.Prelude.{None, Result, Ok, Err}
use Rattle.std.specs.Result.{result_and}
use Rattle.numbers.specs.Words.{when◌then◌else◌, ◌and◌}
use Rattle.numbers.specs.Numbers.{within}
use Rattle.numbers.specs.declared.View.{View}
use Rattle.numbers.proofs.WordLaws.{if-true, if-false}
use Rattle.config.specs.Setup.{replicas_ok}
use Rattle.client.specs.declared.refusal.ClientRefusal.{ClientRefusal}
use Rattle.client.specs.declared.refusal.ClientRefusal.TheVariants.{OutOfRange}
use Rattle.client.specs.declared.Client.{Client}
use Rattle.client.specs.Refusals.{client_refusal_number, answer_number}
use Rattle.client.specs.Client.{create_of, may_request, next_entry, asked_if, requested_of, requested_area, raised_view, heard_reply, replied_of, frames_again, may_idle, idled_of, idled_area}
use Rattle.client.proofs.StepLaws.{request-refused, idle-refused, idle-nothing}

-- ---- a request

module _ (c : Client) (operation member cents : ℕ) where
  pub requested-refusal : (room : ℕ)
      → answer_number (requested_of c operation member cents room).answer ≡ answer_number (may_request c operation cents room)
  unfolding requested_of
  requested-refusal room = go (may_request c operation cents room)
    where
      go : (r : Result (Unit {0}) ClientRefusal) → answer_number (asked_if r c (next_entry c operation member cents)).answer ≡ answer_number r
      go (Ok done) = refl
      go (Err cause) = refl

  -- it is refused by the same cause
  pub requested-cause : (room : ℕ) {cause : ClientRefusal} → (requested_of c operation member cents room).answer ≡ Err cause → may_request c operation cents room ≡ Err cause
  unfolding requested_of
  requested-cause room {cause} = go (may_request c operation cents room)
    where
      go : (r : Result (Unit {0}) ClientRefusal) → (asked_if r c (next_entry c operation member cents)).answer ≡ Err cause → r ≡ Err cause
      go (Ok done) h = cc
      go (Err e) h = ap Err (cc)

  pub requested-keeps : (s : List ℕ) {cause : ClientRefusal} → may_request c operation cents (length s) ≡ Err cause
      → (requested_of c operation member cents (length s) ≡ record { client = c; answer = Err cause })
      × (requested_area c operation member cents s ≡ s)
  requested-keeps s h = let p = request-refused c operation member cents s h in (sym p.0, sym p.1)

-- ---- a reply

module _ (c : Client) (number : ℕ) (view : View) where
  pub replied-done : replicas_ok c.n ≡ true → replied_of c number view ≡ heard_reply c number view
  unfolding replied_of
  replied-done h = if-true (replicas_ok c.n) (heard_reply c number view) _ h

  pub replied-keeps : replicas_ok c.n ≡ false → replied_of c number view ≡ record { client = c; answer = Err OutOfRange }
  unfolding replied_of
  replied-keeps h = if-false (replicas_ok c.n) (heard_reply c number view) _ h

  pub replied-refusal : answer_number (replied_of c number view).answer ≡ (when replicas_ok c.n then 0 else client_refusal_number OutOfRange)
  unfolding replied_of when◌then◌else◌
  replied-refusal = go (replicas_ok c.n)
    where
      go : (b : Bool) → answer_number (when b then heard_reply c number view else record { client = c; answer = Err OutOfRange }).answer ≡ (when b then 0 else 1)
      go true = refl
      go false = refl

  later-both : (v w : View) → (v.0 ≤ (raised_view v w).0) × (w.0 ≤ (raised_view v w).0)
  unfolding raised_view
  later-both v w = (omega arith, omega arith)

  pub replied-view : replicas_ok c.n ≡ true → (c.view.0 ≤ (replied_of c number view).client.view.0) × (view.0 ≤ (replied_of c number view).client.view.0)
  replied-view h = rw (replied-done h) (later-both c.view view)

-- ---- an idle call

module _ (c : Client) where
  pub idled-refusal : (room : ℕ) → answer_number (idled_of c room) ≡ answer_number (may_idle c room)
  unfolding idled_of
  idled-refusal room = go (may_idle c room)
    where
      go : (r : Result (Unit {0}) ClientRefusal) → answer_number (result_and {T = Unit {0}} r (Ok (length (frames_again c.n c.pending)))) ≡ answer_number r
      go (Ok done) = refl
      go (Err cause) = refl

  pub idled-cause : (room : ℕ) {cause : ClientRefusal} → idled_of c room ≡ Err cause → may_idle c room ≡ Err cause
  unfolding idled_of
  idled-cause room {cause} = go (may_idle c room)
    where
      go : (r : Result (Unit {0}) ClientRefusal) → ◌≡◌ {A = Result ℕ ClientRefusal} (result_and {T = Unit {0}} r (Ok (length (frames_again c.n c.pending)))) (Err cause) → r ≡ Err cause
      go (Ok done) h = cc
      go (Err e) h = ap Err (cc)

  pub idled_keeps : (s : List ℕ) {cause : ClientRefusal} → may_idle c (length s) ≡ Err cause
      → (idled_of c (length s) ≡ Err cause) × (idled_area c s ≡ s)
  idled_keeps s h = let p = idle-refused c s h in (sym p.0, sym p.1)

  -- nothing is pending, so any area does
  free : (room : ℕ) → replicas_ok c.n ≡ true → c.pending ≡ None → may_idle c room ≡ Ok tt
  unfolding may_idle frames_again when◌then◌else◌
  free room h p = rw (h, p, le-ltb room 0 (omega arith))

  pub idle-free : (s : List ℕ) → replicas_ok c.n ≡ true → c.pending ≡ None
      → (idled_of c (length s) ≡ Ok 0) × (idled_area c s ≡ s)
  idle-free s h p = let q = idle-nothing c s (free (length s) h p) p in (sym q.0, sym q.1)

-- ---- the record of a refused creation

pub create-refused : (n id : ℕ) → replicas_ok n ≡ false → replicas_ok (create_of n id).client.n ≡ false
unfolding create_of within ◌and◌ when◌then◌else◌
create-refused n id h = rw h
