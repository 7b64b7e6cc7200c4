-- What the proofs of the functions cite of the definitions of `specs/Client`.
--     ready, idle-ready   a request, and an idle call, that is not refused: each cause is false, as numbers
--     frame-length, frames-length     a Request's frame is 39 bytes, those to n replicas are n * 39
-- Assumes nothing.
use mathlib.Core.Path.{◌≡◌, refl, ap, ◌∙◌}
use mathlib.Core.Bool.{Bool, true, false, not}
use Prim.Native.Nat.{ℕ, zero, suc, ◌*◌, ◌≤◌}
use native.Mathlib.Omega.{arith}
use lib.Dec.{ltb, eqb}
use lib.ListN.{length, length-append}
use borrow.Author.Tests.{ltb-false, eqb-false}
use Rattle.std.specs.Prelude.{Some, Result, Ok, Err}
use Rattle.numbers.specs.Words.{when◌then◌else◌}
use Rattle.numbers.specs.Numbers.{big}
use Rattle.numbers.proofs.NumberLaws.{within_both}
use Rattle.entries.specs.Entries.{operation_ok, encode_entry}
use Rattle.entries.specs.declared.Entry.{Entry}
use Rattle.config.specs.Setup.{replicas_ok}
use Rattle.writers.specs.Writers.{header, encode}
use Rattle.client.specs.declared.Client.{Client}
use Rattle.client.specs.declared.refusal.ClientRefusal.{ClientRefusal}
use Rattle.client.specs.declared.refusal.ClientRefusal.TheVariants.{OutOfRange, BadEntry, NoNumber, NoRoom}
use Rattle.client.specs.Client.{may_request, request_to, frames_to, frames_again, may_idle}

-- ---- what is not refused

four : (a b c d : Bool) → ◌≡◌ {A = Result (Unit {0}) ClientRefusal} (when not a then Err OutOfRange else when not b then Err BadEntry else when c then Err NoNumber else when d then Err NoRoom else Ok tt) (Ok tt)
    → (a ≡ true) × ((b ≡ true) × ((c ≡ false) × (d ≡ false)))
unfolding when◌then◌else◌
four false b c d e = cc
four true false c d e = cc
four true true true d e = cc
four true true false true e = cc
four true true false false e = (refl, (refl, (refl, refl)))

pub record Ready (c : Client) (operation cents room : ℕ) : Type 0 where
  pub three : 3 ≤ c.n
  pub seven : c.n ≤ 7
  pub rules : operation_ok operation cents ≡ true
  pub more : c.next ≡ 18446744073709551615 → ⊥
  pub fits : 39 ≤ room

pub ready : (c : Client) (operation cents room : ℕ) → may_request c operation cents room ≡ Ok tt → Ready c operation cents room
unfolding may_request
ready c operation cents room e =
    let f = four (replicas_ok c.n) (operation_ok operation cents) (eqb c.next 18446744073709551615) (ltb room 39) e in
    let n = within_both 3 7 c.n f.0 in
    record {
      three = n.0;
      seven = n.1;
      rules = f.1.0;
      more = eqb-false c.next 18446744073709551615 f.1.1.0;
      fits = ltb-false room 39 f.1.1.1;
    }

two : (a b : Bool) → ◌≡◌ {A = Result (Unit {0}) ClientRefusal} (when not a then Err OutOfRange else when b then Err NoRoom else Ok tt) (Ok tt) → (a ≡ true) × (b ≡ false)
unfolding when◌then◌else◌
two false b e = cc
two true true e = cc
two true false e = (refl, refl)

-- the frames of a re-send fit
pub idle-ready : (c : Client) (room : ℕ) → may_idle c room ≡ Ok tt → length (frames_again c.n c.pending) ≤ room
unfolding may_idle
idle-ready c room e = ltb-false room _ (two (replicas_ok c.n) (ltb room (length (frames_again c.n c.pending))) e).1

-- ---- lengths

pub frame-length : (to : ℕ) (e : Entry) → length (request_to to e) ≡ 39
unfolding encode header big encode_entry
frame-length to e = refl

pub frames-length : (n : ℕ) (e : Entry) → length (frames_to n e) ≡ n * 39
unfolding frames_to encode header big encode_entry
frames-length zero e = refl
frames-length (suc k) e = length-append (frames_to k e) _ ∙ omega (arith, frames-length k e)

-- of the pending request, where it is known which
pub idle-fits : (c : Client) (room : ℕ) (e : Entry) → may_idle c room ≡ Ok tt → c.pending ≡ Some e → c.n * 39 ≤ room
unfolding frames_again
idle-fits c room e z p =
    let s : length (frames_again c.n c.pending) ≡ c.n * 39 = ap (λ q. length (frames_again c.n q)) p ∙ frames-length c.n e in
    omega (arith, idle-ready c room z)
