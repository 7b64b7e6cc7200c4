-- What the exits of `requested` and `idled` cite: from what the test answers and what the writer promises to the whole answer and the area.
--     request-refused, request-done               a request
--     idle-refused, idle-nothing, idle-waiting    an idle call, by what is pending
-- Assumes nothing.
use mathlib.Core.Path.{◌≡◌, ◌∙◌}
use mathlib.Core.List.{List}
use Prim.Native.Nat.{ℕ, ◌+◌}
use lib.ListN.{length}
use Rattle.std.specs.Prelude.{None, Some, Result, Ok, Err}
use Rattle.numbers.specs.Words.{when◌then◌else◌}
use Rattle.numbers.specs.Numbers.{Wrote}
use Rattle.numbers.proofs.RunLaws.{over-nil}
use Rattle.entries.specs.declared.Entry.{Entry}
use Rattle.config.specs.Setup.{primary_of}
use Rattle.client.specs.declared.Client.{Client}
use Rattle.client.specs.declared.refusal.ClientRefusal.{ClientRefusal}
use Rattle.client.specs.declared.AfterRequest.{AfterRequest}
use Rattle.client.specs.Client.{may_request, next_entry, request_to, requested_of, requested_area, frames_to, frames_again, may_idle, idled_of, idled_area}
use Rattle.client.proofs.RefusalLaws.{frame-length}

module _ (c : Client) (operation member cents : ℕ) (s : List ℕ) where
  pub request-refused : {cause : ClientRefusal} → may_request c operation cents (length s) ≡ Err cause
      → (◌≡◌ {A = AfterRequest} (record { client = c; answer = Err cause }) (requested_of c operation member cents (length s)))
      × (s ≡ requested_area c operation member cents s)
  unfolding requested_of requested_area when◌then◌else◌
  request-refused e = (rw e, rw e)

  pub request-done : may_request c operation cents (length s) ≡ Ok tt → (to k : ℕ) {t : List ℕ} → to ≡ primary_of c.n c.view
      → Wrote (request_to to (next_entry c operation member cents)) s t k
      → (◌≡◌ {A = AfterRequest} (record {
        client = record c { next = c.next + 1; pending = Some (next_entry c operation member cents) };
        answer = Ok (record { number = c.next; written = k });
      }) (requested_of c operation member cents (length s)))
      × (t ≡ requested_area c operation member cents s)
  unfolding requested_of requested_area when◌then◌else◌
  request-done e to k p w =
      let l : k ≡ 39 = w.count ∙ frame-length to (next_entry c operation member cents) in
      (rw (e, l), rw (e, ← p) w.bytes)

module _ (c : Client) (s : List ℕ) where
  pub idle-refused : {cause : ClientRefusal} → may_idle c (length s) ≡ Err cause
      → (◌≡◌ {A = Result ℕ ClientRefusal} (Err cause) (idled_of c (length s))) × (s ≡ idled_area c s)
  unfolding idled_of idled_area when◌then◌else◌
  idle-refused e = (rw e, rw e)

  pub idle-nothing : may_idle c (length s) ≡ Ok tt → c.pending ≡ None
      → (◌≡◌ {A = Result ℕ ClientRefusal} (Ok 0) (idled_of c (length s))) × (s ≡ idled_area c s)
  unfolding idled_of idled_area frames_again when◌then◌else◌
  idle-nothing e p = (rw (e, p), rw (e, p) (over-nil s))

  pub idle-waiting : may_idle c (length s) ≡ Ok tt → (x : Entry) (k : ℕ) {t : List ℕ} → c.pending ≡ Some x → Wrote (frames_to c.n x) s t k
      → (◌≡◌ {A = Result ℕ ClientRefusal} (Ok k) (idled_of c (length s))) × (t ≡ idled_area c s)
  unfolding idled_of idled_area frames_again when◌then◌else◌
  idle-waiting e x k p w = (rw (e, p, w.count), rw (e, p) w.bytes)
