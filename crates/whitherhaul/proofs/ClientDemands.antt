-- Demand 1 of the client's calls at the C boundary: a refused one leaves the record's run and the area as they were, and its answers are 0.
--     client-create-untouched, client-request-untouched, client-reply-untouched, client-idle-untouched, read-reply-untouched
-- Assumes nothing.
use mathlib.Core.Path.{◌≡◌, refl, sym, subst}
use mathlib.Core.List.{List, [], ◌∷◌}
use Prim.Native.Nat.{ℕ}
use lib.ListN.{length}
use Rattle.std.specs.Prelude.{Bool, Result, Ok, Err}
use Rattle.numbers.specs.declared.View.{View}
use Rattle.numbers.proofs.WordLaws.{split}
use Rattle.client.specs.declared.refusal.ClientRefusal.{ClientRefusal}
use Rattle.client.specs.declared.RequestSent.{RequestSent}
use Rattle.client.specs.declared.ReplyFields.{ReplyFields}
use Rattle.client.specs.declared.Malformed.{Malformed}
use Rattle.client.specs.Refusals.{client_refusal_number}
use Rattle.client.specs.Client.{create_of, requested_of, requested_area, replied_of, idled_of, idled_area}
use Rattle.client.specs.Replies.{read_reply}
use Rattle.client.proofs.CallLaws.{requested-cause, requested-keeps, idled-cause, idled_keeps}
use Rattle.client_bytes.specs.Layout.{record_of}
use Rattle.whitherhaul.specs.Clients.{ClientCreated, after_create, client_create_run, Requested, after_request, request_run, Replied, after_reply, reply_run, Idled, after_idle, client_idle_run, Read', read_run, after_read}
use Rattle.whitherhaul.specs.Clients.{ClientCreateRan, RequestRan, ReplyRan}

-- ---- create

module _ (n id : ℕ) (run : List ℕ) where
  abbrev UntouchedCreate : ClientCreated → Type 0
  UntouchedCreate d = (d.code ≡ 0 → ⊥) → d ≡ record { code = d.code; run = run }

  pub client-create-untouched : (d : ClientCreated) → ClientCreateRan n id run d → (d.code ≡ 0 → ⊥) → d ≡ record { code = d.code; run = run }
  unfolding client_create_run
  client-create-untouched d p =
      subst UntouchedCreate (sym p.exact) (split UntouchedCreate _ _ _ (λ _ _. refl) (λ _. go (create_of n id).answer))
    where
      go : (r : Result (Unit {0}) ClientRefusal) → UntouchedCreate (after_create r (create_of n id).client run)
      go (Ok done) h = absurd (h refl)
      go (Err cause) h = refl

-- ---- on_request

module _ (run : List ℕ) (operation member cents : ℕ) (area : List ℕ) where
  abbrev UntouchedRequest : Requested → Type 0
  UntouchedRequest d = (d.code ≡ 0 → ⊥) → d ≡ record { code = d.code; answers = 0 ∷ 0 ∷ []; run = run; area = area }

  pub client-request-untouched : (d : Requested) → RequestRan run operation member cents area d → (d.code ≡ 0 → ⊥)
      → d ≡ record { code = d.code; answers = 0 ∷ 0 ∷ []; run = run; area = area }
  unfolding request_run
  client-request-untouched d p =
      let a = requested_of (record_of run) operation member cents (length area) in
      subst UntouchedRequest (sym p.exact) (split UntouchedRequest _ _ _ (λ _ _. refl) (λ _. go a.answer refl))
    where
      go : let c = record_of run in (r : Result RequestSent ClientRefusal) → (requested_of c operation member cents (length area)).answer ≡ r
          → UntouchedRequest (after_request r (requested_of c operation member cents (length area)).client run (requested_area c operation member cents area))
      go (Ok sent) e h = absurd (h refl)
      go (Err cause) e h =
          let c = record_of run in
          let q = requested-keeps c operation member cents area (requested-cause c operation member cents (length area) e) in
          λ i. record { code = client_refusal_number cause; answers = 0 ∷ 0 ∷ []; run = run; area = q.1 i }

-- ---- on_reply

module _ (run : List ℕ) (number : ℕ) (v : View) where
  abbrev UntouchedReply : Replied → Type 0
  UntouchedReply d = (d.code ≡ 0 → ⊥) → d ≡ record { code = d.code; answers = 0 ∷ []; run = run }

  pub client-reply-untouched : (d : Replied) → ReplyRan run number v d → (d.code ≡ 0 → ⊥) → d ≡ record { code = d.code; answers = 0 ∷ []; run = run }
  unfolding reply_run
  client-reply-untouched d p =
      subst UntouchedReply (sym p.exact) (split UntouchedReply _ _ _ (λ _ _. refl) (λ _. go (replied_of (record_of run) number v).answer))
    where
      go : (r : Result Bool ClientRefusal) → UntouchedReply (after_reply r (replied_of (record_of run) number v).client run)
      go (Ok done) h = absurd (h refl)
      go (Err cause) h = refl

-- ---- on_idle

module _ (run area : List ℕ) where
  abbrev UntouchedIdle : Idled → Type 0
  UntouchedIdle d = (d.code ≡ 0 → ⊥) → d ≡ record { code = d.code; answers = 0 ∷ []; area = area }

  pub client-idle-untouched : (d : Idled) → d ≡ client_idle_run run area → (d.code ≡ 0 → ⊥) → d ≡ record { code = d.code; answers = 0 ∷ []; area = area }
  unfolding client_idle_run
  client-idle-untouched d p =
      subst UntouchedIdle (sym p) (split UntouchedIdle _ _ _ (λ _ _. refl) (λ _. go (idled_of (record_of run) (length area)) refl))
    where
      go : (r : Result ℕ ClientRefusal) → idled_of (record_of run) (length area) ≡ r → UntouchedIdle (after_idle r (idled_area (record_of run) area))
      go (Ok written) e h = absurd (h refl)
      go (Err cause) e h =
          let q = idled_keeps (record_of run) area (idled-cause (record_of run) (length area) e) in
          λ i. record { code = client_refusal_number cause; answers = 0 ∷ []; area = q.1 i }

-- ---- a Reply, read

abbrev UntouchedRead : Read' → Type 0
UntouchedRead d = (d.code ≡ 0 → ⊥) → d ≡ record { code = d.code; answers = 0 ∷ 0 ∷ 0 ∷ 0 ∷ 0 ∷ [] }

read-untouched : (x : Result ReplyFields Malformed) → UntouchedRead (after_read x)
unfolding after_read
read-untouched (Ok r) h = absurd (h refl)
read-untouched (Err m) h = refl

pub read-reply-untouched : (frame : List ℕ) (d : Read') → d ≡ read_run frame → (d.code ≡ 0 → ⊥)
    → d ≡ record { code = d.code; answers = 0 ∷ 0 ∷ 0 ∷ 0 ∷ 0 ∷ [] }
unfolding read_run
read-reply-untouched frame d p = subst UntouchedRead (sym p) (read-untouched (read_reply frame))
