-- The promises of the client's calls, from what the client's own steps and the record's bytes promise.
--     no-creation, create-refused, create-done           create
--     no-request, request-refused, request-done          on_request
--     no-reply, reply-refused, reply-done                on_reply
--     no-tick, idle-refused, idle-done                   on_idle
--     read-malformed, read-said, malformed-points, said-points    a Reply, read
--     refused, reply-quiet                               a refusal's number isn't 0, and a refused reply leaves the record
-- Assumes nothing.
use mathlib.Core.Path.{◌≡◌, refl, sym, ap, ◌∙◌, subst}
use mathlib.Core.Bool.{Bool, true, false, not, false≢true}
use mathlib.Core.List.{List, [], ◌∷◌}
use Prim.Native.Nat.{ℕ}
use native.Mathlib.Omega.{arith}
use lib.ListN.{length}
use borrow.Author.Tests.{ne_eqb, eq-eqb}
use Rattle.std.specs.Prelude.{Result, Ok, Err}
use Rattle.numbers.specs.declared.View.{View}
use Rattle.numbers.proofs.WordLaws.{if-true, if-false, split}
use Rattle.client.specs.declared.refusal.ClientRefusal.{ClientRefusal}
use Rattle.client.specs.declared.refusal.ClientRefusal.TheVariants.{OutOfRange, BadEntry, NoNumber, NoRoom}
use Rattle.client.specs.declared.Client.{Client}
use Rattle.client.specs.declared.RequestSent.{RequestSent}
use Rattle.client.specs.declared.AfterCreate.{AfterCreate}
use Rattle.client.specs.declared.AfterRequest.{AfterRequest}
use Rattle.client.specs.declared.AfterReply.{AfterReply}
use Rattle.client.specs.declared.ReplyFields.{ReplyFields}
use Rattle.client.specs.declared.Malformed.{Malformed}
use Rattle.client.specs.Refusals.{client_refusal_number}
use Rattle.client.specs.Client.{create_of, requested_of, requested_area, replied_of, idled_of, idled_area}
use Rattle.client.specs.Outcomes.{outcome_number}
use Rattle.client.specs.Replies.{read_reply, reply_ok, read_number, read_offset}
use Rattle.client.proofs.CallLaws.{requested-cause, requested-keeps}
use Rattle.offsets.specs.Offsets.{Points}
use Rattle.state_bytes.specs.Layout.{flag_number}
use Rattle.client_bytes.specs.Layout.{record_of, record_ok, HoldsClient}
use Rattle.whitherhaul.specs.Clients.{after_create, client_create_run, after_request, request_run, after_reply, reply_run, Idled, after_idle, client_idle_run, Read', read_run, after_read}
use Rattle.whitherhaul.specs.Clients.{ClientHeld, ClientCreateRan, RequestRan, ReplyRan}

-- no cause has the number 0
pub refused : (cause : ClientRefusal) → client_refusal_number cause ≡ 0 → ⊥
refused OutOfRange e = absurd (omega (arith, e))
refused BadEntry e = absurd (omega (arith, e))
refused NoNumber e = absurd (omega (arith, e))
refused NoRoom e = absurd (omega (arith, e))

holding : {c d : Client} {run : List ℕ} → HoldsClient c run → c ≡ d → ClientHeld run d
holding h e = record { ok = h.ok; back = h.back ∙ e }

-- ---- create

module _ (n id : ℕ) (run : List ℕ) where
  pub no-creation : {k : ℕ} → k ≡ client_refusal_number OutOfRange → (length run ≡ 54 → ⊥) → ClientCreateRan n id run (record { code = k; run = run })
  unfolding client_create_run
  no-creation p h =
      record {
        exact = (λ i. record { code = p i; run = run }) ∙ sym (if-true _ _ _ (ap not (ne_eqb (length run) 54 h)));
        next = λ z. absurd (refused OutOfRange (sym p ∙ z));
      }

  module _ (l : length run ≡ 54) (a : AfterCreate) (e : a ≡ create_of n id) where
    created : {r : Result (Unit {0}) ClientRefusal} → a.answer ≡ r → after_create r a.client run ≡ client_create_run n id run
    unfolding client_create_run
    created h =
        ap (λ r. after_create r a.client run) (sym h)
        ∙ ap (λ (x : AfterCreate). after_create x.answer x.client run) e
        ∙ sym (if-false _ _ _ (ap not (eq-eqb (length run) 54 l)))

    pub create-refused : {cause : ClientRefusal} {k : ℕ} → a.answer ≡ Err cause → k ≡ client_refusal_number cause → ClientCreateRan n id run (record { code = k; run = run })
    create-refused {cause} h p =
        record { exact = (λ i. record { code = p i; run = run }) ∙ created h; next = λ z. absurd (refused cause (sym p ∙ z)) }

    pub create-done : {after : List ℕ} {done : Unit {0}} → a.answer ≡ Ok done → HoldsClient a.client after → ClientCreateRan n id run (record { code = 0; run = after })
    create-done h w =
        record {
          exact = (λ i. record { code = 0; run = w.bytes i }) ∙ created h;
          next = λ _. holding w (ap (λ (x : AfterCreate). x.client) e);
        }

-- ---- on_request

module _ (run : List ℕ) (operation member cents : ℕ) (area : List ℕ) where
  abbrev c : Client
  c = record_of run

  pub no-request : {k : ℕ} → k ≡ client_refusal_number OutOfRange → record_ok run ≡ false
      → RequestRan run operation member cents area (record { code = k; answers = 0 ∷ 0 ∷ []; run = run; area = area })
  unfolding request_run
  no-request p h =
      record {
        exact = (λ i. record { code = p i; answers = 0 ∷ 0 ∷ []; run = run; area = area }) ∙ sym (if-true _ _ _ (ap not h));
        next = λ ok. absurd (false≢true (sym h ∙ ok));
      }

  module _ (ok : record_ok run ≡ true) (d : Client) (e : d ≡ record_of run) (a : AfterRequest) (left : List ℕ)
      (f : a ≡ requested_of d operation member cents (length area)) (g : left ≡ requested_area d operation member cents area) where
    answered : a ≡ requested_of c operation member cents (length area)
    answered = f ∙ ap (λ (x : Client). requested_of x operation member cents (length area)) e

    requested : {r : Result RequestSent ClientRefusal} → a.answer ≡ r → after_request r a.client run left ≡ request_run run operation member cents area
    unfolding request_run
    requested h =
        ap (λ r. after_request r a.client run left) (sym h)
        ∙ (λ i. after_request (answered i).answer (answered i).client run ((g ∙ λ j. requested_area (e j) operation member cents area) i))
        ∙ sym (if-false _ _ _ (ap not ok))

    pub request-refused : {cause : ClientRefusal} {k : ℕ} → a.answer ≡ Err cause → k ≡ client_refusal_number cause
        → RequestRan run operation member cents area (record { code = k; answers = 0 ∷ 0 ∷ []; run = run; area = left })
    request-refused h p =
        let was = requested-cause c operation member cents (length area) (ap (λ (x : AfterRequest). x.answer) (sym answered) ∙ h) in
        record {
          exact = (λ i. record { code = p i; answers = 0 ∷ 0 ∷ []; run = run; area = left }) ∙ requested h;
          next = λ _. record { ok = ok; back = sym (ap (λ (x : AfterRequest). x.client) (requested-keeps c operation member cents area was).0) };
        }

    pub request-done : {after : List ℕ} {sent : RequestSent} → a.answer ≡ Ok sent → HoldsClient a.client after
        → RequestRan run operation member cents area (record { code = 0; answers = sent.number ∷ sent.written ∷ []; run = after; area = left })
    request-done {after} {sent} h w =
        record {
          exact = (λ i. record { code = 0; answers = sent.number ∷ sent.written ∷ []; run = w.bytes i; area = left }) ∙ requested h;
          next = λ _. holding w (ap (λ (x : AfterRequest). x.client) answered);
        }

-- ---- on_reply

-- a refused reply isn't heard
pub reply-quiet : (c : Client) (number : ℕ) (v : View) {cause : ClientRefusal} → (replied_of c number v).answer ≡ Err cause → (replied_of c number v).client ≡ c
unfolding replied_of
reply-quiet c number v {cause} =
    split (λ (a : AfterReply). a.answer ≡ Err cause → a.client ≡ c) _ _ _ (λ _ h. cc) (λ _ h. refl)

module _ (run : List ℕ) (number : ℕ) (v : View) where
  pub no-reply : {k : ℕ} → k ≡ client_refusal_number OutOfRange → record_ok run ≡ false → ReplyRan run number v (record { code = k; answers = 0 ∷ []; run = run })
  unfolding reply_run
  no-reply p h =
      record {
        exact = (λ i. record { code = p i; answers = 0 ∷ []; run = run }) ∙ sym (if-true _ _ _ (ap not h));
        next = λ ok. absurd (false≢true (sym h ∙ ok));
      }

  module _ (ok : record_ok run ≡ true) (d : Client) (e : d ≡ record_of run) (a : AfterReply) (f : a ≡ replied_of d number v) where
    heard : a ≡ replied_of (record_of run) number v
    heard = f ∙ ap (λ (x : Client). replied_of x number v) e

    replied : {r : Result Bool ClientRefusal} → a.answer ≡ r → after_reply r a.client run ≡ reply_run run number v
    unfolding reply_run
    replied h =
        ap (λ r. after_reply r a.client run) (sym h)
        ∙ ap (λ (x : AfterReply). after_reply x.answer x.client run) heard
        ∙ sym (if-false _ _ _ (ap not ok))

    pub reply-refused : {cause : ClientRefusal} {k : ℕ} → a.answer ≡ Err cause → k ≡ client_refusal_number cause
        → ReplyRan run number v (record { code = k; answers = 0 ∷ []; run = run })
    reply-refused h p =
        record {
          exact = (λ i. record { code = p i; answers = 0 ∷ []; run = run }) ∙ replied h;
          next = λ _. record { ok = ok; back = sym (reply-quiet (record_of run) number v (ap (λ (x : AfterReply). x.answer) (sym heard) ∙ h)) };
        }

    pub reply-done : {after : List ℕ} {done : Bool} {k : ℕ} → a.answer ≡ Ok done → k ≡ flag_number done → HoldsClient a.client after
        → ReplyRan run number v (record { code = 0; answers = k ∷ []; run = after })
    reply-done h p w =
        record {
          exact = (λ i. record { code = 0; answers = p i ∷ []; run = w.bytes i }) ∙ replied h;
          next = λ _. holding w (ap (λ (x : AfterReply). x.client) heard);
        }

-- ---- on_idle

module _ (run area : List ℕ) where
  pub no-tick : {k : ℕ} → k ≡ client_refusal_number OutOfRange → record_ok run ≡ false
      → ◌≡◌ {A = Idled} (record { code = k; answers = 0 ∷ []; area = area }) (client_idle_run run area)
  unfolding client_idle_run
  no-tick p h = (λ i. record { code = p i; answers = 0 ∷ []; area = area }) ∙ sym (if-true _ _ _ (ap not h))

  module _ (ok : record_ok run ≡ true) (d : Client) (e : d ≡ record_of run) (a : Result ℕ ClientRefusal) (left : List ℕ)
      (f : a ≡ idled_of d (length area)) (g : left ≡ idled_area d area) where
    ran : {r : Result ℕ ClientRefusal} → a ≡ r → after_idle r left ≡ client_idle_run run area
    unfolding client_idle_run
    ran h =
        (λ i. after_idle (sym h i) left)
        ∙ (λ i. after_idle ((f ∙ λ j. idled_of (e j) (length area)) i) ((g ∙ λ j. idled_area (e j) area) i))
        ∙ sym (if-false _ _ _ (ap not ok))

    pub idle-refused : {cause : ClientRefusal} {k : ℕ} → a ≡ Err cause → k ≡ client_refusal_number cause
        → ◌≡◌ {A = Idled} (record { code = k; answers = 0 ∷ []; area = left }) (client_idle_run run area)
    idle-refused h p = (λ i. record { code = p i; answers = 0 ∷ []; area = left }) ∙ ran h

    pub idle-done : {written : ℕ} → a ≡ Ok written
        → ◌≡◌ {A = Idled} (record { code = 0; answers = written ∷ []; area = left }) (client_idle_run run area)
    idle-done h = ran h

-- ---- a Reply, read

module _ (frame : List ℕ) (x : Result ReplyFields Malformed) (e : x ≡ read_reply frame) where
  pub read-malformed : {m : Malformed} → x ≡ Err m
      → ◌≡◌ {A = Read'} (record { code = 2; answers = 0 ∷ 0 ∷ 0 ∷ 0 ∷ 0 ∷ [] }) (read_run frame)
  unfolding read_run after_read
  read-malformed h = ap after_read (sym h ∙ e)

  pub read-said : {r : ReplyFields} {o : ℕ} → x ≡ Ok r → o ≡ outcome_number r.outcome
      → ◌≡◌ {A = Read'} (record { code = 0; answers = r.view.0 ∷ r.client ∷ r.request ∷ o ∷ r.total ∷ [] }) (read_run frame)
  unfolding read_run after_read
  read-said {r} h p = (λ i. record { code = 0; answers = r.view.0 ∷ r.client ∷ r.request ∷ p i ∷ r.total ∷ [] }) ∙ ap after_read (sym h ∙ e)

  -- and where it is wrong
  abbrev Pointed : Result ReplyFields Malformed → Type 0
  Pointed r = Points reply_ok frame (read_number r).number (read_offset r)

  pub malformed-points : {m : Malformed} → x ≡ Err m → Pointed x → Points reply_ok frame 2 m.offset
  malformed-points h q = subst Pointed h q

  pub said-points : {r : ReplyFields} → x ≡ Ok r → Pointed x → Points reply_ok frame 0 0
  said-points h q = subst Pointed h q
