-- What the calls over the byte table promise is promised of those over row structs, and goes on from call to call: after each of them state and
-- memory are such as calls produce.
--     message-carried, idle-carried, create-carried, recover-carried
-- Assumes nothing.
use Rattle.std.specs.Prelude.{◌≡◌, ℕ, List, []}
use Rattle.numbers.specs.Numbers.{Bytes}
use Rattle.numbers.specs.declared.View.{View}
use Rattle.entries.specs.declared.Entry.{Entry}
use Rattle.config.specs.declared.Setup.{Setup}
use Rattle.state.specs.declared.Replica.{Replica}
use Rattle.replica.specs.Meaning.{meaning_of, Owned, frame_answer, tick_answer, applied_after}
use Rattle.replica.specs.Promise.{MessagePromise, IdlePromise, CreatePromise, RecoverPromise}
use Rattle.replica.proofs.PromiseLaws.{message-promised, idle-promised, create-promised, recover-promised}
use Rattle.replica_structs.specs.Calls.{LentRows, CalledRows}
use Rattle.replica_structs.specs.Promise.{in_bytes, called_bytes, KeptRows, MessageRowsPromise, IdleRowsPromise, CreateRowsPromise, RecoverRowsPromise}
use Rattle.state.specs.Answers.{code_of}

module _ (s : Replica) (x : LentRows) (d : CalledRows) (applied : List Entry) (o : Owned (in_bytes x)) (k : KeptRows s x applied) where
  pub message-carried : (frame : List ℕ) → Bytes frame → MessageRowsPromise s frame x d
      → MessagePromise s frame (in_bytes x) (called_bytes d)
      × KeptRows d.answer.state d.lent (applied_after (meaning_of s (in_bytes x) applied) (frame_answer s frame (in_bytes x) applied))
  message-carried frame b p =
      let w = message-promised s frame (in_bytes x) (called_bytes d) (p.same applied b o k) in
      (w, record { rows = p.keeps applied b o k; kept = w.keeps applied b o k.kept })

  pub idle-carried : IdleRowsPromise s x d
      → IdlePromise s (in_bytes x) (called_bytes d)
      × KeptRows d.answer.state d.lent (applied_after (meaning_of s (in_bytes x) applied) (tick_answer s (in_bytes x) applied))
  idle-carried p =
      let w = idle-promised s (in_bytes x) (called_bytes d) (p.same applied o k) in
      (w, record { rows = p.keeps applied o k; kept = w.keeps applied o k.kept })

module _ (u : Setup) (x : LentRows) (d : CalledRows) where
  pub create-carried : CreateRowsPromise u x d
      → CreatePromise u (in_bytes x) (called_bytes d) × (code_of d.answer ≡ 0 → KeptRows d.answer.state d.lent [])
  create-carried p =
      let w = create-promised u (in_bytes x) (called_bytes d) p.same in
      (w, λ e. record { rows = p.keeps e; kept = w.keeps e })

  pub recover-carried : (v : View) (nonce : ℕ) → RecoverRowsPromise u v nonce x d
      → RecoverPromise u v nonce (in_bytes x) (called_bytes d) × (code_of d.answer ≡ 0 → KeptRows d.answer.state d.lent [])
  recover-carried v nonce p =
      let w = recover-promised u v nonce (in_bytes x) (called_bytes d) p.same in
      (w, λ e. record { rows = p.keeps e; kept = w.keeps e })
