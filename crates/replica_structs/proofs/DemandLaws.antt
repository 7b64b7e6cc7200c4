-- Demands 1 and 3 of the outside calls over row structs.
--     message-rows-untouched, tick-rows-untouched, create-rows-untouched, recover-rows-untouched    demand 1, for any rows
--     linked, chained    a call, and a chain of them, are calls over the byte table
--     rows-chain-goes, rows-demand-3, rows-demand-3-recovered    demand 3, from any state that calls produced, and from a creation
-- Assumes nothing.
use Rattle.std.specs.Prelude.{Result, Ok, Err, ◌≡◌, ℕ, List, [], ◌∷◌, length, replicate, nat_eq}
use mathlib.Core.Path.{refl, sym, ap, ◌∙◌, subst}
use native.Mathlib.Omega.{arith}
use borrow.Author.Tests.{ne_eqb}
use Rattle.numbers.specs.declared.View.{View}
use Rattle.numbers.proofs.WordLaws.{split, if-false}
use Rattle.entries.specs.declared.Entry.{Entry}
use Rattle.config.specs.declared.Setup.{Setup}
use Rattle.frames.specs.declared.Refusal.{Refusal}
use Rattle.client_table.specs.declared.Latest.{Latest}
use Rattle.client_table_structs.specs.declared.Row.{Row}
use Rattle.state.specs.Answers.{refusal, outcome_code, code_of}
use Rattle.state.specs.declared.Replica.{Replica}
use Rattle.steps.specs.Recorded.{Recorded}
use Rattle.steps.proofs.RefusedSteps as S
use Rattle.handlers.proofs.RefusedStays as R
use Rattle.safety.specs.Demand.{Call}
use Rattle.outside.specs.Sound.{no_replica}
use Rattle.outside.specs.Calls.{checked_of, told_of}
use Rattle.outside.specs.Creation.{Started, started, create_step, recover_step}
use Rattle.replica.specs.Demands.{HandedBack, Link, Chain}
use Rattle.replica.specs.Demands.Link.{message, tick}
use Rattle.replica.specs.Demands.Chain.{none, more}
use Rattle.replica.specs.Backed.{call_by, calls_in}
use Rattle.replica.proofs.DemandLaws.{handed-kept, chain-goes}
use Rattle.replica_structs.specs.Core.{lengths_in, client_in, checked_core, idle_core, started_in, create_core, recover_core}
use Rattle.replica_structs.specs.Calls.{LentRows, CalledRows, called_rows, latest_in, following_rows, checked_rows, message_rows, idle_rows, cleared_rows, create_rows, recover_rows}
use Rattle.replica_structs.specs.Promise.{table_bytes, in_bytes, called_bytes, RowsOk, KeptRows, MessageRowsPromise, IdleRowsPromise, CreateRowsPromise, RecoverRowsPromise}
use Rattle.replica_structs.specs.Demands.{UntouchedRows, RowsHandedBack, RowsLink, RowsChain, RowsGoOn}
use Rattle.replica_structs.specs.Demands.RowsLink.{message as sent, tick as idled}
use Rattle.replica_structs.specs.Demands.RowsChain.{none as no_rows, more as more_rows}
use Rattle.replica_structs.specs.Backed.{rows_call_by, rows_calls_in}
use Rattle.replica_structs.proofs.StepLaws.{refused-rows}
use Rattle.replica_structs.proofs.CarryLaws.{message-carried, idle-carried, create-carried, recover-carried}
use Rattle.frames.specs.declared.Refusal.TheVariants.{OutOfRange, NoRoomForMessages}
use Rattle.frames.proofs.RefusalLaws.{number-some}
use Rattle.frames.specs.Refusals.{number_of}
use Rattle.numbers.specs.Words.{when◌then◌else◌}
use Rattle.client_table_structs.specs.Shape.{unused_row}
use Rattle.frames.specs.declared.Message.{Message}

-- ---- demand 1: a frame, and a tick

module _ (s : Replica) (x : LentRows) where
  -- the rows follow what the core did: where it left all as it was, they stay
  follows : (d : Recorded) → S.Untouched s x.core d → UntouchedRows s x (following_rows s x.table d)
  unfolding following_rows
  follows d h k e =
      ap (following_rows s x.table) (h k e) ∙ refused-rows s x.table k x.core

  checks : (c : Result Message Refusal) (l : Latest) (frame : List ℕ) → S.Untouched s x.core (checked_core c s l frame x.core)
  unfolding checked_core
  checks (Err k) l frame = S.refused s x.core k
  checks (Ok m) l frame = R.message-untouched m s (told_of m l) frame x.core

  pub message-rows-untouched : (frame : List ℕ) (d : CalledRows) → MessageRowsPromise s frame x d → UntouchedRows s x d
  unfolding message_rows checked_rows
  message-rows-untouched frame d p =
      let c = checked_of s (lengths_in x.core (length x.table)) frame in
      subst (UntouchedRows s x) (sym p.exact) (follows _ (checks c (latest_in x.table (client_in c)) frame))

  pub tick-rows-untouched : (d : CalledRows) → IdleRowsPromise s x d → UntouchedRows s x d
  unfolding idle_rows idle_core
  tick-rows-untouched d p =
      subst (UntouchedRows s x) (sym p.exact)
      (follows _ (split (S.Untouched s x.core) _ _ _ (λ _. S.refused s x.core OutOfRange) (λ _. R.idle-untouched s x.core)))

-- ---- demand 1: creation

module _ (x : LentRows) where
  -- what is left, by the runs that a creation writes
  abbrev UntouchedBy : Started → Type 0
  UntouchedBy d = UntouchedRows no_replica x (cleared_rows x.table (started_in x.core d))

  refuses : (k : Refusal) → UntouchedBy (started (refusal k no_replica) x.core.runs.money.totals x.core.acks x.core.out)
  unfolding cleared_rows
  refuses k j h =
      let same : k ≡ j = cc h in
      let left : called_rows (refusal k no_replica) (record { core = x.core; table = when nat_eq (number_of k) 0 then replicate (length x.table) unused_row else x.table })
      ≡ called_rows (refusal k no_replica) x =
      ap (λ (l : List Row). called_rows (refusal k no_replica) (record { core = x.core; table = l })) (if-false _ _ _ (ne_eqb (number_of k) 0 (number-some k))) in
      left ∙ ap (λ (i : Refusal). called_rows (refusal i no_replica) x) same

  done : (d : Started) → code_of d.answer ≡ 0 → UntouchedBy d
  unfolding cleared_rows
  done d e k h = absurd (number-some k (sym (ap outcome_code h) ∙ e))

  module _ (u : Setup) where
    pub create-rows-untouched : (d : CalledRows) → CreateRowsPromise u x d → UntouchedRows no_replica x d
    unfolding create_rows create_core create_step
    create-rows-untouched d p =
        subst (UntouchedRows no_replica x) (sym p.exact)
        (split UntouchedBy _ _ _ (λ _. refuses OutOfRange) (λ _. done _ refl))

    pub recover-rows-untouched : (v : View) (nonce : ℕ) (d : CalledRows) → RecoverRowsPromise u v nonce x d → UntouchedRows no_replica x d
    unfolding recover_rows recover_core recover_step
    recover-rows-untouched v nonce d p =
        subst (UntouchedRows no_replica x) (sym p.exact)
        (split UntouchedBy _ _ _ (λ _. refuses OutOfRange) λ _.
        split UntouchedBy _ _ _ (λ _. refuses NoRoomForMessages) (λ _. done _ refl))

-- ---- demand 3

-- memory handed back, with the rows in bytes
pub handed : (x y : LentRows) → RowsHandedBack x y → HandedBack (in_bytes x) (in_bytes y)
handed x y h =
    record { runs = h.runs; acks = h.acks; stored = h.stored; table = ap table_bytes h.table }

pub handed-rows : (s : Replica) (applied : List Entry) (x y : LentRows) → RowsHandedBack x y → KeptRows s x applied → KeptRows s y applied
handed-rows s applied x y h k =
    record { rows = subst RowsOk (sym h.table) k.rows; kept = handed-kept s applied (in_bytes x) (in_bytes y) (handed x y h) k.kept }

-- a call is one over the byte table, and leaves such state and memory as calls produce
pub record Linked (s : Replica) (x : LentRows) (d : CalledRows) (l : RowsLink s x d) : Type 0 where
  pub applied : List Entry
  pub link : Link s (in_bytes x) (called_bytes d)
  pub kept : KeptRows d.answer.state d.lent applied
  pub is : call_by s (in_bytes x) (called_bytes d) link ≡ rows_call_by s x d l

pub linked : (s : Replica) (x : LentRows) (applied : List Entry) (d : CalledRows) → KeptRows s x applied → (l : RowsLink s x d) → Linked s x d l
linked s x applied d k (sent frame b o p) =
    let w = message-carried s x d applied o k frame b p in
    record { applied = _; link = message frame b o w.0; kept = w.1; is = refl }
linked s x applied d k (idled o p) =
    let w = idle-carried s x d applied o k p in
    record { applied = _; link = tick o w.0; kept = w.1; is = refl }

-- so a chain of them is one too
pub record Chained (s : Replica) (x : LentRows) (s' : Replica) (x' : LentRows) (calls : List Call) : Type 0 where
  pub applied' : List Entry
  pub kept : KeptRows s' x' applied'
  pub chain : Chain s' (in_bytes x') s (in_bytes x)
  pub is : calls_in s' (in_bytes x') s (in_bytes x) chain ≡ calls

pub chained : (s' : Replica) (x' : LentRows) (s : Replica) (x : LentRows) (applied : List Entry) → KeptRows s x applied → (c : RowsChain s' x' s x)
    → Chained s x s' x' (rows_calls_in s' x' s x c)
chained s' x' s x applied k no_rows = record { applied' = applied; kept = k; chain = none; is = refl }
chained s' x' s x applied k (more_rows _ _ d y l h c) =
    let t = linked s x applied d k l in
    let r = chained s' x' d.answer.state y t.applied (handed-rows _ t.applied d.lent y h t.kept) c in
    record {
      applied' = r.applied';
      kept = r.kept;
      chain = more _ _ (called_bytes d) (in_bytes y) t.link (handed d.lent y h) r.chain;
      is = λ i. t.is i ∷ r.is i;
    }

pub rows-chain-goes : (s : Replica) (x : LentRows) (applied : List Entry) (s' : Replica) (x' : LentRows) → KeptRows s x applied
    → RowsChain s' x' s x → RowsGoOn s x applied s' x'
rows-chain-goes s x applied s' x' k c =
    let r = chained s' x' s x applied k c in
    record { ok = r.kept.rows; goes = chain-goes _ _ _ _ _ k.kept r.chain }

-- from a creation, or a recovery, that wasn't refused
pub rows-demand-3 : (u : Setup) (x : LentRows) (d : CalledRows) (y : LentRows) (s : Replica) (z : LentRows) → CreateRowsPromise u x d
    → code_of d.answer ≡ 0 → RowsHandedBack d.lent y → RowsChain s z d.answer.state y → RowsGoOn d.answer.state y [] s z
rows-demand-3 u x d y s z p e h c = rows-chain-goes _ _ _ _ _ (handed-rows _ _ _ _ h ((create-carried u x d p).1 e)) c

pub rows-demand-3-recovered : (u : Setup) (v : View) (nonce : ℕ) (x : LentRows) (d : CalledRows) (y : LentRows) (s : Replica) (z : LentRows)
    → RecoverRowsPromise u v nonce x d → code_of d.answer ≡ 0 → RowsHandedBack d.lent y → RowsChain s z d.answer.state y
    → RowsGoOn d.answer.state y [] s z
rows-demand-3-recovered u v nonce x d y s z p e h c =
    rows-chain-goes _ _ _ _ _ (handed-rows _ _ _ _ h ((recover-carried u x d v nonce p).1 e)) c
