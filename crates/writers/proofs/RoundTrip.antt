-- What a writer writes, `parse` reads back: for each kind, and for any log that keeps the entry rules.
--     parse-encode    the frame of a message is read as that message to that addressee
--     encode-log      and the log that it carries is what follows its fields
--     reply-refused   a Reply handed to a replica is malformed at its length, which no kind has
-- Assumes nothing.
use Rattle.std.specs.Prelude.{Some, None, Ok, Err}
use mathlib.Core.Path.{◌≡◌, refl, ◌∙◌}
use mathlib.Core.List.{List, [], ◌∷◌, ◌++◌}
use mathlib.Core.Bool.{true}
use Prim.Native.Nat.{ℕ, ◌+◌, ◌-◌, ◌*◌, ◌^◌, ◌≤◌, ◌<◌}
use native.Mathlib.Omega.{arith}
use borrow.Author.Tests.{le-leb}
use lib.Dec.{lit≤}
use lib.ListN.{length}
use Rattle.numbers.specs.Words.{when◌then◌else◌, ◌and◌, ◌or◌}
use Rattle.numbers.specs.Numbers.{big, num, within}
use Rattle.numbers.specs.declared.View.{View}
use Rattle.numbers.specs.declared.Op.{Op}
use Rattle.numbers.proofs.NumberLaws.{be-big}
use Rattle.entries.specs.Entries.{encode_entry, entries_ok, Sendable}
use Rattle.entries.specs.declared.Entry.{Entry}
use Rattle.entries.proofs.EntryLaws.{entry_of-encode, entry_ok-encode}
use Rattle.offsets.specs.Rules.{reach, between}
use Rattle.frames.specs.FrameRules.{carries_log, entries_from, count_for, fits, some_fits, frame_rule, offset_of}
use Rattle.frames.specs.Kinds.{kind_number, room_of, fields_ok, count_of, head_ok, body_ok, well_formed}
use Rattle.frames.specs.Messages.{progress, addressed, response_state, message_of, parse_frame, state_row, carried_of, carried_bytes}
use Rattle.frames.specs.declared.Message.{Message}
use Rattle.frames.specs.declared.Refusal.TheVariants.{Malformed}
use Rattle.frames.specs.declared.Message.TheVariants.{Request, Prepare, PrepareOk, Commit, GetState, NewState, StartViewChange, DoViewChange, StartView, Recovery, RecoveryResponse}
use Rattle.frames.proofs.KindLaws.{formed}
use Rattle.frames.proofs.MessageLaws.{accepted}
use Rattle.writers.specs.Writers.{header, encode, state_size, size_of, reply}

-- a carried log: as many bytes as its entries ask, at most 4,096 of them, and each keeps the rules
pub record Log (n : ℕ) (log : List ℕ) : Type 0 where
  pub few : n ≤ 4096
  pub bytes : length log ≡ 32 * n
  pub rules : entries_ok n log ≡ true

-- what the types of the fields say, of an entry that it can be sent, of a log the above, and of a NewState that it does not end before it starts
abbrev pub Encodable : Message → List ℕ → Type 0
Encodable (Request e) log = Sendable e
Encodable (Prepare v o c e) log = (v.0 < 2 ^ 32) × (o.0 < 2 ^ 32) × (c.0 < 2 ^ 32) × Sendable e
Encodable (PrepareOk v o r) log = (v.0 < 2 ^ 32) × (o.0 < 2 ^ 32) × (r < 2 ^ 8)
Encodable (Commit v c) log = (v.0 < 2 ^ 32) × (c.0 < 2 ^ 32)
Encodable (GetState r v o) log = (r < 2 ^ 8) × (v.0 < 2 ^ 32) × (o.0 < 2 ^ 32)
Encodable (NewState v a z c) log =
    (v.0 < 2 ^ 32) × (a.0 < 2 ^ 32) × (z.0 < 2 ^ 32) × (c.0 < 2 ^ 32) × (a.0 ≤ z.0) × Log (z.0 - a.0) log
Encodable (StartViewChange v r) log = (v.0 < 2 ^ 32) × (r < 2 ^ 8)
Encodable (DoViewChange v r l o c) log = (v.0 < 2 ^ 32) × (r < 2 ^ 8) × (l.0 < 2 ^ 32) × (o.0 < 2 ^ 32) × (c.0 < 2 ^ 32) × Log o.0 log
Encodable (StartView v o c) log = (v.0 < 2 ^ 32) × (o.0 < 2 ^ 32) × (c.0 < 2 ^ 32) × Log o.0 log
Encodable (Recovery r x v) log = (r < 2 ^ 8) × (x < 2 ^ 64) × (v.0 < 2 ^ 32)
Encodable (RecoveryResponse v x r None) log = (v.0 < 2 ^ 32) × (x < 2 ^ 64) × (r < 2 ^ 8)
Encodable (RecoveryResponse v x r (Some p)) log =
    (v.0 < 2 ^ 32) × (x < 2 ^ 64) × (r < 2 ^ 8) × (p.op.0 < 2 ^ 32) × (p.commit.0 < 2 ^ 32) × Log p.op.0 log

-- ---- kinds of one length

parse-prepareok : (to : ℕ) (v : View) (o : Op) (r : ℕ) (log : List ℕ) → to < 2 ^ 8 → Encodable (PrepareOk v o r) log → parse_frame (encode to (PrepareOk v o r) log) ≡ Ok (addressed to (PrepareOk v o r))
unfolding encode header big num encode_entry room_of count_of fields_ok message_of response_state entries_ok head_ok parse_frame well_formed body_ok within when◌then◌else◌ ◌and◌
parse-prepareok to v o r log t f =
    λ i. Ok (addressed (be-big 1 to t i) (PrepareOk (record { 0 = be-big 4 v.0 f.0 i }) (record { 0 = be-big 4 o.0 f.1 i }) (be-big 1 r f.2 i)))

parse-commit : (to : ℕ) (v : View) (c : Op) (log : List ℕ) → to < 2 ^ 8 → Encodable (Commit v c) log → parse_frame (encode to (Commit v c) log) ≡ Ok (addressed to (Commit v c))
unfolding encode header big num encode_entry room_of count_of fields_ok message_of response_state entries_ok head_ok parse_frame well_formed body_ok within when◌then◌else◌ ◌and◌
parse-commit to v c log t f =
    λ i. Ok (addressed (be-big 1 to t i) (Commit (record { 0 = be-big 4 v.0 f.0 i }) (record { 0 = be-big 4 c.0 f.1 i })))

parse-getstate : (to : ℕ) (r : ℕ) (v : View) (o : Op) (log : List ℕ) → to < 2 ^ 8 → Encodable (GetState r v o) log → parse_frame (encode to (GetState r v o) log) ≡ Ok (addressed to (GetState r v o))
unfolding encode header big num encode_entry room_of count_of fields_ok message_of response_state entries_ok head_ok parse_frame well_formed body_ok within when◌then◌else◌ ◌and◌
parse-getstate to r v o log t f =
    λ i. Ok (addressed (be-big 1 to t i) (GetState (be-big 1 r f.0 i) (record { 0 = be-big 4 v.0 f.1 i }) (record { 0 = be-big 4 o.0 f.2 i })))

parse-startviewchange : (to : ℕ) (v : View) (r : ℕ) (log : List ℕ) → to < 2 ^ 8 → Encodable (StartViewChange v r) log → parse_frame (encode to (StartViewChange v r) log) ≡ Ok (addressed to (StartViewChange v r))
unfolding encode header big num encode_entry room_of count_of fields_ok message_of response_state entries_ok head_ok parse_frame well_formed body_ok within when◌then◌else◌ ◌and◌
parse-startviewchange to v r log t f =
    λ i. Ok (addressed (be-big 1 to t i) (StartViewChange (record { 0 = be-big 4 v.0 f.0 i }) (be-big 1 r f.1 i)))

parse-recovery : (to : ℕ) (r : ℕ) (x : ℕ) (v : View) (log : List ℕ) → to < 2 ^ 8 → Encodable (Recovery r x v) log → parse_frame (encode to (Recovery r x v) log) ≡ Ok (addressed to (Recovery r x v))
unfolding encode header big num encode_entry room_of count_of fields_ok message_of response_state entries_ok head_ok parse_frame well_formed body_ok within when◌then◌else◌ ◌and◌
parse-recovery to r x v log t f =
    λ i. Ok (addressed (be-big 1 to t i) (Recovery (be-big 1 r f.0 i) (be-big 8 x f.1 i) (record { 0 = be-big 4 v.0 f.2 i })))

parse-bare : (to : ℕ) (v : View) (x : ℕ) (r : ℕ) (log : List ℕ) → to < 2 ^ 8 → Encodable (RecoveryResponse v x r None) log → parse_frame (encode to (RecoveryResponse v x r None) log) ≡ Ok (addressed to (RecoveryResponse v x r None))
unfolding encode header big num encode_entry room_of count_of fields_ok message_of response_state entries_ok head_ok parse_frame well_formed body_ok within when◌then◌else◌ ◌and◌
parse-bare to v x r log t f =
    λ i. Ok (addressed (be-big 1 to t i) (RecoveryResponse (record { 0 = be-big 4 v.0 f.0 i }) (be-big 8 x f.1 i) (be-big 1 r f.2 i) None))

-- ---- kinds with an entry

one_entry : (e : Entry) → Sendable e → entries_ok 1 (encode_entry e ++ []) ≡ true
unfolding entries_ok ◌and◌
one_entry e f = rw (entry_ok-encode e [] f.fits, f.ok)

parse-request : (to : ℕ) (e : Entry) (log : List ℕ) → to < 2 ^ 8 → Encodable (Request e) log → parse_frame (encode to (Request e) log) ≡ Ok (addressed to (Request e))
unfolding encode header big num encode_entry room_of count_of fields_ok message_of response_state when◌then◌else◌
parse-request to e log t f =
    accepted _ (formed _ (record { long = lit≤ tt; size = refl; version = refl; low = lit≤ tt; high = lit≤ tt; fields = refl; exact = refl; log = one_entry e f }))
    ∙ (λ i. Ok (addressed (be-big 1 to t i) (Request (entry_of-encode e [] f.fits i))))

parse-prepare : (to : ℕ) (v : View) (o : Op) (c : Op) (e : Entry) (log : List ℕ) → to < 2 ^ 8 → Encodable (Prepare v o c e) log → parse_frame (encode to (Prepare v o c e) log) ≡ Ok (addressed to (Prepare v o c e))
unfolding encode header big num encode_entry room_of count_of fields_ok message_of response_state when◌then◌else◌
parse-prepare to v o c e log t f =
    accepted _ (formed _ (record { long = lit≤ tt; size = refl; version = refl; low = lit≤ tt; high = lit≤ tt; fields = refl; exact = refl; log = one_entry e f.3 }))
    ∙ (λ i. Ok (addressed (be-big 1 to t i) (Prepare (record { 0 = be-big 4 v.0 f.0 i }) (record { 0 = be-big 4 o.0 f.1 i }) (record { 0 = be-big 4 c.0 f.2 i }) (entry_of-encode e [] f.3.fits i))))

-- ---- kinds with a log

parse-newstate : (to : ℕ) (v : View) (a : Op) (z : Op) (c : Op) (log : List ℕ) → to < 2 ^ 8 → Encodable (NewState v a z c) log → parse_frame (encode to (NewState v a z c) log) ≡ Ok (addressed to (NewState v a z c))
unfolding encode header big num encode_entry room_of count_of fields_ok message_of response_state when◌then◌else◌
parse-newstate to v a z c log t f =
    let s = encode to (NewState v a z c) log in
    let l = f.5 in
    let na : num 4 11 s ≡ a.0 = be-big 4 a.0 f.1 in
    let nz : num 4 15 s ≡ z.0 = be-big 4 z.0 f.2 in
    let n : count_of 6 s ≡ z.0 - a.0 = rw (na, nz) in
    accepted s
    (formed s
    (record {
      long = omega arith;
      size = omega (arith, be-big 4 (19 + 32 * (z.0 - a.0)) (omega (arith, l.few)), l.bytes);
      version = refl;
      low = lit≤ tt;
      high = lit≤ tt;
      fields = rw (na, nz, le-leb a.0 z.0 f.4);
      exact = omega (arith, n, l.bytes);
      log = rw n l.rules;
    }))
    ∙ (λ i. Ok (addressed (be-big 1 to t i) (NewState (record { 0 = be-big 4 v.0 f.0 i }) (record { 0 = be-big 4 a.0 f.1 i }) (record { 0 = be-big 4 z.0 f.2 i }) (record { 0 = be-big 4 c.0 f.3 i }))))

parse-doviewchange : (to : ℕ) (v : View) (r : ℕ) (l : View) (o : Op) (c : Op) (log : List ℕ) → to < 2 ^ 8 → Encodable (DoViewChange v r l o c) log → parse_frame (encode to (DoViewChange v r l o c) log) ≡ Ok (addressed to (DoViewChange v r l o c))
unfolding encode header big num encode_entry room_of count_of fields_ok message_of response_state when◌then◌else◌
parse-doviewchange to v r l o c log t f =
    let s = encode to (DoViewChange v r l o c) log in
    let g = f.5 in
    let n : count_of 8 s ≡ o.0 = be-big 4 o.0 f.3 in
    accepted s
    (formed s
    (record {
      long = omega arith;
      size = omega (arith, be-big 4 (20 + 32 * o.0) (omega (arith, g.few)), g.bytes);
      version = refl;
      low = lit≤ tt;
      high = lit≤ tt;
      fields = refl;
      exact = omega (arith, n, g.bytes);
      log = rw n g.rules;
    }))
    ∙ (λ i. Ok (addressed (be-big 1 to t i) (DoViewChange (record { 0 = be-big 4 v.0 f.0 i }) (be-big 1 r f.1 i) (record { 0 = be-big 4 l.0 f.2 i }) (record { 0 = be-big 4 o.0 f.3 i }) (record { 0 = be-big 4 c.0 f.4 i }))))

parse-startview : (to : ℕ) (v : View) (o : Op) (c : Op) (log : List ℕ) → to < 2 ^ 8 → Encodable (StartView v o c) log → parse_frame (encode to (StartView v o c) log) ≡ Ok (addressed to (StartView v o c))
unfolding encode header big num encode_entry room_of count_of fields_ok message_of response_state when◌then◌else◌
parse-startview to v o c log t f =
    let s = encode to (StartView v o c) log in
    let l = f.3 in
    let n : count_of 9 s ≡ o.0 = be-big 4 o.0 f.1 in
    accepted s
    (formed s
    (record {
      long = omega arith;
      size = omega (arith, be-big 4 (15 + 32 * o.0) (omega (arith, l.few)), l.bytes);
      version = refl;
      low = lit≤ tt;
      high = lit≤ tt;
      fields = refl;
      exact = omega (arith, n, l.bytes);
      log = rw n l.rules;
    }))
    ∙ (λ i. Ok (addressed (be-big 1 to t i) (StartView (record { 0 = be-big 4 v.0 f.0 i }) (record { 0 = be-big 4 o.0 f.1 i }) (record { 0 = be-big 4 c.0 f.2 i }))))

parse-full : (to : ℕ) (v : View) (x : ℕ) (r : ℕ) (o : Op) (c : Op) (log : List ℕ) → to < 2 ^ 8 → Encodable (RecoveryResponse v x r (Some (progress o c))) log → parse_frame (encode to (RecoveryResponse v x r (Some (progress o c))) log) ≡ Ok (addressed to (RecoveryResponse v x r (Some (progress o c))))
unfolding encode header big num encode_entry room_of count_of fields_ok message_of response_state when◌then◌else◌
parse-full to v x r o c log t f =
    let s = encode to (RecoveryResponse v x r (Some (progress o c))) log in
    let l = f.5 in
    let n : count_of 11 s ≡ o.0 = be-big 4 o.0 f.3 in
    accepted s
    (formed s
    (record {
      long = omega arith;
      size = omega (arith, be-big 4 (25 + 32 * o.0) (omega (arith, l.few)), l.bytes);
      version = refl;
      low = lit≤ tt;
      high = lit≤ tt;
      fields = refl;
      exact = omega (arith, n, l.bytes);
      log = rw n l.rules;
    }))
    ∙ (λ i. Ok (addressed (be-big 1 to t i) (RecoveryResponse (record { 0 = be-big 4 v.0 f.0 i }) (be-big 8 x f.1 i) (be-big 1 r f.2 i) (Some (progress (record { 0 = be-big 4 o.0 f.3 i }) (record { 0 = be-big 4 c.0 f.4 i }))))))

-- ---- every kind

pub parse-encode : (to : ℕ) (m : Message) (log : List ℕ) → to < 2 ^ 8 → Encodable m log → parse_frame (encode to m log) ≡ Ok (addressed to m)
parse-encode to (Request e) log t f = parse-request to e log t f
parse-encode to (Prepare v o c e) log t f = parse-prepare to v o c e log t f
parse-encode to (PrepareOk v o r) log t f = parse-prepareok to v o r log t f
parse-encode to (Commit v c) log t f = parse-commit to v c log t f
parse-encode to (GetState r v o) log t f = parse-getstate to r v o log t f
parse-encode to (NewState v a z c) log t f = parse-newstate to v a z c log t f
parse-encode to (StartViewChange v r) log t f = parse-startviewchange to v r log t f
parse-encode to (DoViewChange v r l o c) log t f = parse-doviewchange to v r l o c log t f
parse-encode to (StartView v o c) log t f = parse-startview to v o c log t f
parse-encode to (Recovery r x v) log t f = parse-recovery to r x v log t f
parse-encode to (RecoveryResponse v x r None) log t f = parse-bare to v x r log t f
parse-encode to (RecoveryResponse v x r (Some p)) log t f = parse-full to v x r p.op p.commit log t f

-- ---- the log, and the Reply

empty : (log : List ℕ) → length log ≡ 0 → [] ≡ log
empty [] e = refl
empty (b ∷ log) e = absurd (omega (arith, e))

-- of all kinds but Request and Prepare, whose one entry stands there
pub encode-log : (to : ℕ) (m : Message) (log : List ℕ) → 2 < kind_number (carried_of m).kind → length log ≡ 32 * (size_of m).entries → carried_bytes m (encode to m log) ≡ log
unfolding carried_of state_row carried_bytes size_of state_size encode header big
encode-log to (Request e) log h l = absurd (omega (arith, h))
encode-log to (Prepare v o c e) log h l = absurd (omega (arith, h))
encode-log to (PrepareOk v o r) log h l = empty log l
encode-log to (Commit v c) log h l = empty log l
encode-log to (GetState r v o) log h l = empty log l
encode-log to (NewState v a z c) log h l = refl
encode-log to (StartViewChange v r) log h l = empty log l
encode-log to (DoViewChange v r l o c) log h e = refl
encode-log to (StartView v o c) log h l = refl
encode-log to (Recovery r x v) log h l = empty log l
encode-log to (RecoveryResponse v x r None) log h l = empty log l
encode-log to (RecoveryResponse v x r (Some p)) log h l = refl

pub reply-refused : (v : View) (client request outcome total : ℕ) → parse_frame (reply v client request outcome total) ≡ Err (Malformed 3)
unfolding parse_frame offset_of frame_rule some_fits fits entries_from count_for carries_log reach between ◌or◌ well_formed body_ok head_ok within reply header big num when◌then◌else◌ ◌and◌
reply-refused v client request outcome total = refl
