-- The bytes that keep the rule of a frame are the well-formed frames: kind by kind, then whole.
--     whole-formed, formed-whole     `frame_rule` takes s exactly where s is well formed
--     frame-rules                    so the bytes that keep it are what `OffsetIs` speaks of
-- Assumes nothing.
use mathlib.Core.Path.{◌≡◌, refl, sym, ◌∙◌, subst}
use mathlib.Core.Bool.{true, false}
use mathlib.Core.Logic.{⊎_elim}
use mathlib.Core.List.{List}
use Prim.Native.Nat.{ℕ, ◌+◌, ◌-◌, ◌*◌, ◌/◌, ◌≤◌, ◌<◌}
use native.Mathlib.Omega.{arith}
use borrow.Author.Tests.{eq-eqb, ne_eqb, le-leb, leb-true}
use lib.Dec.{lit<, lit≤, eqb}
use lib.ListN.{length, drop}
use Rattle.numbers.specs.Words.{when◌then◌else◌, ◌or◌}
use Rattle.numbers.specs.Numbers.{num, within, Bytes}
use Rattle.numbers.proofs.WordLaws.{and-true}
use Rattle.numbers.proofs.NumberLaws.{num-lt, num-split, both-within, eq-or-not}
use Rattle.entries.specs.Entries.{entries_ok}
use Rattle.frames.specs.Kinds.{fields_end, room_of, fields_ok, count_of, well_formed}
use Rattle.frames.proofs.KindLaws.{Each, each-kind, least-room, well-formed, formed}
use Rattle.offsets.specs.Rules.{end, byte, takes, free, between}
use Rattle.frames.specs.FrameRules.{carries_log, entries_from, count_for, fits, some_fits, entries_rule, log_rule, part_rule, state_rule, bound_from, bound_rule, body_rule, kind_rule, frame_rule}
use Rattle.offsets.proofs.OffsetLaws.{Rules}
use Rattle.offsets.proofs.PlaceLaws.{end-at, at-end, byte_at, at_byte, free-at, at-free, between-at, at-between, just-at, at-just}
use Rattle.frames.proofs.EntryPlaces.{entries_at, at-entries}
use Rattle.frames.proofs.LiveLaws.{fits_low, fits-some, lives-frame}

-- what a frame of kind k says whose length is n
pub record Body (n : ℕ) (s : List ℕ) (k : ℕ) : Type 0 where
  pub room : room_of k s ≡ entries_from k n
  pub count : count_of k s ≡ count_for k n
  pub fields : fields_ok k s ≡ true
  pub exact : length s ≡ entries_from k n + 32 * count_for k n
  pub log : entries_ok (count_for k n) (drop (entries_from k n) s) ≡ true

-- ---- what the bytes from the addressee on say

plain_at : (m c : ℕ) (s : List ℕ) → 6 ≤ length s → takes (free m (entries_rule c)) (drop 6 s) ≡ true
    → (length s ≡ 6 + m + 32 * c) × (entries_ok c (drop (6 + m) s) ≡ true)
plain_at m c s l h = let p = free-at m (entries_rule c) 6 s l h in entries_at c (6 + m) s p.0 p.1

at_plain : (m c : ℕ) (s : List ℕ) → Bytes s → length s ≡ 6 + m + 32 * c → entries_ok c (drop (6 + m) s) ≡ true
    → takes (free m (entries_rule c)) (drop 6 s) ≡ true
at_plain m c s b l h = at-free m (entries_rule c) 6 s (omega arith) (at-entries c (6 + m) s b l h)

log-at : (c a : ℕ) (s : List ℕ) → c < 4294967296 → a ≤ length s → takes (log_rule c) (drop a s) ≡ true
    → (num 4 a s ≡ c) × (length s ≡ a + 4 + 4 + 32 * c) × (entries_ok c (drop (a + 4 + 4) s) ≡ true)
unfolding log_rule
log-at c a s g l h =
    let p = just-at 4 c (free 4 (entries_rule c)) a s g l h in
    let q = free-at 4 (entries_rule c) (a + 4) s p.0 p.2 in
    let e = entries_at c (a + 4 + 4) s q.0 q.1 in
    (p.1, e.0, e.1)

at-log : (c a : ℕ) (s : List ℕ) → Bytes s → num 4 a s ≡ c → length s ≡ a + 4 + 4 + 32 * c → entries_ok c (drop (a + 4 + 4) s) ≡ true
    → takes (log_rule c) (drop a s) ≡ true
unfolding log_rule
at-log c a s b e l h =
    at-just 4 c (free 4 (entries_rule c)) a s b (omega arith) e (at-free 4 (entries_rule c) (a + 4) s (omega arith) (at-entries c (a + 4 + 4) s b l h))

part_at : (c a : ℕ) (s : List ℕ) → c < 4294967296 → a ≤ length s → takes (part_rule c) (drop a s) ≡ true
    → (num 4 (a + 4) s ≡ num 4 a s + c) × (length s ≡ a + 4 + 4 + 4 + 32 * c) × (entries_ok c (drop (a + 4 + 4 + 4) s) ≡ true)
unfolding part_rule
part_at c a s g l h =
    let p = between-at 4 0 (4294967295 - c) (λ a. between 4 0 (a + c) (a + c) (λ x. free 4 (entries_rule c))) a s (lit< tt) l h in
    let q = just-at 4 (num 4 a s + c) (free 4 (entries_rule c)) (a + 4) s (omega (arith, p.most)) p.long p.rest in
    let f = free-at 4 (entries_rule c) (a + 4 + 4) s q.0 q.2 in
    let e = entries_at c (a + 4 + 4 + 4) s f.0 f.1 in
    (q.1, e.0, e.1)

at_part : (c a : ℕ) (s : List ℕ) → Bytes s → num 4 (a + 4) s ≡ num 4 a s + c → length s ≡ a + 4 + 4 + 4 + 32 * c
    → entries_ok c (drop (a + 4 + 4 + 4) s) ≡ true → takes (part_rule c) (drop a s) ≡ true
unfolding part_rule
at_part c a s b e l h =
    let z : num 4 (a + 4) s < 4294967296 = num-lt 4 (a + 4) s b (omega arith) in
    at-between 4 0 (4294967295 - c) (λ a. between 4 0 (a + c) (a + c) (λ x. free 4 (entries_rule c))) a s b (omega arith) (omega arith) (omega (arith, z, e))
    (at-just 4 (num 4 a s + c) (free 4 (entries_rule c)) (a + 4) s b (omega arith) e
    (at-free 4 (entries_rule c) (a + 4 + 4) s (omega arith) (at-entries c (a + 4 + 4 + 4) s b l h)))

-- ---- kind by kind, from the rule to the facts

Reads : ℕ → List ℕ → ℕ → Type 0
Reads n s k = takes (body_rule n k) (drop 6 s) ≡ true → Body n s k

part_count : (a z c : ℕ) → z ≡ a + c → z - a ≡ c
part_count a z c e = omega arith

-- a RecoveryResponse without and with a log
absent-at : (s : List ℕ) → 20 ≤ length s → takes (state_rule 17 (count_for 11 17)) (drop 20 s) ≡ true → Body 17 s 11
unfolding state_rule room_of count_of fields_ok entries_from count_for carries_log when◌then◌else◌ ◌or◌ entries_ok
absent-at s l h =
    let p = just-at 1 0 end 20 s (lit< tt) l h in
    let e = end-at 21 s p.0 p.2 in
    record { room = rw p.1; count = rw p.1; fields = rw p.1; exact = e; log = refl }

present-at : (n : ℕ) (s : List ℕ) → n < 4294967296 → (n ≡ 17 → ⊥) → 20 ≤ length s → takes (state_rule n (count_for 11 n)) (drop 20 s) ≡ true → Body n s 11
unfolding state_rule room_of count_of fields_ok entries_from count_for carries_log when◌then◌else◌ ◌or◌
present-at n s g d l h =
    let f : eqb n 17 ≡ false = ne_eqb n 17 d in
    let c = (n + 4 - 29) / 32 in
    let k : takes (between 1 0 1 1 (λ x. log_rule c)) (drop 20 s) ≡ true = rw f at h in
    let p = just-at 1 1 (log_rule c) 20 s (lit< tt) l k in
    let q = log-at c 21 s (omega arith) p.0 p.2 in
    record { room = rw (p.1, f); count = rw (p.1, f) q.0; fields = rw p.1; exact = rw f q.1; log = rw f q.2 }

reads : (n : ℕ) (s : List ℕ) → n < 4294967296 → 6 ≤ length s → Each (Reads n s)
unfolding Reads body_rule bound_from bound_rule state_rule room_of count_of fields_ok entries_from count_for carries_log when◌then◌else◌ ◌or◌
reads n s g l =
    record {
      k1 = λ h. let p = plain_at 1 1 s l h in record { room = refl; count = refl; fields = refl; exact = p.0; log = p.1 };
      k2 = λ h. let p = plain_at 13 1 s l h in record { room = refl; count = refl; fields = refl; exact = p.0; log = p.1 };
      k3 = λ h. let p = plain_at 10 0 s l h in record { room = refl; count = refl; fields = refl; exact = p.0; log = p.1 };
      k4 = λ h. let p = plain_at 9 0 s l h in record { room = refl; count = refl; fields = refl; exact = p.0; log = p.1 };
      k5 = λ h. let p = plain_at 10 0 s l h in record { room = refl; count = refl; fields = refl; exact = p.0; log = p.1 };
      k6 = λ h.
          let c = (n + 4 - 23) / 32 in
          let f = free-at 5 (part_rule c) 6 s l h in
          let p = part_at c 11 s (omega arith) f.0 f.1 in
          record { room = refl; count = part_count (num 4 11 s) (num 4 15 s) c p.0; fields = le-leb (num 4 11 s) (num 4 15 s) (omega (arith, p.0)); exact = p.1; log = p.2 };
      k7 = λ h. let p = plain_at 6 0 s l h in record { room = refl; count = refl; fields = refl; exact = p.0; log = p.1 };
      k8 = λ h.
          let c = (n + 4 - 24) / 32 in
          let f = free-at 10 (log_rule c) 6 s l h in
          let p = log-at c 16 s (omega arith) f.0 f.1 in
          record { room = refl; count = p.0; fields = refl; exact = p.1; log = p.2 };
      k9 = λ h.
          let c = (n + 4 - 19) / 32 in
          let f = free-at 5 (log_rule c) 6 s l h in
          let p = log-at c 11 s (omega arith) f.0 f.1 in
          record { room = refl; count = p.0; fields = refl; exact = p.1; log = p.2 };
      k10 = λ h. let p = plain_at 14 0 s l h in record { room = refl; count = refl; fields = refl; exact = p.0; log = p.1 };
      k11 = λ h.
          let f = free-at 14 (state_rule n (count_for 11 n)) 6 s l h in
          ⊎_elim (λ e. subst (λ (m : ℕ). Body m s 11) (sym e) (absent-at s f.0 (subst (λ (m : ℕ). takes (state_rule m (count_for 11 m)) (drop 20 s) ≡ true) e f.1))) (λ e. present-at n s g e f.0 f.1) (eq-or-not n 17);
    }

-- ---- kind by kind, from the facts to the rule

Keeps : ℕ → List ℕ → ℕ → Type 0
Keeps n s k = Body n s k → takes (body_rule n k) (drop 6 s) ≡ true

at-absent : (s : List ℕ) → Bytes s → Body 17 s 11 → takes (state_rule 17 (count_for 11 17)) (drop 20 s) ≡ true
unfolding state_rule room_of count_of fields_ok entries_from count_for carries_log when◌then◌else◌ ◌or◌
at-absent s b f =
    ⊎_elim (λ e. let x : 29 ≡ 21 = rw e at f.room in absurd (omega (arith, x)))
    (λ e. at-just 1 0 end 20 s b (omega (arith, f.exact)) (omega (arith, leb-true (num 1 20 s) 1 f.fields)) (at-end 21 s f.exact)) (eq-or-not (num 1 20 s) 1)

at-present : (n : ℕ) (s : List ℕ) → (n ≡ 17 → ⊥) → Bytes s → Body n s 11 → takes (state_rule n (count_for 11 n)) (drop 20 s) ≡ true
unfolding state_rule room_of count_of fields_ok entries_from count_for carries_log when◌then◌else◌ ◌or◌
at-present n s d b f =
    let g : eqb n 17 ≡ false = ne_eqb n 17 d in
    let c = (n + 4 - 29) / 32 in
    let x : length s ≡ 29 + 32 * c = rw g at f.exact in
    let o : entries_ok c (drop 29 s) ≡ true = rw g at f.log in
    ⊎_elim (λ e. let y0 : (when eqb (num 1 20 s) 1 then num 4 21 s else 0) ≡ (n + 4 - (when eqb n 17 then 21 else 29)) / 32 = f.count in
    let y : num 4 21 s ≡ c = rw (eq-eqb (num 1 20 s) 1 e, g) at y0 in rw g (at-just 1 1 (log_rule c) 20 s b (omega (arith, x)) e (at-log c 21 s b y x o)))
    (λ e. let y : 21 ≡ 29 = rw (ne_eqb (num 1 20 s) 1 e, g) at f.room in absurd (omega (arith, y))) (eq-or-not (num 1 20 s) 1)

part-whole : (a z c : ℕ) → a ≤ z → z - a ≡ c → z ≡ a + c
part-whole a z c h e = omega arith

room-20 : (n : ℕ) (s : List ℕ) → Body n s 11 → 20 ≤ length s
unfolding entries_from when◌then◌else◌
room-20 n s f = omega (arith, f.exact, f.room, least-room 11 s)

keeps : (n : ℕ) (s : List ℕ) → Bytes s → Each (Keeps n s)
unfolding Keeps body_rule bound_from bound_rule room_of count_of fields_ok entries_from count_for carries_log when◌then◌else◌ ◌or◌
keeps n s b =
    record {
      k1 = λ f. at_plain 1 1 s b f.exact f.log;
      k2 = λ f. at_plain 13 1 s b f.exact f.log;
      k3 = λ f. at_plain 10 0 s b f.exact f.log;
      k4 = λ f. at_plain 9 0 s b f.exact f.log;
      k5 = λ f. at_plain 10 0 s b f.exact f.log;
      k6 = λ f.
          let c = (n + 4 - 23) / 32 in
          let e : num 4 15 s ≡ num 4 11 s + c = part-whole (num 4 11 s) (num 4 15 s) c (leb-true (num 4 11 s) (num 4 15 s) f.fields) f.count in
          at-free 5 (part_rule c) 6 s (omega (arith, f.exact)) (at_part c 11 s b e f.exact f.log);
      k7 = λ f. at_plain 6 0 s b f.exact f.log;
      k8 = λ f. at-free 10 (log_rule ((n + 4 - 24) / 32)) 6 s (omega (arith, f.exact)) (at-log ((n + 4 - 24) / 32) 16 s b f.count f.exact f.log);
      k9 = λ f. at-free 5 (log_rule ((n + 4 - 19) / 32)) 6 s (omega (arith, f.exact)) (at-log ((n + 4 - 19) / 32) 11 s b f.count f.exact f.log);
      k10 = λ f. at_plain 14 0 s b f.exact f.log;
      k11 = λ f.
          at-free 14 (state_rule n (count_for 11 n)) 6 s (room-20 n s f)
          (⊎_elim (λ e. subst (λ (m : ℕ). takes (state_rule m (count_for 11 m)) (drop 20 s) ≡ true) (sym e) (at-absent s b (subst (λ (m : ℕ). Body m s 11) e f))) (λ e. at-present n s e b f) (eq-or-not n 17));
    }

-- ---- a kind's fields and entries follow from the length

Fixed : ℕ → List ℕ → ℕ → Type 0
Fixed n s k = n + 4 ≡ room_of k s + 32 * count_of k s → fields_ok k s ≡ true → (room_of k s ≡ entries_from k n) × (count_of k s ≡ count_for k n)

fixed-11 : (n : ℕ) (s : List ℕ) → Fixed n s 11
unfolding Fixed room_of count_of fields_ok entries_from count_for carries_log when◌then◌else◌ ◌or◌
fixed-11 n s h g =
    ⊎_elim
    (λ e.
    let x : n + 4 ≡ 29 + 32 * num 4 21 s = rw e at h in
    let d : eqb n 17 ≡ false = ne_eqb n 17 (λ y. absurd (omega (arith, x, y))) in
    let c : num 4 21 s ≡ (n + 4 - 29) / 32 = omega (arith, x) in
    let m : eqb (num 1 20 s) 1 ≡ true = eq-eqb (num 1 20 s) 1 e in
    let r1 : (when eqb (num 1 20 s) 1 then 29 else 21) ≡ (when eqb n 17 then 21 else 29) = rw (m, d) in
    let r2 : (when eqb (num 1 20 s) 1 then num 4 21 s else 0) ≡ (n + 4 - (when eqb n 17 then 21 else 29)) / 32 = rw (m, d) c in
    (r1, r2))
    (λ e.
    let d : eqb (num 1 20 s) 1 ≡ false = ne_eqb (num 1 20 s) 1 e in
    let x : n + 4 ≡ 21 = rw d at h in
    let y : n ≡ 17 = omega (arith, x) in
    (rw (d, y), rw (d, y)))
    (eq-or-not (num 1 20 s) 1)

by_length : (c n r : ℕ) → n + 4 ≡ r + 32 * c → c ≡ (n + 4 - r) / 32
by_length c n r h = omega arith

fixed : (n : ℕ) (s : List ℕ) → Each (Fixed n s)
unfolding Fixed room_of count_of entries_from count_for carries_log when◌then◌else◌ ◌or◌
fixed n s =
    record {
      k1 = λ h g. (refl, refl);
      k2 = λ h g. (refl, refl);
      k3 = λ h g. (refl, refl);
      k4 = λ h g. (refl, refl);
      k5 = λ h g. (refl, refl);
      k6 = λ h g. (refl, by_length (num 4 15 s - num 4 11 s) n 23 h);
      k7 = λ h g. (refl, refl);
      k8 = λ h g. (refl, by_length (num 4 16 s) n 24 h);
      k9 = λ h g. (refl, by_length (num 4 11 s) n 19 h);
      k10 = λ h g. (refl, refl);
      k11 = fixed-11 n s;
    }

-- ---- whole

pub seven : (k : ℕ) → 1 ≤ k → k ≤ 11 → 7 ≤ fields_end k
seven = each-kind (λ k. 7 ≤ fields_end k) (record { k1 = lit≤ tt; k2 = lit≤ tt; k3 = lit≤ tt; k4 = lit≤ tt; k5 = lit≤ tt; k6 = lit≤ tt; k7 = lit≤ tt; k8 = lit≤ tt; k9 = lit≤ tt; k10 = lit≤ tt; k11 = lit≤ tt })

-- the length, its last byte apart
pub length-parts : (s : List ℕ) → 4 ≤ length s → num 4 0 s ≡ num 3 0 s * 256 + num 1 3 s
length-parts s h = num-split 3 1 0 s h

top-three : (s : List ℕ) → Bytes s → 3 ≤ length s → num 3 0 s ≤ 16777215
top-three s b h = let g : num 3 0 s < 16777216 = num-lt 3 0 s b h in omega (arith, g)

pub whole-formed : (s : List ℕ) → Bytes s → takes frame_rule s ≡ true → well_formed s ≡ true
unfolding frame_rule kind_rule Reads
whole-formed s b h =
    let p = between-at 3 0 16777215 (λ x. byte (λ b. some_fits 11 (x * 256 + b)) (λ b. kind_rule (x * 256 + b))) 0 s (lit< tt) (omega arith) h in
    let q = byte_at (λ b. some_fits 11 (num 3 0 s * 256 + b)) (λ b. kind_rule (num 3 0 s * 256 + b)) 3 s p.rest in
    let n = num 3 0 s * 256 + num 1 3 s in
    let v = just-at 1 1 (byte (fits n) (body_rule n)) 4 s (lit< tt) q.0 q.2 in
    let k = num 1 5 s in
    let t = byte_at (fits n) (body_rule n) 5 s v.2 in
    let f = fits_low n k t.1 in
    let e = length-parts s q.0 in
    let g : num 4 0 s < 4294967296 = num-lt 4 0 s b q.0 in
    let d = each-kind (Reads n s) (reads n s (omega (arith, e, g)) t.0) k f.0 f.1 t.2 in
    let x : length s ≡ room_of k s + 32 * count_of k s = rw (d.room, d.count) d.exact in
    formed s (record {
      long = omega (arith, x, least-room k s, seven k f.0 f.1);
      size = omega (arith, e, f.2, d.exact);
      version = v.1;
      low = f.0;
      high = f.1;
      fields = d.fields;
      exact = x;
      log = rw (d.room, d.count) d.log;
    })

pub formed-whole : (s : List ℕ) → Bytes s → well_formed s ≡ true → takes frame_rule s ≡ true
unfolding frame_rule kind_rule fits Fixed Keeps
formed-whole s b h =
    let w = well-formed s h in
    let n = num 3 0 s * 256 + num 1 3 s in
    let k = num 1 5 s in
    let long = w.long in
    let e = length-parts s (omega (arith, long)) in
    let z : n + 4 ≡ length s = omega (arith, e, w.size) in
    let a = each-kind (Fixed n s) (fixed n s) k w.low w.high (z ∙ w.exact) w.fields in
    let x : length s ≡ entries_from k n + 32 * count_for k n = rw (← a.0, ← a.1) w.exact in
    let o : entries_ok (count_for k n) (drop (entries_from k n) s) ≡ true = rw (← a.0, ← a.1) w.log in
    let t = each-kind (Keeps n s) (keeps n s b) k w.low w.high (record { room = a.0; count = a.1; fields = w.fields; exact = x; log = o }) in
    let f : fits n k ≡ true = and-true (within 1 11 k) (eqb (n + 4) (entries_from k n + 32 * count_for k n)) (both-within 1 11 k w.low w.high) (eq-eqb (n + 4) (entries_from k n + 32 * count_for k n) (z ∙ x)) in
    at-between 3 0 16777215 (λ x. byte (λ b. some_fits 11 (x * 256 + b)) (λ b. kind_rule (x * 256 + b))) 0 s b (omega (arith, long)) (omega arith) (top-three s b (omega (arith, long)))
    (at_byte (λ b. some_fits 11 (num 3 0 s * 256 + b)) (λ b. kind_rule (num 3 0 s * 256 + b)) 3 s (omega (arith, long)) (fits-some 11 n k w.low w.high f)
    (at-just 1 1 (byte (fits n) (body_rule n)) 4 s b (omega (arith, long)) w.version
    (at_byte (fits n) (body_rule n) 5 s (omega (arith, long)) f t)))

pub frame-rules : Rules well_formed frame_rule
frame-rules = record { lives = lives-frame; formed-by = whole-formed; taken-by = formed-whole }
