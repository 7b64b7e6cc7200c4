-- What is digested of rows and reports, one more at a time, and turns of the loop that compares a state line. Assumes nothing.
use Rattle.std.proofs.Common.{◌≡◌, ℕ, ◌+◌, ◌*◌, ◌<◌, ◌≤◌, Bool, true, false, List, [], ◌∷◌, length, get_or, take, drop, replicate, not, true≢false, refl, sym, add-one, arith, drop-cons, le-ltb, lt-ltb, eq-eqb, ne_eqb, le-leb}
use Rattle.std.specs.Bool.{beq}
use borrow.Author.Tests.{lt-leb}
use lib.Seq.{drop-length}
use Rattle.numbers.specs.Words.{when◌then◌else◌}
use Rattle.numbers.specs.Numbers.{big}
use Rattle.config.specs.Replicas.{with_member}
use Rattle.frames.specs.declared.Status.{Status}
use Rattle.frames.specs.declared.Status.TheVariants.{Normal, StateTransfer, ViewChange, Recovering}
use Rattle.state.specs.Statuses.{no_report, is_recovering}
use Rattle.state.specs.Lengths.{stored_place}
use Rattle.state.specs.declared.Report.{Report}
use Rattle.state.specs.declared.Replica.{Replica}
use Rattle.comparing.specs.Digests.{digest_after, digest_of, offset_basis, part_at}
use Rattle.comparing.specs.Fields.{one_if, at_most_seven, held_set, held_as, row_text, table_text, field_in, first_differing, report_text, reports_text, reports_digest}
use Rattle.comparing.proofs.DigestLaws.{digest-append}

module _ (rows : List Report) (i : ℕ) (d : Report) (e : d ≡ get_or rows i no_report) where
  pub held_one : d.there ≡ true → with_member (held_set i rows) i ≡ held_set (i + 1) rows
  unfolding held_set when◌then◌else◌
  held_one h = rw (add-one, ← e, h)

  pub held_none : d.there ≡ false → held_set i rows ≡ held_set (i + 1) rows
  unfolding held_set when◌then◌else◌
  held_none h = rw (add-one, ← e, h)

module _ (h : ℕ) (row : List ℕ) where
  pub row-none : get_or row 16 0 ≡ 0 → h ≡ digest_after h (row_text row)
  unfolding row_text when◌then◌else◌
  row-none e = rw (eq-eqb (get_or row 16 0) 0 e)

  pub row-bare : (get_or row 16 0 ≡ 0 → ⊥) → 6 < get_or row 16 0 → digest_after (digest_after h (take 16 row)) (replicate 9 0) ≡ digest_after h (row_text row)
  unfolding row_text when◌then◌else◌
  row-bare n e = rw (ne_eqb (get_or row 16 0) 0 n, lt-ltb 6 (get_or row 16 0) e) (sym (digest-append h (take 16 row) (replicate 9 0)))

  pub row-full : (get_or row 16 0 ≡ 0 → ⊥) → get_or row 16 0 ≤ 6 → digest_after h row ≡ digest_after h (row_text row)
  unfolding row_text when◌then◌else◌
  row-full n k = rw (ne_eqb (get_or row 16 0) 0 n, le-ltb 6 (get_or row 16 0) k)

module _ (h : ℕ) (mem : List ℕ) (a : ℕ) where
  pub nth-none : length mem < a + 25 → h ≡ digest_after h (row_text (part_at a 25 mem))
  unfolding row_text part_at when◌then◌else◌
  nth-none l = rw (lt-leb (a + 25) (length mem) l)

  pub nth-some : a + 25 ≤ length mem → digest_after h (row_text (take 25 (drop a mem))) ≡ digest_after h (row_text (part_at a 25 mem))
  unfolding part_at when◌then◌else◌
  nth-some l = rw (le-leb (a + 25) (length mem) l)

pub table-next : (mem : List ℕ) (i h r : ℕ) → h ≡ digest_of (table_text i mem) → r ≡ digest_after h (row_text (part_at (400 + 25 * i) 25 mem))
    → r ≡ digest_of (table_text (i + 1) mem)
unfolding table_text
table-next mem i h r e p = rw (add-one, digest-append, ← e) p

module _ (line vs : List ℕ) (k w : ℕ) (h : k < length vs) (e : w ≡ field_in k line) where
  pub differ-here : (w ≡ get_or vs k 0 → ⊥) → first_differing line k (drop k vs) ≡ k
  unfolding first_differing when◌then◌else◌
  differ-here n = rw (drop-cons vs k 0 h, ← e, ne_eqb w (get_or vs k 0) n)

  pub differ-next : w ≡ get_or vs k 0 → first_differing line k (drop k vs) ≡ first_differing line (k + 1) (drop (k + 1) vs)
  unfolding first_differing when◌then◌else◌
  differ-next f = rw (drop-cons vs k 0 h, ← e, eq-eqb w (get_or vs k 0) f, add-one)

pub differ-end : (line vs : List ℕ) (k : ℕ) → length vs ≤ k → k ≤ length vs → first_differing line k (drop k vs) ≡ k
unfolding first_differing
differ-end line vs k h l = let e : k ≡ length vs = omega arith in rw (e, drop-length)

module _ (h room i : ℕ) (d : Report) (mem : List ℕ) where
  pub report-none : d.there ≡ false → h ≡ digest_after h (report_text room i d mem)
  unfolding report_text when◌then◌else◌
  report-none e = rw e

  pub report-some : (a r : ℕ) → d.there ≡ true
      → a ≡ digest_after (digest_after (digest_after (digest_after h (i ∷ one_if d.full ∷ [])) (big 4 d.view.0)) (big 4 d.op.0)) (big 4 d.commit.0)
      → r ≡ digest_after a (part_at (600 + stored_place room i) (32 * d.op.0) mem) → r ≡ digest_after h (report_text room i d mem)
  unfolding report_text when◌then◌else◌
  report-some a r e p q = rw (e, digest-append, digest-append, digest-append, digest-append, ← p) q

pub reports-next : (room : ℕ) (rows : List Report) (mem : List ℕ) (i h r : ℕ) (d : Report) → d ≡ get_or rows i no_report
    → h ≡ digest_of (reports_text room i rows mem) → r ≡ digest_after h (report_text room i d mem) → r ≡ digest_of (reports_text room (i + 1) rows mem)
unfolding reports_text
reports-next room rows mem i h r d f e p = rw (add-one, digest-append, ← e, ← f) p

module _ (s : Replica) (mem : List ℕ) where
  pub reports-none : 4096 < s.setup.room → offset_basis ≡ reports_digest s mem
  unfolding reports_digest when◌then◌else◌
  reports-none h = rw (lt-leb s.setup.room 4096 h)

  pub reports-some : s.setup.room ≤ 4096 → digest_of (reports_text s.setup.room (at_most_seven s.setup.n) s.reports.rows mem) ≡ reports_digest s mem
  unfolding reports_digest when◌then◌else◌
  reports-some h = rw (le-leb s.setup.room 4096 h)

pub not_recovering : (s : Status) → (s ≡ Recovering → ⊥) → false ≡ is_recovering s
unfolding is_recovering
not_recovering Normal n = refl
not_recovering StateTransfer n = refl
not_recovering ViewChange n = refl
not_recovering Recovering n = absurd (n refl)

-- r, whether the replica is recovering, isn't whether it is responses that are asked for
pub held-none : (s : Replica) (r b : Bool) → r ≡ is_recovering s.status → not (beq r b) ≡ true → 0 ≡ held_as b s
unfolding held_as when◌then◌else◌
held-none s true true p n = absurd (true≢false (sym n))
held-none s true false p n = rw (← p)
held-none s false true p n = rw (← p)
held-none s false false p n = absurd (true≢false (sym n))

-- it is
pub held-some : (s : Replica) (r b : Bool) → r ≡ is_recovering s.status → not (beq r b) ≡ false → held_set (at_most_seven s.setup.n) s.reports.rows ≡ held_as b s
unfolding held_as when◌then◌else◌
held-some s true true p e = rw (← p)
held-some s true false p e = absurd (true≢false e)
held-some s false true p e = absurd (true≢false e)
held-some s false false p e = rw (← p)
