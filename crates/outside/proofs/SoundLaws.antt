-- What refusal 1 asks, as the laws of the handlers and of the client table have it.
--     Long, long-is, is-long        of the buffers' lengths alone, and back
--     creatable-is                  of a setup and the buffers
--     Whole, sound-is, is-sound     of a state and its memory, and back
--     whole-alone                   of the state alone
-- Assumes nothing.
use mathlib.Core.Path.{◌≡◌, refl, sym, ◌∙◌}
use mathlib.Core.Bool.{Bool, true, false, not, false≢true}
use Prim.Native.Nat.{ℕ, ◌≤◌}
use borrow.Author.Tests.{ltb-false, le-ltb, eqb-true, eq-eqb, not-false}
use Rattle.numbers.specs.Words.{when◌then◌else◌}
use Rattle.numbers.proofs.WordLaws.{if-true}
use Rattle.config.specs.Setup.{setup_ok}
use Rattle.config.specs.declared.Setup.{Setup}
use Rattle.fees.specs.Takings.{most_takings}
use Rattle.state.specs.Lengths.{log_length, results_length, acks_length, totals_length, table_length, stored_length}
use Rattle.state.specs.declared.Replica.{Replica}
use Rattle.state.proofs.SoundLaws.{both}
use Rattle.book.specs.Memory.{Memory}
use Rattle.steps.specs.Recorded.{Gathering}
use Rattle.outside.specs.declared.Lengths.{Lengths}
use Rattle.outside.specs.Sound.{lengths_with, lengths_ok, creatable, numbers_sound, sound, state_sound}

-- a test that must pass, and one that must fail
passes : (a b : Bool) → (when not a then false else b) ≡ true → (a ≡ true) × (b ≡ true)
unfolding when◌then◌else◌
passes true b p = (refl, p)
passes false b p = absurd (false≢true p)

fails : (a b : Bool) → (when a then false else b) ≡ true → (a ≡ false) × (b ≡ true)
unfolding when◌then◌else◌
fails true b p = absurd (false≢true p)
fails false b p = (refl, p)

passed : (a b : Bool) → a ≡ true → b ≡ true → (when not a then false else b) ≡ true
unfolding when◌then◌else◌
passed true b p q = q
passed false b p q = p

failed : (a b : Bool) → a ≡ false → b ≡ true → (when a then false else b) ≡ true
unfolding when◌then◌else◌
failed true b p q = absurd (false≢true (sym p))
failed false b p q = q

-- each buffer has its length
pub record Long (u : Setup) (l : Lengths) : Type 0 where
  pub log : l.log ≡ log_length u
  pub results : l.results ≡ results_length u
  pub totals : l.totals ≡ totals_length u
  pub acks : l.acks ≡ acks_length u
  pub stored : l.stored ≡ stored_length u
  pub table : l.table ≡ table_length u

pub long-is : (u : Setup) (l : Lengths) → lengths_ok u l ≡ true → Long u l
unfolding lengths_ok
long-is u l p =
    let a = passes _ _ p in
    let b = passes _ _ a.1 in
    let c = passes _ _ b.1 in
    let d = passes _ _ c.1 in
    let e = passes _ _ d.1 in
    record {
      log = eqb-true _ _ a.0;
      results = eqb-true _ _ b.0;
      totals = eqb-true _ _ c.0;
      acks = eqb-true _ _ d.0;
      stored = eqb-true _ _ e.0;
      table = eqb-true _ _ e.1;
    }

pub is-long : (u : Setup) (l : Lengths) → Long u l → lengths_ok u l ≡ true
unfolding lengths_ok
is-long u l h =
    passed _ _ (eq-eqb _ _ h.log)
    (passed _ _ (eq-eqb _ _ h.results)
    (passed _ _ (eq-eqb _ _ h.totals)
    (passed _ _ (eq-eqb _ _ h.acks)
    (passed _ _ (eq-eqb _ _ h.stored) (eq-eqb _ _ h.table)))))

-- of a setup and the buffers
pub creatable-is : (u : Setup) (l : Lengths) (b : Bool) → b ≡ creatable u l → not b ≡ false → (setup_ok u ≡ true) × Long u l
unfolding creatable
creatable-is u l b e h =
    let p = both _ _ (sym e ∙ not-false b h) in
    (p.0, long-is u l p.1)

-- of a state and its memory
pub record Whole (s : Replica) (m : Memory) (table : ℕ) : Type 0 where
  pub gathering : Gathering s m
  pub takings-le : s.takings ≤ most_takings
  pub table-long : table ≡ table_length s.setup

module _ (s : Replica) (m : Memory) (table : ℕ) where
  pub sound-is : sound s (lengths_with m table) ≡ true → Whole s m table
  unfolding sound creatable numbers_sound
  sound-is p =
      let a = both _ _ p in
      let b = both _ _ a.0 in
      let c = fails _ _ a.1 in
      let d = fails _ _ c.1 in
      let e = fails _ _ d.1 in
      let h = long-is s.setup (lengths_with m table) b.1 in
      record {
        gathering =
            record {
              sound =
                  record {
                    sized = b.0;
                    commit-le = ltb-false _ _ c.0;
                    op_le = ltb-false _ _ d.0;
                    log-long = h.log;
                    results-long = h.results;
                    totals-long = h.totals;
                  };
              reports = e.1;
              acks-long = h.acks;
              stored-long = h.stored;
            };
        takings-le = ltb-false _ _ e.0;
        table-long = h.table;
      }

  pub is-sound : Whole s m table → sound s (lengths_with m table) ≡ true
  unfolding sound creatable numbers_sound
  is-sound h =
      let g = h.gathering in
      let long : Long s.setup (lengths_with m table) =
      record {
        log = g.sound.log-long;
        results = g.sound.results-long;
        totals = g.sound.totals-long;
        acks = g.acks-long;
        stored = g.stored-long;
        table = h.table-long;
      } in
      if-true _ _ _ (if-true _ _ _ g.sound.sized ∙ is-long s.setup (lengths_with m table) long)
      ∙ failed _ _ (le-ltb _ _ g.sound.commit-le)
      (failed _ _ (le-ltb _ _ g.sound.op_le) (failed _ _ (le-ltb _ _ h.takings-le) g.reports))

  -- a state that passes with its memory passes alone
  pub whole-alone : Whole s m table → state_sound s ≡ true
  unfolding state_sound numbers_sound
  whole-alone h =
      let g = h.gathering in
      if-true _ _ _ g.sound.sized
      ∙ failed _ _ (le-ltb _ _ g.sound.commit-le)
      (failed _ _ (le-ltb _ _ g.sound.op_le) (failed _ _ (le-ltb _ _ h.takings-le) g.reports))
