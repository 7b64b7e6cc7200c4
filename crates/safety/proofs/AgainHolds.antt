-- The example of document 02, order 6, is one that the law on asking again speaks of: 5, a fee of another client for the same member, 6, and the StartView
-- that drops 6. Its bytes are those of `drops_six`.
--     asks-5        the Request of 5 asks again
--     reply-is      the reply that the law names is the example's, byte for byte
--     answered-5    it is sent
-- Assumes nothing.
use Prim.Native.Nat.{ℕ, zero, suc, ◌<◌}
use native.Mathlib.Omega.{arith}
use mathlib.Core.Path.{◌≡◌, refl}
use mathlib.Core.List.{List, [], ◌∷◌}
use lib.ListN.{length, get_or}
use Rattle.entries.specs.declared.Entry.{Entry}
use Rattle.config.specs.declared.Setup.{Setup}
use Rattle.frames.specs.declared.Status.TheVariants.{Normal}
use Rattle.model.specs.State.{State}
use Rattle.model.specs.State.Answer.{done}
use Rattle.model.specs.Sending.{reply_bytes}
use Rattle.model.specs.Steps.{new_at}
use Rattle.model.specs.Examples.{setup}
use Rattle.model.specs.Directed.{fee, prepare_to, start_view_to}
use Rattle.model.specs.Surprises.{request5, reply5}
use Rattle.model.proofs.Open.{open-surprises}
use Rattle.safety.specs.Demand.{Call, answer, run, Created}
use Rattle.safety.specs.Demand.Call.{frame}
use Rattle.safety.specs.Demand.Created.{new}
use Rattle.safety.specs.Remembered.{LastAt}
use Rattle.safety.specs.Again.{AskedAgain, reply_again}
use Rattle.safety.proofs.Again.{answers-again}

abbrev u : Setup
u = setup 3 1 3 8

abbrev fresh : State
fresh = new_at u Normal 0 0

abbrev dropped : List Entry
dropped = fee 1 5 100 ∷ fee 2 0 50 ∷ []

-- the calls before 5 is asked again
abbrev calls : List Call
calls =
    frame (prepare_to 1 0 1 0 (fee 1 5 100)) 16 0 ∷ frame (prepare_to 1 0 2 1 (fee 2 0 50)) 16 0
    ∷ frame (prepare_to 1 0 3 2 (fee 1 6 7)) 16 0 ∷ frame (start_view_to 1 1 2 dropped) 16 0 ∷ []

created : Created u fresh
unfolding open-surprises
created = new [] [] refl

last-5 : LastAt dropped 0
unfolding open-surprises
last-5 = record { inside = omega arith; none-later = later }
  where
    later : (d : Entry) (j : ℕ) → 0 < j → j < length dropped → (get_or dropped j d).client ≡ 1 → ⊥
    later d zero h k e = absurd (omega arith)
    later d (suc zero) h k e = absurd (omega arith)
    later d (suc (suc j)) h k e = absurd (omega arith)

pub asks-5 : AskedAgain u (run u fresh calls) request5 (fee 1 5 100) 0
unfolding open-surprises run answer
asks-5 =
    let two : 0 < 2 = omega arith in
    record {
      primary = refl;
      normal = refl;
      applied = two;
      latest = last-5;
      asked = fee 1 5 100;
      passed = refl;
      client = refl;
      request = refl;
    }

pub reply-is : reply_bytes (reply_again u (run u fresh calls) (fee 1 5 100) 0) ≡ reply5
unfolding open-surprises run answer reply_again
reply-is = refl

pub answered-5 : answer u (run u fresh calls) (frame request5 0 36)
    ≡ done (run u fresh calls) [] (reply_again u (run u fresh calls) (fee 1 5 100) 0 ∷ [])
answered-5 = answers-again u fresh created calls request5 (fee 1 5 100) 0 0 36 asks-5 (omega arith)
