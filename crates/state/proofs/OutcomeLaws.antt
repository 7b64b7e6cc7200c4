-- An answer's number, by what the code asks of it.
--     refused-code, done-code     of a refusal it isn't 0; of a call that is done it is
-- Assumes nothing.
use Rattle.std.specs.Prelude.{Result, Ok, Err, is_err}
use mathlib.Core.Path.{◌≡◌, refl, sym}
use mathlib.Core.Bool.{true, false, false≢true}
use Rattle.frames.specs.declared.Refusal.{Refusal}
use Rattle.frames.proofs.RefusalLaws.{number-some}
use Rattle.state.specs.Answers.{outcome_code}
use Rattle.state.specs.declared.Output.{Output}

pub refused-code : (o : Result Output Refusal) → is_err o ≡ true → outcome_code o ≡ 0 → ⊥
refused-code (Ok d) h e = false≢true h
refused-code (Err k) h e = number-some k e

pub done-code : (o : Result Output Refusal) → is_err o ≡ false → outcome_code o ≡ 0
done-code (Ok d) h = refl
done-code (Err k) h = absurd (false≢true (sym h))
