-- How long the areas for messages and replies have to be, so that no call is refused for want of room there. Assumes nothing.
use Rattle.std.specs.Prelude.{◌≡◌, ℕ, ◌+◌, ◌-◌, ◌*◌, ◌≤◌}
use Rattle.config.specs.declared.Setup.{Setup}

-- the messages of a primary's tick, which are the longest: a Commit and up to L Prepares to each other replica
unfoldable pub out_length : Setup → ℕ
out_length u = (u.n - 1) * (15 + 51 * u.room)

-- a Reply to each of L requests
abbrev pub reps_length : Setup → ℕ
reps_length u = 36 * u.room

-- A call that was lent areas of `out` and `reps` bytes, and answers `code`: with areas that long it is refused neither by 9 nor by 10.
pub record Suffices (u : Setup) (out reps code : ℕ) : Type 0 where
  pub messages : out_length u ≤ out → code ≡ 9 → ⊥
  pub replies : reps_length u ≤ reps → code ≡ 10 → ⊥
