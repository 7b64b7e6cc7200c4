-- Bytes that are Replies, each with an outcome of the fee rules, and a call that leaves nothing else in the area for replies. Assumes nothing.
use Rattle.std.specs.Prelude.{◌≡◌, List, [], ◌++◌, ℕ, ◌≤◌, length}
use Rattle.numbers.specs.Numbers.{over}
use Rattle.numbers.specs.declared.View.{View}
use Rattle.writers.specs.Writers.{reply}

-- Replies one after the other, with outcomes 1 to 6
pub data Replies : List ℕ → Type 0 where
  none : Replies []
  more :
      (v : View) (client request outcome total : ℕ) (rest : List ℕ) → 1 ≤ outcome → outcome ≤ 6 → Replies rest
      → Replies (reply v client request outcome total ++ rest)

-- what a call leaves of the area for replies, and counts there: such Replies over its front, exactly as many bytes as it counts
pub record Replying (before after : List ℕ) (count : ℕ) : Type 0 where
  pub bytes : List ℕ
  pub replies : Replies bytes
  pub counted : length bytes ≡ count
  pub area : after ≡ over bytes before
