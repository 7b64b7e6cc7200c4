-- Logs of reports in lent memory: that of a report which is kept goes to its replica's place, the chosen one over ours. Assumes nothing.
use Rattle.std.specs.Prelude.{List, ℕ, ◌*◌, take}
use Rattle.numbers.specs.Numbers.{put_at}
use Rattle.numbers.specs.declared.Op.{Op}
use Rattle.book.specs.Log.{with_entries}
use Rattle.state.specs.Lengths.{stored_place}
use Rattle.reports.specs.Judge.{chosen_log}
use Rattle.reports.specs.declared.Best.{Best}

-- the first o entries of `fresh`, at the place of replica `id`
unfoldable pub kept_log : (room id : ℕ) → Op → (fresh stored : List ℕ) → List ℕ
kept_log room id o fresh stored = put_at (stored_place room id) (take (32 * o.0) fresh) stored

-- install_log, its bytes: what stands past the chosen log stays
unfoldable pub chosen_over : Best → (id room : ℕ) (stored fresh log : List ℕ) → List ℕ
chosen_over b id room stored fresh log = with_entries 0 (chosen_log b id room stored fresh) log
