-- `comparing::words::same_text` meets its contract. Assumes nothing.
use Rattle.std.proofs.Common.{◌≡◌, ◌*◌, drop}
use Rattle.comparing.specs.Text.{same_bytes, hex_text}
use Rattle.comparing.proofs.words.same_text.Given as goal

abbrev pub invariant-loop-i : goal.invariant-loop-i
invariant-loop-i l = same_bytes l.w (hex_text l.s) ≡ same_bytes (drop (2 * l.i) l.w) (hex_text (drop l.i l.s))
