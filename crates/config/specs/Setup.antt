-- Document 01, "Sizes", and refusal 1 on the setup: n is 3 to 7, the own id is below n, T is 1 to 65,535, log room L and
-- members M are 1 to 4,096 each. "Port order" 2: `primary_id` is view mod n. Assumes nothing.
use Rattle.std.specs.Prelude.{Bool, ℕ, ◌%◌, ltb}
use Rattle.numbers.specs.Words.{◌and◌}
use Rattle.numbers.specs.Numbers.{within}
use Rattle.numbers.specs.declared.View.{View}
use Rattle.config.specs.declared.Setup.{Setup}

-- how many replicas a cluster may have
abbrev pub replicas_ok : ℕ → Bool
replicas_ok n = within 3 7 n

-- log room and members: each 1 to 4,096
abbrev pub room_ok : ℕ → Bool
room_ok k = within 1 4096 k

-- primary_timeout: 1 to 65,535
abbrev pub timeout_ok : ℕ → Bool
timeout_ok t = within 1 65535 t

-- refusal 1 on the setup is given exactly where this is false
unfoldable pub setup_ok : Setup → Bool
setup_ok s = replicas_ok s.n and ltb s.id s.n and timeout_ok s.timeout and room_ok s.room and room_ok s.members

-- the replica that leads a view
unfoldable pub primary_of : ℕ → View → ℕ
primary_of n v = v.0 % n
