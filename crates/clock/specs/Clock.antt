-- Document 01, "Steps that are easy to misread": the idle clock. A view change starts when waiting reaches T times 2^min(attempts,10).
-- Attempts rise only when a view change starts from ViewChange and fall to 0 after T stable ticks. Attempts are counted to 10 and stable
-- ticks to T. Assumes nothing.
use Rattle.std.specs.Prelude.{Bool, true, false, ℕ, ◌+◌, ◌*◌, ◌^◌, min, leb}
use Rattle.numbers.specs.Words.{when◌then◌else◌}
use Rattle.clock.specs.declared.Clock.{Clock}
use Rattle.clock.specs.declared.Ticked.{Ticked}
use Rattle.clock.specs.declared.Duty.{Duty}
use Rattle.clock.specs.declared.Duty.TheVariants.{Lead, Follow, Change}

abbrev pub clock : Bool → ℕ → ℕ → ℕ → Clock
clock h w s a = record { heard = h; waiting = w; stable = s; attempts = a }

abbrev pub ticked : Clock → Bool → Ticked
ticked c b = record { clock = c; up = b }

-- a fresh replica's clock
abbrev pub fresh_clock : Clock
fresh_clock = clock true 0 0 0

-- how many ticks a wait lasts
unfoldable pub limit_of : ℕ → ℕ → ℕ
limit_of T attempts = T * 2 ^ min attempts 10

-- one more tick of a wait; the counter stops where its 32 bits end
unfoldable pub waited_of : ℕ → ℕ
waited_of waiting = min (waiting + 1) 4294967295

-- The Rust's `note_stable`.
unfoldable pub stable_tick : ℕ → Clock → Clock
stable_tick T c =
    clock c.heard c.waiting (min (c.stable + 1) T) (when leb T (min (c.stable + 1) T) then 0 else c.attempts)

-- The Rust's `wait_timed_out`: whether the wait, a tick longer, is over.
unfoldable pub wait_tick : ℕ → Clock → Ticked
wait_tick T c = ticked (clock c.heard (waited_of c.waiting) c.stable c.attempts) (leb (limit_of T c.attempts) (waited_of c.waiting))

-- A tick, by what the replica is doing. Lead: a Normal primary. Follow: a Normal backup, and StateTransfer. Change: ViewChange.
-- A Recovering replica's tick leaves the clock alone.
unfoldable pub tick_of : ℕ → Duty → Clock → Ticked
tick_of T Lead c = ticked (stable_tick T c) false
tick_of T Follow c =
    when c.heard then ticked (stable_tick T (clock false 0 c.stable c.attempts)) false else
    wait_tick T (clock false c.waiting 0 c.attempts)
tick_of T Change c = wait_tick T c

-- `heard_from_primary` is set
abbrev pub heard_of : Clock → Ticked
heard_of c = ticked (clock true c.waiting c.stable c.attempts) false

-- `enter_normal`
abbrev pub reset_of : Clock → Ticked
reset_of c = ticked (clock true 0 0 c.attempts) false

-- `start_view_change`; again: from ViewChange
unfoldable pub start_of : Bool → Clock → Ticked
start_of again c = ticked (clock c.heard 0 c.stable (when again then min (c.attempts + 1) 10 else c.attempts)) false

-- `catch_up_with_view`
abbrev pub restart_of : Clock → Ticked
restart_of c = ticked (clock c.heard 0 c.stable c.attempts) false
