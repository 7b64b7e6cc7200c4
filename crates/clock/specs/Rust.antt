-- The counters as the Rust has them: `heard_from_primary`, `idle_periods_waiting`, `idle_periods_stable`, `view_change_attempts`, none of
-- them capped, and what its functions do to them. Assumes nothing.
use Rattle.std.specs.Prelude.{Bool, true, false, ℕ, ◌+◌, ◌*◌, ◌^◌, min, leb}
use Rattle.numbers.specs.Words.{when◌then◌else◌}
use Rattle.clock.specs.declared.Clock.{Clock}
use Rattle.clock.specs.declared.Duty.{Duty}
use Rattle.clock.specs.declared.Duty.TheVariants.{Lead, Follow, Change}
use Rattle.clock.specs.Clock.{clock}

pub record Counters : Type 0 where
  pub heard : Bool
  pub waiting : ℕ
  pub stable : ℕ
  pub attempts : ℕ

abbrev pub counters : Bool → ℕ → ℕ → ℕ → Counters
counters h w s a = record { heard = h; waiting = w; stable = s; attempts = a }

-- what document 01 compares: stable ticks counted to T, attempts to 10
unfoldable pub capped : ℕ → Counters → Clock
capped T r = clock r.heard r.waiting (min r.stable T) (min r.attempts 10)

-- note_stable
unfoldable pub rust_stable : ℕ → Counters → Counters
rust_stable T r = counters r.heard r.waiting (r.stable + 1) (when leb T (r.stable + 1) then 0 else r.attempts)

-- wait_timed_out: the counters after it, and its answer
unfoldable pub rust_wait : Counters → Counters
rust_wait r = counters r.heard (r.waiting + 1) r.stable r.attempts

unfoldable pub rust_timed_out : ℕ → Counters → Bool
rust_timed_out T r = leb (T * 2 ^ min r.attempts 10) (r.waiting + 1)

-- on_idle, as far as it concerns the counters before a view change starts
unfoldable pub rust_tick : ℕ → Duty → Counters → Counters
rust_tick T Lead r = rust_stable T r
rust_tick T Follow r =
    when r.heard then rust_stable T (counters false 0 r.stable r.attempts) else
    rust_wait (counters false r.waiting 0 r.attempts)
rust_tick T Change r = rust_wait r

-- whether on_idle then starts a view change
unfoldable pub rust_up : ℕ → Duty → Counters → Bool
rust_up T Lead r = false
rust_up T Follow r = when r.heard then false else rust_timed_out T r
rust_up T Change r = rust_timed_out T r

-- accept_from_primary and on_new_state; enter_normal; start_view_change; catch_up_with_view
unfoldable pub rust_heard : Counters → Counters
rust_heard r = counters true r.waiting r.stable r.attempts

unfoldable pub rust_reset : Counters → Counters
rust_reset r = counters true 0 0 r.attempts

unfoldable pub rust_start : Bool → Counters → Counters
rust_start again r = counters r.heard 0 r.stable (when again then r.attempts + 1 else r.attempts)

unfoldable pub rust_restart : Counters → Counters
rust_restart r = counters r.heard 0 r.stable r.attempts
