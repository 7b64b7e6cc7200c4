-- FORMAT.md: what a line of a trace asks for, by its first byte and what is due. L and M above 8 have no room in the memory; 0 and 4097 are passed on, since a creation with them is refused. Assumes nothing.
use Rattle.std.specs.Prelude.{ℕ, Bool, false, not, List, Option, Some, None, ◌==◌, ◌&&◌, ◌||◌, nat_le, nat_lt, min, if◌then◌else◌}
use Rattle.config.specs.declared.Setup.{Setup}
use Rattle.comparing.specs.Text.{number_at}
use Rattle.playing.specs.declared.Creation.{Creation}
use Rattle.playing.specs.declared.Creation.TheVariants.{Create, Recover}
use Rattle.playing.specs.declared.RunCall.{RunCall}
use Rattle.playing.specs.declared.RunCall.TheVariants.{Message, Idle}
use Rattle.playing.specs.declared.Due.{Due}
use Rattle.playing.specs.declared.Due.TheVariants as due
use Rattle.playing.specs.declared.RunLine.{RunLine}
use Rattle.playing.specs.declared.RunLine.TheVariants.{Missing, Unknown, Go, Answer, State, Further, Takings}
use Rattle.playing.specs.declared.Asked.{Asked}
use Rattle.playing.specs.declared.Asked.TheVariants.{Nothing, Larger, Client, Begin, OfRun}
use Rattle.playing.specs.declared.Run.{Run}

-- an L or M that a setup may have, or more than 4097, and that the memory has no room for
abbrev pub too_many : ℕ → Bool
too_many x = nat_lt 4097 x || (nat_lt 8 x && not (x == 4097))

-- an L or M, unless the memory has no room for it
abbrev pub in_memory : ℕ → Option ℕ
in_memory x = if too_many x then None else Some x

-- a setup that the memory has room for
abbrev pub fitting : (n id timeout room members : ℕ) → Bool
fitting n id timeout room members =
    nat_le n 255 && nat_le id 255 && nat_le timeout 65535 && not (too_many room) && not (too_many members)

-- the setup with these numbers, if the memory has room for it
abbrev pub setup_with : (n id timeout room members : ℕ) → Option Setup
setup_with n id timeout room members =
    if fitting n id timeout room members
    then Some (record { n = n; id = id; timeout = timeout; room = room; members = members })
    else None

-- a creation with a setup that there is room for, and a message area of so many bytes, of 8192 at most
abbrev pub creation_of : Creation → Option Setup → (area : ℕ) → Asked
creation_of by (Some setup) area = Begin by setup (record { messages = min area 8192; replies = 0 })
creation_of by None area = Larger

-- `N n id t l m`, `R n id t l m view nonce mcap`
abbrev pub creation_in : Creation → List ℕ → Asked
creation_in by s =
    creation_of by (setup_with (number_at false 1 s) (number_at false 2 s) (number_at false 3 s) (number_at false 4 s) (number_at false 5 s)) (number_at false 8 s)

-- `R n id t l m view nonce mcap`
abbrev pub recovery_in : List ℕ → Asked
recovery_in line =
    if nat_le (number_at false 6 line) 4294967295
    then creation_in (Recover (record { 0 = number_at false 6 line }) (number_at false 7 line)) line
    else Larger

-- `M mcap rcap frame`, `T mcap rcap`: areas of 8192 and 512 bytes at most
abbrev pub going_in : RunCall → List ℕ → RunLine
going_in by line = Go by (record { messages = min (number_at false 1 line) 8192; replies = min (number_at false 2 line) 512 })

-- a line of a run that is played: M, T, =, :, + and $
abbrev pub within_run : (c : ℕ) → List ℕ → RunLine
within_run c line =
    if c == 77 then going_in Message line else (
    if c == 84 then going_in Idle line else (
    if c == 61 then Answer else (
    if c == 58 then State else (
    if c == 43 then Further else (
    if c == 36 then Takings else Unknown)))))

-- what a line that says this begins with
abbrev pub first_byte_of : Due → ℕ
first_byte_of due.Answer = 61
first_byte_of due.State = 58

-- a line of a run, c its first byte: what is due has to come first
abbrev pub of_run : Option Due → (c : ℕ) → List ℕ → RunLine
of_run None c line = within_run c line
of_run (Some d) c line = if first_byte_of d == c then within_run c line else Missing d

-- a line that begins no run: something of the run that is played, if one is
abbrev pub of_any : Option Run → (c : ℕ) → List ℕ → Asked
of_any None c line = Nothing
of_any (Some r) c line = OfRun r (of_run r.due c line)

-- a line, c its first byte. N, R and C begin a run; # is a comment
abbrev pub asked_at : Option Run → (c : ℕ) → List ℕ → Asked
asked_at run c line =
    if c == 78 then creation_in Create line else (
    if c == 82 then recovery_in line else (
    if c == 67 then Client else (
    if c == 35 then Nothing else (
    if c == 0 then Nothing else of_any run c line))))

-- a line, with its first byte if it has one
abbrev pub asked_by : Option Run → Option ℕ → List ℕ → Asked
asked_by run None line = Nothing
asked_by run (Some c) line = asked_at run c line
