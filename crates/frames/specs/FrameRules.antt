-- What may stand at each place of a frame, given the bytes before it: document 02's order on a wrong byte, place by place. The length comes first and binds what
-- follows: it says which kinds there can be, and of each how many entries. That the runs which keep these rules are the well-formed frames is a law (`frame-rules`).
-- Assumes nothing.
use Rattle.std.specs.Prelude.{Bool, false, List, ℕ, zero, suc, ◌+◌, ◌-◌, ◌*◌, ◌/◌, eqb}
use Rattle.numbers.specs.Words.{when◌then◌else◌, ◌and◌, ◌or◌}
use Rattle.numbers.specs.Numbers.{within}
use Rattle.offsets.specs.Rules.{Rule, end, byte, reach, free, between, just}
use Rattle.frames.specs.Kinds.{fields_end, state_end}

-- ---- which kinds a length fits; n is the length that the frame says, of what follows it

-- kinds 6, 8, 9 and 11 carry a log
unfoldable pub carries_log : ℕ → Bool
carries_log k = eqb k 6 or eqb k 8 or eqb k 9 or eqb k 11

-- how many bytes stand before the entries; a RecoveryResponse of 17 bytes has no log
unfoldable pub entries_from : (kind n : ℕ) → ℕ
entries_from k n = when eqb k 11 then (when eqb n 17 then fields_end 11 else state_end) else fields_end k

-- how many entries there are
unfoldable pub count_for : (kind n : ℕ) → ℕ
count_for k n =
    when eqb k 1 then 1 else
    when eqb k 2 then 1 else
    when carries_log k then (n + 4 - entries_from k n) / 32 else
    0

unfoldable pub fits : (n kind : ℕ) → Bool
fits n k = within 1 11 k and eqb (n + 4) (entries_from k n + 32 * count_for k n)

-- some kind up to k fits
unfoldable pub some_fits : (kind n : ℕ) → Bool
some_fits zero n = false
some_fits (suc k) n = fits n (suc k) or some_fits k n

-- ---- what may stand where

-- cents of an operation, then what follows
unfoldable pub cents_rule : (operation : ℕ) → Rule → Rule
cents_rule k r = when eqb k 3 then just 8 0 r else between 8 0 1 1000000 (λ x. r)

-- an entry: client and request, operation, three zero bytes, member, cents
unfoldable pub entry_rule : Rule → Rule
entry_rule r = free 16 (between 1 0 1 3 (λ k. just 3 0 (free 4 (cents_rule k r))))

unfoldable pub entries_rule : (count : ℕ) → Rule
entries_rule zero = end
entries_rule (suc c) = entry_rule (entries_rule c)

-- o, which is the number of entries, the commit number, and the entries
unfoldable pub log_rule : (count : ℕ) → Rule
log_rule c = just 4 c (free 4 (entries_rule c))

-- NewState: start, end, the commit number, and the entries; end has to fit its four bytes
unfoldable pub part_rule : (count : ℕ) → Rule
part_rule c = between 4 0 0 (4294967295 - c) (λ a. just 4 (a + c) (free 4 (entries_rule c)))

-- RecoveryResponse, from its mark on
unfoldable pub state_rule : (n count : ℕ) → Rule
state_rule n c = when eqb n 17 then just 1 0 end else just 1 1 (log_rule c)

-- where the first field stands that isn't free: start (6), o (8 and 9), the mark (11); of the other kinds the entries, or the frame's end
unfoldable pub bound_from : (kind : ℕ) → ℕ
bound_from k =
    when eqb k 6 then 11 else
    when eqb k 8 then 16 else
    when eqb k 9 then 11 else
    when eqb k 11 then 20 else
    fields_end k

-- what may stand from there on
unfoldable pub bound_rule : (n kind : ℕ) → Rule
bound_rule n k =
    when eqb k 6 then part_rule (count_for k n) else
    when eqb k 8 then log_rule (count_for k n) else
    when eqb k 9 then log_rule (count_for k n) else
    when eqb k 11 then state_rule n (count_for k n) else
    entries_rule (count_for k n)

-- from the addressee on, in a frame of kind k
unfoldable pub body_rule : (n kind : ℕ) → Rule
body_rule n k = free (bound_from k - 6) (bound_rule n k)

-- version and kind
unfoldable pub kind_rule : (n : ℕ) → Rule
kind_rule n = just 1 1 (byte (fits n) (body_rule n))

-- the length, whose last byte makes it one that some kind has
unfoldable pub frame_rule : Rule
frame_rule = between 3 0 0 16777215 (λ x. byte (λ b. some_fits 11 (x * 256 + b)) (λ b. kind_rule (x * 256 + b)))

-- how many bytes of a frame keep the rules from the left: of a malformed one the offset of the first wrong byte, or its length where only bytes are missing
unfoldable pub offset_of : List ℕ → ℕ
offset_of s = reach frame_rule s
