-- Document 01, "Sizes": the length of each lent run follows from n, L and M alone. Assumes nothing.
use Rattle.std.specs.Prelude.{ℕ, ◌*◌}
use Rattle.config.specs.declared.Setup.{Setup}

-- the log: 32 bytes an entry, the entry of op k at 32 (k - 1)
abbrev pub log_length : Setup → ℕ
log_length u = 32 * u.room

-- what each applied op gave, in order: outcome 1, total 8
abbrev pub results_length : Setup → ℕ
results_length u = 9 * u.room

-- a set of replicas a byte, of op 1 to L; 0 is no row
abbrev pub acks_length : Setup → ℕ
acks_length u = u.room

-- 8 bytes a member
abbrev pub totals_length : Setup → ℕ
totals_length u = 8 * u.members

-- the client table, 25 bytes a row, room for L clients
abbrev pub table_length : Setup → ℕ
table_length u = 25 * u.room

-- where the stored log of a replica begins: that of its DoViewChange, or of its RecoveryResponse
unfoldable pub stored_place : (room id : ℕ) → ℕ
stored_place room id = 32 * room * id

-- the stored logs, one place a replica id
abbrev pub stored_length : Setup → ℕ
stored_length u = stored_place u.room u.n
