-- Chains by which the entries of a client are found: entries are numbered from 0, and those whose client ids have one remainder by 1,021 make a chain, from the
-- latest one back. They serve the code of the look over pairs alone. Assumes nothing.
use Rattle.std.specs.Prelude.{ℕ, zero, suc, ◌+◌, ◌%◌, Option, Some, None, get_or, replicate, slice_set}
use Rattle.entries.specs.declared.chains.Chains.{Chains}

-- a place holds one more than an entry's number, or 0
abbrev pub entry_held : ℕ → Option ℕ
entry_held zero = None
entry_held (suc i) = Some i

-- the remainder of a client's id
abbrev pub chain_of : ℕ → ℕ
chain_of client = client % 1021

-- no entry is in them
abbrev pub no_chains : Chains
no_chains = record { latest = replicate 1021 0; earlier = replicate 4096 0 }

-- the latest entry of a client's chain, and the one before entry i in its chain
abbrev pub latest_in_chain : ℕ → Chains → Option ℕ
latest_in_chain client t = entry_held (get_or t.latest (chain_of client) 0)

abbrev pub earlier_in_chain : ℕ → Chains → Option ℕ
earlier_in_chain i t = entry_held (get_or t.earlier i 0)

-- entry i of a client as the latest one of its chain
abbrev pub chained : ℕ → ℕ → Chains → Chains
chained i client t =
    record { latest = slice_set t.latest (chain_of client) (i + 1); earlier = slice_set t.earlier i (get_or t.latest (chain_of client) 0) }
