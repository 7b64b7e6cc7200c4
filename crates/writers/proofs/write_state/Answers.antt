-- `writers::write_state` meets its contract. Assumes nothing.
use Rattle.writers.specs.Writers.{encode, state_size, size_of, length_of}
use native.Mathlib.Omega.{arith}
use Rattle.writers.proofs.write_state.Goals as goal

pub response_bare-requires : goal.response_bare-requires
unfolding encode size_of state_size length_of
response_bare-requires c = omega (arith, (rw c.in-None.is at c.requires).fits)

pub response_full-requires : goal.response_full-requires
unfolding encode size_of state_size length_of
response_full-requires c = let p = rw c.in-Some.is at c.requires in (p.few, (p.log, p.fits))

pub returns-in-None : goal.returns-in-None
unfolding encode size_of state_size length_of
returns-in-None c = rw c.in-None.is c.response_bare.ensures

pub returns-in-Some : goal.returns-in-Some
unfolding encode size_of state_size length_of
returns-in-Some c = rw c.in-Some.is c.response_full.ensures
