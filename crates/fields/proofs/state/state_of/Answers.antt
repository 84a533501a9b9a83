-- `fields::state::state_of` meets its contract: four flag bytes have no reserved bit, and every other has one.
use native.Mathlib.Omega.{arith}
use mathlib.Core.Path.{sym}
use Rattle.partial.specs.Entries.{state_of, state}
use Rattle.fields.proofs.EntryLaws.{state_reserved}
use Rattle.fields.proofs.state.state_of.Goals as goal

pub returns-in-64 : goal.returns-in-64
unfolding state_of state
returns-in-64 c = rw c.in-64.is

pub returns-in-192 : goal.returns-in-192
unfolding state_of state
returns-in-192 c = rw c.in-192.is

pub returns-in-128 : goal.returns-in-128
unfolding state_of state
returns-in-128 c = rw c.in-128.is

pub returns-in-0 : goal.returns-in-0
unfolding state_of state
returns-in-0 c = rw c.in-0.is

pub returns-in-1-to-63 : goal.returns-in-1-to-63
returns-in-1-to-63 c = sym (state_reserved c.args.flags (λ h. omega arith))
