-- `salvaging::ploc::offset_to` meets its contract, by which of the two places is the first.
use native.Mathlib.Omega.{arith}
use Rattle.salvaging.proofs.PlocLaws.{to_ahead, to_back}
use Rattle.salvaging.proofs.ploc.offset_to.Goals as goal

pub returns-then-from-to : goal.returns-then-from-to
returns-then-from-to c = to_ahead _ _ (omega arith)

pub returns-else-from-to : goal.returns-else-from-to
returns-else-from-to c = to_back _ _ (omega arith)
