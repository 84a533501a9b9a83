-- `sweeping::naming::Sweeps::start` meets its contract.
use Rattle.sweeping.proofs.naming.Sweeps.start.Goals as goal

pub returns : goal.returns
returns c = λ i. record { good = c.start.ensures i; damaged = c.start-2.ensures i }
