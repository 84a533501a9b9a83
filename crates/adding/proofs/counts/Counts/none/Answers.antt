-- `adding::counts::Counts::none` meets its contract.
use Rattle.adding.proofs.CountLaws.{counts_none}
use Rattle.adding.proofs.counts.Counts.none.Goals as goal

pub returns : goal.returns
returns c = counts_none
