-- `gathering::gathered::Gathered::none` meets its contract.
use Rattle.gathering.proofs.GatheredLaws.{gathered_none}
use Rattle.gathering.proofs.gathered.Gathered.none.Goals as goal

pub returns : goal.returns
returns c = gathered_none
