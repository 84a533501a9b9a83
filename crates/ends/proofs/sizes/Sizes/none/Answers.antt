-- `ends::sizes::Sizes::none` meets its contract.
use Rattle.ends.proofs.SizeLaws.{sizes_none}
use Rattle.ends.proofs.sizes.Sizes.none.Goals as goal

pub returns : goal.returns
returns c = sizes_none
