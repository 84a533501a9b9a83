-- `mapping::call::missmap` meets its contract.
use Rattle.mapping.proofs.OutlineLaws.{missmap-text, writes_same}
use Rattle.mapping.proofs.call.missmap.Goals as goal

pub returns : goal.returns
returns c = writes_same (missmap-text _ _ _) c.write_map.ensures
