-- `mapping::call::map` meets its contract.
use Rattle.mapping.proofs.OutlineLaws.{map-text, writes_same}
use Rattle.mapping.proofs.call.map.Goals as goal

pub returns : goal.returns
returns c = writes_same (map-text _ _ _) c.write_map.ensures
