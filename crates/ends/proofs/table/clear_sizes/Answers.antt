-- `ends::table::clear_sizes` meets its contract.
use Rattle.ends.proofs.TableLaws.{zeros_cleared}
use Rattle.ends.proofs.table.clear_sizes.Goals as goal

pub returns : goal.returns
returns c = zeros_cleared
