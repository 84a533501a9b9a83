-- `ends::table::put_sizes` meets its contract.
use native.Mathlib.Omega.{arith}
use Rattle.ends.proofs.TableLaws.{put-entry}
use Rattle.ends.proofs.table.put_sizes.Goals as goal

pub returns : goal.returns
returns c = put-entry _ _ _ (omega arith) c.size_number.ensures
