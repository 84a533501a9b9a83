-- `supplying::rows::chunk_at` meets its contract.
use mathlib.Core.Path.{sym}
use native.Mathlib.Omega.{arith}
use Rattle.supplying.proofs.RowsLaws.{row_there}
use Rattle.supplying.proofs.rows.chunk_at.Goals as goal

pub returns : goal.returns
returns c = (omega arith, sym (row_there _ _ (omega arith)))
