-- `listing::calls::put_segments` meets its contract.
use mathlib.Core.Path.{sym}
use native.Mathlib.Omega.{arith}
use lib.Seq.{length-take-le}
use Rattle.filling.proofs.RowLaws.{put_stored}
use Rattle.listing.proofs.calls.put_segments.Goals as goal

pub slice_bounds-put_row-end : goal.slice_bounds-put_row-end
slice_bounds-put_row-end c = sym (length-take-le _ _ (omega arith))

pub returns : goal.returns
returns c = put_stored _ _ _ c.put_row.ensures
