-- `adding::layout::ploc_size` meets its contract: no more items are counted than a file may have bytes, and widths are
-- at most 8.
use mathlib.Core.Path.{◌∙◌}
use native.Mathlib.Omega.{arith}
use Rattle.adding.proofs.LengthLaws.{ploc_counted}
use Rattle.adding.proofs.layout.ploc_size.Goals as goal

pub returns : goal.returns
returns c = (
  omega arith,
  λ right outside is whole wide far. c.within.ensures ∙ ploc_counted outside is _ whole _ _ _ _ c.within-items.ensures c.within-present.ensures wide far,
)
