-- `adding::layout::offset_width` meets its contract.
use mathlib.Core.Path.{sym}
use native.Mathlib.Omega.{arith}
use Rattle.adding.proofs.WidthLaws.{offset_near, offset_far}
use Rattle.adding.proofs.layout.offset_width.Goals as goal

pub returns-then-offset-le-VERSION_0_LAST : goal.returns-then-offset-le-VERSION_0_LAST
returns-then-offset-le-VERSION_0_LAST c = (omega arith, sym (offset_near _ (omega arith)))

pub returns-else-offset-le-VERSION_0_LAST : goal.returns-else-offset-le-VERSION_0_LAST
returns-else-offset-le-VERSION_0_LAST c = (omega arith, sym (offset_far _ (omega arith)))
