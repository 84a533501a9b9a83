-- `adding::layout::offset_size` meets its contract.
use mathlib.Core.Path.{◌∙◌}
use Rattle.numerals.proofs.WidthLaws.{least_width-within}
use Rattle.adding.proofs.WidthLaws.{offset_wide}
use Rattle.adding.proofs.layout.offset_size.Goals as goal

pub returns : goal.returns
returns c =
    (rw c.width_of_offset.ensures (least_width-within _), λ right outside is whole. c.width_of_offset.ensures ∙ offset_wide outside is _ whole)
