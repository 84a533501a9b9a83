-- `adding::layout::length_size` meets its contract.
use mathlib.Core.Path.{◌∙◌}
use Rattle.numerals.proofs.WidthLaws.{least_width-within}
use Rattle.adding.proofs.WidthLaws.{length_wide}
use Rattle.adding.proofs.layout.length_size.Goals as goal

pub returns : goal.returns
returns c =
    (rw c.width_of.ensures (least_width-within _), λ right outside is whole. c.width_of.ensures ∙ length_wide outside is _ whole)
