-- `adding::admission::added_boxes` meets its contract: by whether any data goes into a `pdat`.
use mathlib.Core.Path.{ap, ◌∙◌}
use Rattle.adding.specs.Counts.{capped}
use Rattle.adding.proofs.OutsideLaws.{boxes_none, boxes_some}
use Rattle.adding.proofs.admission.added_boxes.Goals as goal

pub returns-then-counts-outside : goal.returns-then-counts-outside
returns-then-counts-outside c =
    λ right a sorted whole. c.saturating_add.ensures ∙ ap capped (boxes_none sorted whole c.if-counts-outside.true)

pub returns : goal.returns
returns c = λ right a sorted whole. c.saturating_add-2.ensures ∙ ap capped (boxes_some sorted whole c.if-counts-outside.false)
