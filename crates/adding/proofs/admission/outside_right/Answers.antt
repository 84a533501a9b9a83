-- `adding::admission::outside_right` meets its contract: by whether any chunk goes outside, and then by whether the
-- file is mixed.
use mathlib.Core.Bool.{Bool, ◌&&◌}
use mathlib.Core.Path.{sym, ap, ◌∙◌}
use Rattle.adding.proofs.OutsideLaws.{right_none, right_some}
use Rattle.adding.proofs.admission.outside_right.Goals as goal

pub returns-then-outside-eq0 : goal.returns-then-outside-eq0
returns-then-outside-eq0 c = λ h a mixed sorted. right_none h a sorted c.if-outside-eq0.true

pub returns-then-mixed : goal.returns-then-mixed
returns-then-mixed c =
    λ h a mixed sorted.
    let o = c.args.outside in
    sym (ap (λ (m : Bool). m && o.right) (sym mixed ∙ c.if-mixed.true)) ∙ right_some h a sorted c.if-outside-eq0.false

pub returns-else-mixed : goal.returns-else-mixed
returns-else-mixed c =
    λ h a mixed sorted.
    let o = c.args.outside in
    rw c.if-mixed.false (sym (ap (λ (m : Bool). m && o.right) (sym mixed ∙ c.if-mixed.false)) ∙ right_some h a sorted c.if-outside-eq0.false)
