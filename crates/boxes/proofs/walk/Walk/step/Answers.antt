-- `boxes::walk::Walk::step` meets its contract: each test is one of the definition's, and the header is read by
-- `header_at`.
use mathlib.Core.Path.{sym, ◌∙◌}
use Rattle.boxes.specs.Framing.{box_of}
use Rattle.boxes.specs.Walk.{met_of}
use Rattle.boxes.proofs.ToldLaws.{told-ok, told-err, handed_on}
use Rattle.boxes.proofs.WalkLaws.{step_end, step_over, step_header}
use Rattle.boxes.proofs.walk.Walk.step.Goals as goal

pub returns-then-end-at : goal.returns-then-end-at
returns-then-end-at c = sym (step_end _ _ c.if-end-at.true)

pub returns-then-self-eq0 : goal.returns-then-self-eq0
returns-then-self-eq0 c = sym (step_over _ _ c.if-end-at.false c.if-self-eq0.true)

pub returns-in_err-b : goal.returns-in_err-b
returns-in_err-b c =
    handed_on met_of _ _ c.from_residual.ensures.1
    ∙ sym (step_header _ _ c.if-end-at.false c.if-self-eq0.false ∙ rw (told-err box_of c.header_at.ensures c.in_err-b.was))

pub returns : goal.returns
unfolding box_of
returns c =
    sym (step_header _ _ c.if-end-at.false c.if-self-eq0.false ∙ rw (told-ok box_of c.header_at.ensures c.in_ok-b.was))
