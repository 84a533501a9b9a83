-- `segment::whole::fill_up` meets its contract. The loop's invariant: the boxes that the walk has before it are allowed
-- up to the end where those from the first are.
use mathlib.Core.Logic.{inl, inr}
use mathlib.Core.Path.{sym, ◌∙◌}
use Rattle.segment.proofs.MetLaws.{met_one, met_none}
use Rattle.boxes.specs.Framing.{box_of}
use Rattle.boxes.proofs.WalkLaws.{walk_boxes, fewer, next_box, no_more, a_fault}
use Rattle.segment.proofs.WholeLaws.{fill_other, fill_end, fill_met, fill_more, fill_over, fill_sound}
use Rattle.segment.proofs.whole.fill_up.Goals as goal

pub returns-then-not-may_stand : goal.returns-then-not-may_stand
returns-then-not-may_stand c =
    λ bs known.
    let step = next_box c.step.ensures (met_one c.unwrap_or.ensures c.in-Some.is) in
    let (cs, behind, same) = fill_met c.loop-b.invariant (sym (walk_boxes _ c.new-walk.ensures) ∙ known) step in
    sym (same ∙ fill_other _ cs _ (sym c.may_stand.ensures ∙ c.if-not-may_stand.true))

pub returns-then-end-at : goal.returns-then-end-at
unfolding box_of
returns-then-end-at c =
    λ bs known.
    let step = next_box c.step.ensures (met_one c.unwrap_or.ensures c.in-Some.is) in
    let (cs, behind, same) = fill_met c.loop-b.invariant (sym (walk_boxes _ c.new-walk.ensures) ∙ known) step in
    sym (same ∙ fill_end _ cs _ (sym c.may_stand.ensures ∙ c.if-not-may_stand.false) c.if-end-at.true)

pub loop-b-smaller : goal.loop-b-smaller
loop-b-smaller c = fewer _ _ (next_box c.step.ensures (met_one c.unwrap_or.ensures c.in-Some.is))

pub loop-b-preserved : goal.loop-b-preserved
unfolding box_of
loop-b-preserved c =
    let step = next_box c.step.ensures (met_one c.unwrap_or.ensures c.in-Some.is) in
    fill_more c.loop-b.invariant step (sym c.may_stand.ensures ∙ c.if-not-may_stand.false) c.if-end-at.false

pub returns : goal.returns
returns c =
    λ bs known.
    let began = sym (walk_boxes _ c.new-walk.ensures) ∙ known in
    elim (met_none c.unwrap_or.ensures c.in_default.is) [
      | inl end ↦ sym (fill_over c.loop-b.invariant began (no_more c.step.ensures end))
      | inr fault ↦ absurd (fill_sound c.loop-b.invariant began (a_fault c.step.ensures fault.1))
    ]
