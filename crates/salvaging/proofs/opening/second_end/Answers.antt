-- `salvaging::opening::second_end` meets its contract: two steps of a walk meet the first two boxes, or there are fewer.
use mathlib.Core.Path.{refl}
use Rattle.boxes.proofs.WalkLaws.{next_box}
use Rattle.surls.proofs.WithinLaws.{was_next}
use Rattle.salvaging.proofs.OpensLaws.{cut_none, cut_one, cut_two}
use Rattle.salvaging.proofs.opening.second_end.Goals as goal

pub returns-in_default : goal.returns-in_default
returns-in_default c = cut_none _ c.new-walk.ensures refl _ c.step.ensures c.unwrap_or.ensures c.in_default.is

pub returns-in_default-unwrap_or : goal.returns-in_default-unwrap_or
returns-in_default-unwrap_or c =
    cut_one _ c.new-walk.ensures refl (next_box c.step.ensures (was_next c.unwrap_or.ensures c.in-Some.is)) _ c.step-2.ensures c.unwrap_or-2.ensures c.in_default-unwrap_or.is

pub returns : goal.returns
returns c =
    cut_two _ c.new-walk.ensures refl (next_box c.step.ensures (was_next c.unwrap_or.ensures c.in-Some.is)) _
    (next_box c.step-2.ensures (was_next c.unwrap_or-2.ensures c.in-Some-unwrap_or.is))
