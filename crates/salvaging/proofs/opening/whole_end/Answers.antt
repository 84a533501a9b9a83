-- `salvaging::opening::whole_end` meets its contract. The loop's invariant: the first framing error is still ahead.
use Rattle.std.specs.Prelude.{Ok}
use mathlib.Core.Path.{refl, ap, ◌∙◌}
use Rattle.boxes.proofs.WalkLaws.{next_box, no_more, a_fault, fewer}
use Rattle.salvaging.proofs.OpensLaws.{along_none, along_more, along_end, along_fault}
use Rattle.salvaging.proofs.opening.whole_end.Goals as goal

pub loop-next-init : goal.loop-next-init
loop-next-init c = along_none _ c.new-walk.ensures refl

pub loop-next-smaller : goal.loop-next-smaller
loop-next-smaller c = fewer _ _ (next_box c.step.ensures (c.in-Ok-Some.is ∙ ap Ok c.in-Ok-Some.field-0-is))

pub loop-next-preserved : goal.loop-next-preserved
loop-next-preserved c = along_more c.loop-next.invariant (next_box c.step.ensures (c.in-Ok-Some.is ∙ ap Ok c.in-Ok-Some.field-0-is))

pub returns-in-Ok-None : goal.returns-in-Ok-None
returns-in-Ok-None c = along_end c.loop-next.invariant (no_more c.step.ensures (c.in-Ok-None.is ∙ ap Ok c.in-Ok-None.field-0-is))

pub returns-in-Err : goal.returns-in-Err
returns-in-Err c = along_fault c.loop-next.invariant (a_fault c.step.ensures c.in-Err.is)
