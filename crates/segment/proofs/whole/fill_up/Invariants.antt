-- `segment::whole::fill_up` meets its contract. The loop's invariant: the boxes that the walk has before it are allowed
-- up to the end where those from the first are.
use Rattle.segment.proofs.WholeLaws.{Filling}
use Rattle.segment.proofs.whole.fill_up.Given as goal

abbrev pub invariant-loop-b : goal.invariant-loop-b
invariant-loop-b l = Filling l.s l.end.0 l.initial.walk l.walk

abbrev pub decreases-loop-b : goal.decreases-loop-b
decreases-loop-b l = l.walk.left
