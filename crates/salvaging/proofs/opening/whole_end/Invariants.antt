-- `salvaging::opening::whole_end` meets its contract. The loop's invariant: the first framing error is still ahead.
use Rattle.salvaging.proofs.OpensLaws.{Along}
use Rattle.salvaging.proofs.opening.whole_end.Given as goal

abbrev pub invariant-loop-next : goal.invariant-loop-next
invariant-loop-next l = Along l.file l.walk

abbrev pub decreases-loop-next : goal.decreases-loop-next
decreases-loop-next l = l.walk.left
