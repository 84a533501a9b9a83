-- `boxlisting::lines::put_boxes` meets its contract. The loop's invariant: the boxes so far have their lines.
use Rattle.boxlisting.proofs.ListLaws.{Midway}
use Rattle.boxlisting.proofs.lines.put_boxes.Given as goal

abbrev pub invariant-loop-b : goal.invariant-loop-b
invariant-loop-b l = Midway l.file l.initial.buffer l.buffer l.next l.walk

abbrev pub decreases-loop-b : goal.decreases-loop-b
decreases-loop-b l = l.walk.left
