-- `salvaging::places::inner_size` meets its contract. The loop's invariant: the boxes passed have so many bytes, and no
-- sum of them is past their end.
use Rattle.salvaging.proofs.TableLaws.{Summed}
use Rattle.salvaging.proofs.places.inner_size.Given as goal

abbrev pub invariant-loop-b : goal.invariant-loop-b
invariant-loop-b l = Summed l.file l.initial.walk l.walk l.size

abbrev pub decreases-loop-b : goal.decreases-loop-b
decreases-loop-b l = l.walk.left
