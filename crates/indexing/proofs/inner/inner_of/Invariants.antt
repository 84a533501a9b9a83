-- `indexing::inner::inner_of` meets its contract. The loop's invariant: the boxes that the walk has passed are counted.
use mathlib.Core.List.{List}
use Rattle.boxes.specs.Framing.{Box}
use Rattle.boxes.proofs.WalkLaws.{Passed}
use Rattle.indexing.specs.Inner.{InnerCounted}
use Rattle.indexing.proofs.inner.inner_of.Given as goal

abbrev pub invariant-loop-b : goal.invariant-loop-b
invariant-loop-b l = (bs : List Box) × Passed l.file l.initial.walk bs l.walk × InnerCounted bs l.counts

abbrev pub decreases-loop-b : goal.decreases-loop-b
decreases-loop-b l = l.walk.left
