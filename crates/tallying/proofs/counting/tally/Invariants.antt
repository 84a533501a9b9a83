-- `tallying::counting::tally` meets its contract. The loop's invariant: the walk has passed as many boxes, and of each
-- kind as many, as were counted.
use mathlib.Core.List.{List}
use mathlib.Core.Path.{◌≡◌}
use lib.ListN.{length}
use Rattle.boxes.specs.Framing.{Box}
use Rattle.boxes.proofs.WalkLaws.{Passed}
use Rattle.tallying.specs.Rules.{counts_of}
use Rattle.tallying.proofs.counting.tally.Given as goal

abbrev pub invariant-loop-b : goal.invariant-loop-b
invariant-loop-b l = (bs : List Box) × Passed l.s l.initial.walk bs l.walk × (l.boxes ≡ length bs) × (l.counts ≡ counts_of bs)

abbrev pub decreases-loop-b : goal.decreases-loop-b
decreases-loop-b l = l.walk.left
