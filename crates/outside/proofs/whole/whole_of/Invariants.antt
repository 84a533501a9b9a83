-- `outside::whole::whole_of` meets its contract. The loop's invariant: the walk has passed as many boxes as were
-- counted, all of them allowed.
use mathlib.Core.Bool.{true}
use mathlib.Core.List.{List}
use mathlib.Core.Path.{◌≡◌}
use lib.ListN.{length}
use Rattle.boxes.specs.Framing.{Box}
use Rattle.boxes.proofs.WalkLaws.{Passed}
use Rattle.partial.specs.Mixed.{allowed}
use Rattle.partial.specs.Sequences.{all_of}
use Rattle.outside.proofs.whole.whole_of.Given as goal

abbrev pub invariant-loop-b : goal.invariant-loop-b
invariant-loop-b l = (bs : List Box) × Passed l.bytes l.initial.walk bs l.walk × (l.boxes ≡ length bs) × (all_of allowed bs ≡ true)

abbrev pub decreases-loop-b : goal.decreases-loop-b
decreases-loop-b l = l.walk.left
