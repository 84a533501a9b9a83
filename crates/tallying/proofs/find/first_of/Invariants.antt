-- `tallying::find::first_of` meets its contract. The loop's invariant: the first of the kind is among the boxes that
-- are left.
use Rattle.boxes.specs.Kinds.{those}
use Rattle.tallying.specs.Found.{first_in}
use Rattle.tallying.proofs.FoundLaws.{Asked}
use Rattle.tallying.proofs.find.first_of.Given as goal

abbrev pub invariant-loop-b : goal.invariant-loop-b
invariant-loop-b l = Asked l.file (λ bs. first_in (those l.kind bs)) l.initial.walk (λ bs. first_in (those l.kind bs)) l.walk

abbrev pub decreases-loop-b : goal.decreases-loop-b
decreases-loop-b l = l.walk.left
