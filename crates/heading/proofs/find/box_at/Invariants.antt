-- `heading::find::box_at` meets its contract. The loop's invariant: the box is as many further on as are left to pass.
use Rattle.std.specs.Prelude.{slice_get}
use Rattle.tallying.proofs.FoundLaws.{Asked}
use Rattle.heading.proofs.find.box_at.Given as goal

abbrev pub invariant-loop-b : goal.invariant-loop-b
invariant-loop-b l = Asked l.file (λ bs. slice_get bs l.n) l.initial.walk (λ bs. slice_get bs l.left) l.walk

abbrev pub decreases-loop-b : goal.decreases-loop-b
decreases-loop-b l = l.walk.left
