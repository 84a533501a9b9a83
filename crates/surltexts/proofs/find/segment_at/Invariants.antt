-- `surltexts::find::segment_at` meets its contract. The loop's invariant: the box of the number is among those that are
-- left, behind so many fewer of its kind.
use Rattle.tallying.proofs.FoundLaws.{Asked}
use Rattle.surltexts.proofs.FindLaws.{pseg_at}
use Rattle.surltexts.proofs.find.segment_at.Given as goal

abbrev pub invariant-loop-b : goal.invariant-loop-b
invariant-loop-b l = Asked l.file (pseg_at l.number) l.initial.walk (pseg_at l.before) l.walk

abbrev pub decreases-loop-b : goal.decreases-loop-b
decreases-loop-b l = l.walk.left
