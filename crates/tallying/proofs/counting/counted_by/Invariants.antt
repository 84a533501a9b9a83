-- `tallying::counting::counted_by` meets its contract. The loop's invariant: the rows passed have counted the box, and
-- the others have not.
use Rattle.boxes.specs.Kinds.{rules}
use Rattle.tallying.specs.Rules.{CountedBy}
use Rattle.tallying.proofs.counting.counted_by.Given as goal

abbrev pub invariant-loop-i : goal.invariant-loop-i
invariant-loop-i l = CountedBy rules l.kind.code l.from l.i l.initial.after l.after
