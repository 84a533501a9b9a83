-- `sweeping::ranges::had_to` meets its contract. The loop's invariant: the positions up to here are had.
use lib.ListN.{length}
use Rattle.sweeping.proofs.RangeLaws.{Reached}
use Rattle.sweeping.proofs.ranges.had_to.Given as goal

abbrev pub invariant-loop-k : goal.invariant-loop-k
invariant-loop-k l = Reached l.spans (length l.spans) l.passed l.initial.to l.to l.k
