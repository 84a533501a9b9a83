-- `printing::marks::kept` meets its contract: it counts no more than it has passed, nor than there are.
use Rattle.std.proofs.Common.{◌-◌, ◌≤◌, length}
use Rattle.printing.proofs.marks.kept.Given as goal

abbrev pub invariant-loop-i : goal.invariant-loop-i
invariant-loop-i g l = (l.n ≤ l.i - l.from) × (l.n ≤ length l.lent - l.from)
