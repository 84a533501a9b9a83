-- `printing::lines::rows` keeps to its table: what is left of it is no longer.
use Rattle.std.proofs.Common.{◌≤◌, length}
use Rattle.printing.proofs.lines.rows.Given as goal

abbrev pub invariant-loop : goal.invariant-loop
invariant-loop g l = length l.left ≤ length l.table
