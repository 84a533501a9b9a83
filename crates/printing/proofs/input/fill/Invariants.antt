-- `printing::input::fill` keeps to its space, whose length it does not change, and ends: each read that goes on puts a
-- byte there at least.
use Rattle.std.proofs.Common.{length, ◌-◌, ◌≤◌}
use Rattle.printing.proofs.input.fill.Given as goal

abbrev pub invariant-loop-done : goal.invariant-loop-done
invariant-loop-done g l = l.done ≤ length l.space

abbrev pub decreases-loop-done : goal.decreases-loop-done
decreases-loop-done g l = length l.initial.space - l.done
