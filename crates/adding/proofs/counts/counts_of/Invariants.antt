-- `adding::counts::counts_of` meets its contract. The loop's invariant: the pairs so far are counted.
use Prim.Native.Nat.{◌*◌}
use mathlib.Core.Path.{◌≡◌}
use lib.ListN.{take}
use Rattle.additions.specs.Addition.{items}
use Rattle.adding.specs.Counts.{counts_of}
use Rattle.adding.proofs.counts.counts_of.Given as goal

abbrev pub invariant-loop-i : goal.invariant-loop-i
invariant-loop-i l = l.counts ≡ counts_of (items (take (2 * l.i) l.list))
