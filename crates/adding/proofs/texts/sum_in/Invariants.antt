-- `adding::texts::sum_in` meets its contract. The loop's invariant: with the lengths that are left, the sum is that of
-- all.
use Prim.Native.Nat.{◌+◌, ◌-◌, ◌^◌, ◌≤◌, min}
use mathlib.Core.Path.{◌≡◌}
use lib.ListN.{drop}
use Rattle.partial.specs.Sequences.{sum}
use Rattle.adding.proofs.texts.sum_in.Given as goal

abbrev pub invariant-loop-length : goal.invariant-loop-length
invariant-loop-length l = (l.all ≤ 2 ^ 64 - 1) × (min (l.all + sum (drop l.length-index l.lengths)) (2 ^ 64 - 1) ≡ min (sum l.lengths) (2 ^ 64 - 1))
