-- `adding::texts::sum_in` meets its contract. The loop's invariant: with the lengths that are left, the sum is that of
-- all.
use Prim.Native.Nat.{◌-◌, ◌^◌}
use mathlib.Core.Path.{◌∙◌}
use native.Mathlib.Omega.{arith}
use Rattle.adding.proofs.TextLaws.{sum_more, sum_done}
use Rattle.adding.proofs.texts.sum_in.Goals as goal

pub loop-length-preserved : goal.loop-length-preserved
loop-length-preserved c =
    let lengths = c.args.lengths.now in
    let met = c.loop-length in
    (omega arith, rw c.saturating_add-all.ensures (sum_more lengths met.length-index met.all (2 ^ 64 - 1) (omega arith) ∙ met.invariant.1))

pub returns : goal.returns
returns c = omega (arith, c.loop-length.invariant.1, sum_done c.args.lengths.now c.loop-length.length-index (omega arith))
