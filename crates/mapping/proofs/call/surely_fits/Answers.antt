-- `mapping::call::surely_fits` meets its contract.
use Prim.Native.Nat.{◌+◌, ◌*◌, ◌/◌}
use native.Mathlib.Nat.{mul-le-mul_right}
use native.Mathlib.Omega.{arith}
use borrow.Author.Tests.{leb-true}
use Rattle.mapping.proofs.call.surely_fits.Goals as goal

pub overflow_mul-result : goal.overflow_mul-result
overflow_mul-result c = omega (arith, mul-le-mul_right (c.args.ranges + 3) c.requires.0)

pub returns : goal.returns
returns c =
    λ most.
    let args = c.args in
    omega (arith, leb-true (args.many * (args.ranges + 3)) (args.room / 50) most)
