-- `numerals::numbers::signed` meets its contract: the number is one of its width, so the largest of that width is not
-- below it.
use Prim.Native.Nat.{ℕ, ◌^◌, ◌/◌, ◌≤◌, min}
use mathlib.Core.Path.{◌≡◌}
use borrow.Author.Rules.{rules}
use native.Mathlib.Omega.{arith}
use Rattle.numerals.proofs.NumberLaws.{number_below}
use Rattle.numerals.proofs.OffsetLaws.{signed-ahead, signed_back}
use Rattle.numerals.proofs.numbers.signed.Goals as goal

below : (c : goal.Else-n-top) → c.unsigned-n.result ≤ c.largest-top.result
below c =
    let w : ℕ = min c.args.width 8 in
    let power : 256 ^ c.within.result ≡ 256 ^ w = rw c.within.ensures in
    omega (
      arith,
      number_below c.args.s.now c.args.at.0 w
          (search rules),
    )

pub overflow_sub-result : goal.overflow_sub-result
overflow_sub-result c = below c

pub returns-then-n-top : goal.returns-then-n-top
returns-then-n-top c =
    let low : c.unsigned-n.result ≤ c.largest-top.result / 2 = omega arith in
    rw (← c.unsigned-n.ensures, ← c.within.ensures)
    (signed-ahead _ _ _ c.largest-top.ensures low)

pub returns-else-n-top : goal.returns-else-n-top
returns-else-n-top c =
    rw (← c.unsigned-n.ensures, ← c.within.ensures)
    (signed_back _ _ _ c.largest-top.ensures c.if-n-top.false (below c))
