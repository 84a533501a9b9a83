-- `numerals::numbers::width_of` meets its contract. The loop's invariant: no width passed holds the number.
use Prim.Native.Nat.{◌≤◌}
use mathlib.Core.Path.{◌≡◌}
use native.Mathlib.Omega.{arith}
use borrow.Author.Count.{below_none, below_more}
use Rattle.numerals.specs.Numbers.{holds}
use Rattle.numerals.proofs.WidthLaws.{least_width-is, holds_up_to, holds_none_above}
use Rattle.numerals.proofs.numbers.width_of.Goals as goal

pub loop-w-init : goal.loop-w-init
loop-w-init c = below_none _

pub returns-then-n-largest : goal.returns-then-n-largest
returns-then-n-largest c =
    let low : c.args.n ≤ c.largest.result = omega arith in
    least_width-is (λ w. holds w c.args.n) c.loop-w.w (omega arith)
    c.loop-w.invariant (λ h. holds_up_to _ _ _ c.largest.ensures low)

pub loop-w-preserved : goal.loop-w-preserved
loop-w-preserved c =
    below_more _ _ c.loop-w.invariant (holds_none_above _ _ _ c.largest.ensures c.if-n-largest.false)

pub returns : goal.returns
returns c =
    let all : c.loop-w.w ≡ 8 = omega arith in
    least_width-is (λ w. holds w c.args.n) 8 (omega arith) (rw all at c.loop-w.invariant) (λ h. absurd (omega arith))
