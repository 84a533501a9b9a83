-- `numerals::numbers::complement` meets its contract, in each arm by what the offset is; none back has the bytes of 0.
use native.Mathlib.Omega.{arith}
use Rattle.numerals.specs.Numbers.{twos_complement}
use Rattle.numerals.proofs.NumberLaws.{power_pos}
use Rattle.numerals.proofs.OffsetLaws.{twos_complement-back, twos_complement_none}
use Rattle.numerals.proofs.WidthLaws.{below_holds, holds_up_to, ahead_below, back-within}
use Rattle.numerals.proofs.numbers.complement.Goals as goal

pub returns-then-n-eq0 : goal.returns-then-n-eq0
returns-then-n-eq0 c =
    (below_holds _ 0 (power_pos _), rw (c.in-Back.is, c.if-n-eq0.true) (twos_complement_none _))

pub overflow_sub-result : goal.overflow_sub-result
overflow_sub-result c = omega (arith, back-within c.args.w c.in-Back.n (rw c.in-Back.is at c.requires.1))

pub returns-in-Ahead : goal.returns-in-Ahead
unfolding twos_complement
returns-in-Ahead c =
    (below_holds c.args.w c.in-Ahead.n (omega (arith, ahead_below c.args.w c.in-Ahead.n (rw c.in-Ahead.is at c.requires.1))), rw c.in-Ahead.is)

pub returns-else-n-eq0 : goal.returns-else-n-eq0
returns-else-n-eq0 c =
    (holds_up_to _ _ _ c.largest.ensures (omega (arith, overflow_sub-result c)), rw (c.in-Back.is, twos_complement-back _ _ _ c.largest.ensures (overflow_sub-result c)))
