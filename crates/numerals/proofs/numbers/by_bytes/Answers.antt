-- `numerals::numbers::by_bytes` meets its contract. The loop's invariant: the number of the bytes passed, which is
-- below that power of 256.
use borrow.Author.Rules.{rules}
use native.Mathlib.Omega.{arith}
use mir.Syntax.{w8}
use mir.Val.{Fits}
use Rattle.numerals.specs.Numbers.{number}
use Rattle.numerals.proofs.NumberLaws.{number_more, more_below, room}
use Rattle.numerals.proofs.numbers.by_bytes.Goals as goal

pub loop-i-init : goal.loop-i-init
unfolding number
loop-i-init c = search rules

pub overflow_mul-n : goal.overflow_mul-n
overflow_mul-n c = omega (arith, room _ 0 _ c.loop-i.invariant.1 (omega arith) (omega arith))

pub overflow_add-n : goal.overflow_add-n
overflow_add-n c =
    let byte : Fits w8 c.byte_after.result = search rules in
    record { fits = omega (arith, room _ _ _ c.loop-i.invariant.1 byte.fits (omega arith)) }

pub loop-i-preserved : goal.loop-i-preserved
loop-i-preserved c =
    let byte : Fits w8 c.byte_after.result = search rules in
    let same = c.from.ensures in
    (rw (number_more, ← c.byte_after.ensures, ← c.loop-i.invariant.0, same), rw same (more_below _ _ _ c.loop-i.invariant.1 byte.fits))
