-- `boxes::framing::sized_at` meets its contract: each test is one of the definition's.
use mathlib.Core.Path.{sym}
use native.Mathlib.Omega.{arith}
use Rattle.boxes.specs.Framing.{box_of}
use Rattle.numerals.proofs.NumberLaws.{number_below}
use Rattle.boxes.proofs.HeaderLaws.{user_most, sized_under, sized_past, sized-fits}
use Rattle.boxes.proofs.framing.sized_at.Goals as goal

pub overflow_cast-code : goal.overflow_cast-code
overflow_cast-code c =
    record { fits = rw c.unsigned-code.ensures (number_below _ _ 4 (λ k. (c.type_inv.s k).fits)) }

pub overflow_add-front : goal.overflow_add-front
overflow_add-front c = rw c.user_size.ensures (omega (arith, user_most c.unsigned-code.result))

pub returns-then-size-front : goal.returns-then-size-front
returns-then-size-front c =
    sym (sized_under _ _ _ _ _ c.unsigned-code.ensures (omega (arith, c.user_size.ensures)) c.if-size-front.true)

pub returns-then-saturating_sub-size : goal.returns-then-saturating_sub-size
returns-then-saturating_sub-size c =
    sym (sized_past _ _ _ _ _ c.unsigned-code.ensures (omega (arith, c.user_size.ensures)) c.if-size-front.false (omega arith))

pub returns : goal.returns
unfolding box_of
returns c =
    sym (sized-fits _ _ _ _ _ c.unsigned-code.ensures (omega (arith, c.user_size.ensures)) (omega arith) (omega arith))
