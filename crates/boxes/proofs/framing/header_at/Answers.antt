-- `boxes::framing::header_at` meets its contract: each test is one of the definition's.
use mathlib.Core.Path.{sym, ◌∙◌}
use native.Mathlib.Omega.{arith}
use Rattle.boxes.proofs.HeaderLaws.{header-cut, header_zero, header-large, header_short}
use Rattle.boxes.proofs.framing.header_at.Goals as goal

pub returns-then-saturating_sub-lt-FRONT_SIZE : goal.returns-then-saturating_sub-lt-FRONT_SIZE
returns-then-saturating_sub-lt-FRONT_SIZE c = sym (header-cut _ _ _ _ (omega arith))

pub returns-then-size-eq0 : goal.returns-then-size-eq0
returns-then-size-eq0 c = sym (header_zero _ _ _ _ (omega arith) c.unsigned-size.ensures c.if-size-eq0.true)

pub returns-then-size-eq1 : goal.returns-then-size-eq1
returns-then-size-eq1 c =
    c.large_at.ensures ∙ sym (header-large _ _ _ _ (omega arith) c.unsigned-size.ensures c.if-size-eq1.true)

pub returns : goal.returns
returns c =
    c.sized_at.ensures
    ∙ sym (header_short _ _ _ _ (omega arith) c.unsigned-size.ensures c.if-size-eq0.false c.if-size-eq1.false)
