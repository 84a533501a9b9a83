-- `numerals::numbers::holds_offset` meets its contract, in each arm by the law of that arm.
use Rattle.numerals.proofs.WidthLaws.{ahead_half, back_half}
use Rattle.numerals.proofs.numbers.holds_offset.Goals as goal

pub returns-in-Ahead : goal.returns-in-Ahead
returns-in-Ahead c = rw c.in-Ahead.is (ahead_half _ _ _ c.largest-top.ensures)

pub returns-in-Back : goal.returns-in-Back
returns-in-Back c = rw c.in-Back.is (back_half _ _ _ c.largest-top.ensures)
