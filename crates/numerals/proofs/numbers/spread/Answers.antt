-- `numerals::numbers::spread` meets its contract, in each arm by the law of that arm.
use Rattle.numerals.proofs.WidthLaws.{holds-ahead, holds-back}
use Rattle.numerals.proofs.numbers.spread.Goals as goal

pub returns-then-n-eq0 : goal.returns-then-n-eq0
returns-then-n-eq0 c w h = rw (c.in-Back.is, c.if-n-eq0.true) (holds-back w h 0)

pub returns-in-Ahead : goal.returns-in-Ahead
returns-in-Ahead c w h = rw (c.in-Ahead.is, c.min.ensures) (holds-ahead w h _)

pub returns-else-n-eq0 : goal.returns-else-n-eq0
returns-else-n-eq0 c w h = rw (c.in-Back.is, c.min-in-Back.ensures) (holds-back w h _)
