-- `numerals::numbers::put_number` meets its contract: the tests are those for what the width holds and for room, as a
-- number has as many bytes as its width.
use native.Mathlib.Omega.{arith}
use Rattle.numerals.proofs.NumberLaws.{length-bytes_of}
use Rattle.numerals.proofs.StoredLaws.{stores_held, stores_unheld, stores_crowded}
use Rattle.numerals.proofs.WidthLaws.{holds_up_to, holds_none_above}
use Rattle.numerals.proofs.numbers.put_number.Goals as goal

pub returns-then-largest-n : goal.returns-then-largest-n
returns-then-largest-n c =
    rw (← c.within-w.ensures) (stores_unheld _ _ _ _ (holds_none_above _ _ _ c.largest.ensures c.if-largest-n.true))

pub returns-then-buf-from : goal.returns-then-buf-from
returns-then-buf-from c = stores_crowded _ _ _ _ (rw length-bytes_of (omega arith))

pub returns : goal.returns
returns c =
    let held = holds_up_to _ _ _ c.largest.ensures c.if-largest-n.false in
    rw (← c.within-w.ensures) (stores_held _ _ _ _ _ held (rw length-bytes_of (omega arith)) c.store.ensures)
