-- Each public call's contract determines its answer: two that it allows of the same arguments are equal.
use mathlib.Core.Path.{sym, ◌∙◌}
use Rattle.numerals.proofs.Determined.{OneLeft}
use Rattle.filling.proofs.rows.put_row.Reads as put-row

put_row_table : OneLeft put-row.Post (λ κs after. after.0.now)
put_row_table κs args x y after after' p q = p ∙ sym q
