-- `texts::puts::put_decimal` meets its contract: the fewest digits that hold a number are its text.
use mathlib.Core.Path.{◌∙◌}
use native.Mathlib.Omega.{arith}
use Rattle.texts.proofs.DecimalLaws.{digits_few, decimal_by}
use Rattle.texts.proofs.TextLaws.{piece_same}
use Rattle.texts.proofs.puts.put_decimal.Goals as goal

pub returns : goal.returns
returns c =
    let said = c.decimal-count.ensures in
    let piece = c.put_text.ensures in
    (piece_same (said.digits ∙ decimal_by _ _ said.len) piece, omega (arith, piece.end, said.in_bounds, digits_few _ _ (omega arith) said.len))
