-- `salvaging::lines::put_line` meets its contract.
use Rattle.std.specs.Prelude.{Some}
use mathlib.Core.Path.{sym, ap, ◌∙◌}
use native.Mathlib.Omega.{arith}
use Rattle.filling.proofs.RowLaws.{put_none}
use Rattle.filling.proofs.PutsLaws.{puts_same}
use Rattle.texts.proofs.TextLaws.{piece_puts}
use Rattle.rescue.specs.Table.{code_told}
use Rattle.salvaging.proofs.LinesLaws.{line_none, line_one}
use Rattle.salvaging.proofs.lines.put_line.Goals as goal

pub returns-in-Stays : goal.returns-in-Stays
returns-in-Stays c =
    (λ x here coded low. puts_same (line_none x coded (ap code_told c.in-Stays.is)) (record { put = put_none _ _; end = omega arith }), omega arith)

pub returns-in-Dropped : goal.returns-in-Dropped
returns-in-Dropped c =
    let (piece, few) = c.put_fault.ensures in
    (λ x here coded low. puts_same (line_one x coded _ here (ap code_told c.in-Dropped.is ∙ ap Some (sym c.number_of.ensures))) (piece_puts (omega (arith, few, low)) piece), few)
