-- `boxlisting::bytes::put_shown` meets its contract: as it is, or `\x` and its digits.
use mathlib.Core.Path.{sym, ◌∙◌}
use native.Mathlib.Omega.{arith}
use Rattle.filling.proofs.PutsLaws.{puts_same, puts_more}
use Rattle.texts.proofs.TextLaws.{piece_puts}
use Rattle.boxlisting.proofs.BytesLaws.{shown_plain, shown_coded}
use Rattle.boxlisting.proofs.bytes.put_shown.Goals as goal

pub returns-then-prints : goal.returns-then-prints
returns-then-prints c =
    let piece = c.put_text.ensures in
    (puts_same (shown_plain _ (sym c.if-prints.true ∙ c.prints.ensures)) (piece_puts (omega (arith, piece.end)) piece), omega (arith, piece.end))

pub returns : goal.returns
returns c =
    let piece = c.put_text-digits.ensures in
    let (puts, low) = c.put_hex.ensures in
    (puts_same (shown_coded _ (sym c.if-prints.false ∙ c.prints.ensures)) (puts_more (piece_puts (omega (arith, piece.end)) piece) puts), omega (arith, piece.end))
