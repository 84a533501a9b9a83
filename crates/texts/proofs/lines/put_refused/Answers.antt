-- `texts::lines::put_refused` meets its contract: three pieces make the line, which is put as one.
use native.Mathlib.Omega.{arith}
use Rattle.filling.proofs.PutsLaws.{puts_same, puts_more}
use Rattle.texts.proofs.TextLaws.{piece_same, piece_puts, put_front, refused_words}
use Rattle.texts.proofs.lines.put_refused.Goals as goal

pub returns : goal.returns
returns c =
    let first = c.put_text-number.ensures in
    let word = piece_puts (omega (arith, first.end)) first in
    let (digits, few) = c.put_decimal-end.ensures in
    let number = piece_puts (omega (arith, word.end)) digits in
    let last = c.put_text-size.ensures in
    let feed = piece_puts (omega (arith, word.end, last.end)) last in
    let line = puts_same (refused_words _) (puts_more word (puts_more number feed)) in
    let piece = piece_same (put_front line (omega (arith, word.end, feed.end))) c.put_text.ensures in
    (piece, omega (arith, piece.end, line.end, word.end, feed.end))
