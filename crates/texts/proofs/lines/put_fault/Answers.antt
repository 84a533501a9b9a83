-- `texts::lines::put_fault` meets its contract: four pieces make the line, which is put as one.
use native.Mathlib.Omega.{arith}
use Rattle.filling.proofs.PutsLaws.{puts_same, puts_more}
use Rattle.texts.proofs.TextLaws.{piece_same, piece_puts, put_front, fault_words}
use Rattle.texts.proofs.lines.put_fault.Goals as goal

pub returns : goal.returns
returns c =
    let (digits, few) = c.put_decimal-tab.ensures in
    let place = piece_puts (omega arith) digits in
    let tab = piece_puts (omega (arith, c.put_text-last.ensures.end)) c.put_text-last.ensures in
    let (digits', few') = c.put_decimal-end.ensures in
    let number = piece_puts (omega (arith, tab.end)) digits' in
    let feed = piece_puts (omega (arith, tab.end, c.put_text-size.ensures.end)) c.put_text-size.ensures in
    let line = puts_same (fault_words _ _) (puts_more place (puts_more tab (puts_more number feed))) in
    let piece = piece_same (put_front line (omega (arith, tab.end, feed.end))) c.put_text.ensures in
    (piece, omega (arith, piece.end, line.end, tab.end, feed.end))
