-- `salvaging::calls::put_told` meets its contract: what was told decides the text.
use mathlib.Core.Path.{sym}
use native.Mathlib.Omega.{arith}
use lib.Seq.{length-take-le}
use Rattle.filling.proofs.PutsLaws.{puts_same}
use Rattle.texts.proofs.TextLaws.{piece_puts}
use Rattle.salvaging.proofs.CallsLaws.{text_refused, lined}
use Rattle.salvaging.proofs.calls.put_told.Goals as goal

pub slice_bounds-put_lines-end : goal.slice_bounds-put_lines-end
slice_bounds-put_lines-end c =
    let (most, tells) = c.requires in
    sym (length-take-le _ _ (lined _ _ _ tells c.in-Ok.is).inside)

pub returns-in-Err : goal.returns-in-Err
returns-in-Err c most tells =
    let (piece, few) = rw c.number.ensures at c.put_refused.ensures in
    puts_same (text_refused _ _ _ tells c.in-Err.is) (piece_puts (omega arith) piece)

pub returns-in-Ok : goal.returns-in-Ok
returns-in-Ok c most tells =
    let l = lined _ _ _ tells c.in-Ok.is in
    puts_same l.text (c.put_lines.ensures l.head l.sound l.fates)
