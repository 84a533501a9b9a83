-- `boxlisting::call::put_list` meets its contract: 27, then 1, then the lines.
use mathlib.Core.Path.{sym, ap}
use native.Mathlib.Omega.{arith}
use Rattle.filling.proofs.PutsLaws.{puts_same}
use Rattle.partial.specs.Map.{refused_line}
use Rattle.partial.proofs.Reading.BoxListLaws.{boxes_printed, text-lines}
use Rattle.texts.proofs.TextLaws.{piece_puts, piece_same}
use Rattle.boxlisting.proofs.call.put_list.Goals as goal

pub returns-then-most-size : goal.returns-then-most-size
returns-then-most-size c =
    let (piece, few) = c.put_refused.ensures in
    puts_same (sym ((boxes_printed _ _).over_long (omega arith))) (piece_puts (omega arith) (piece_same (ap refused_line c.number.ensures) piece))

pub returns-then-size-gt-FILE_LIMIT : goal.returns-then-size-gt-FILE_LIMIT
returns-then-size-gt-FILE_LIMIT c =
    let (piece, few) = c.put_refused-then-size-gt-FILE_LIMIT.ensures in
    puts_same (sym ((boxes_printed _ _).over_limit (omega arith) (omega arith))) (piece_puts (omega arith) (piece_same (ap refused_line c.number-then-size-gt-FILE_LIMIT.ensures) piece))

pub returns : goal.returns
returns c = puts_same (sym (text-lines _ _ (omega arith) (omega arith))) c.put_boxes.ensures
