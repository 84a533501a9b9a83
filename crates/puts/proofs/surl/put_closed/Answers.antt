-- `puts::surl::put_closed` meets its contract: the zero byte is a number of one byte.
use native.Mathlib.Omega.{arith}
use Rattle.numerals.proofs.WidthLaws.{below_holds}
use Rattle.puts.proofs.PieceLaws.{piece_put, number_put, pieces_same, pieces_more}
use Rattle.puts.proofs.SurlLaws.{closing}
use Rattle.puts.proofs.surl.put_closed.Goals as goal

pub returns : goal.returns
returns c =
    let zero = number_put 1 0 (omega arith) (below_holds 1 0 (omega arith)) c.put_field.ensures in
    pieces_more (piece_put c.put_bytes-end.ensures) (pieces_same closing zero)
