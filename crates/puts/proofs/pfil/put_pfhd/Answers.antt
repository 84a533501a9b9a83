-- `puts::pfil::put_pfhd` meets its contract: the header, then one number.
use mathlib.Core.Path.{sym}
use native.Mathlib.Omega.{arith}
use Rattle.boxes.specs.Kinds.{pfhd}
use Rattle.numerals.proofs.NumberLaws.{length-bytes_of}
use Rattle.numerals.proofs.WidthLaws.{below_holds}
use Rattle.puts.proofs.BoxLaws.{pfhd_long}
use Rattle.puts.proofs.PieceLaws.{number_put, pieces_box}
use Rattle.puts.proofs.pfil.put_pfhd.Goals as goal

pub returns : goal.returns
returns c =
    pieces_box pfhd.code (omega (arith, pfhd_long)) c.put_front-body.ensures (sym (length-bytes_of 4 0))
    (number_put 4 0 (omega arith) (below_holds 4 0 (omega arith)) c.put_field.ensures)
