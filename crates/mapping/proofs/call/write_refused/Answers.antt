-- `mapping::call::write_refused` meets its contract: the line is one piece, which is put whole or not at all.
use mathlib.Core.Path.{ap}
use native.Mathlib.Omega.{arith}
use Rattle.partial.specs.Map.{refused_line}
use Rattle.texts.proofs.TextLaws.{piece_same, piece_puts}
use Rattle.texts.proofs.WritesLaws.{writes_given}
use Rattle.mapping.proofs.OutlineLaws.{piece_short}
use Rattle.mapping.proofs.call.write_refused.Goals as goal

pub returns-then-buffer-line : goal.returns-then-buffer-line
returns-then-buffer-line c =
    let piece = piece_same (ap refused_line c.number.ensures) c.put_refused-line.ensures.0 in
    piece_short piece (omega (arith, piece.end))

pub returns : goal.returns
returns c =
    let piece = piece_same (ap refused_line c.number.ensures) c.put_refused-line.ensures.0 in
    writes_given _ _ (omega (arith, piece.end)) (omega (arith, piece.end)) (piece_puts (omega (arith, c.put_refused-line.ensures.1)) piece)
