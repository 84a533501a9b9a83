-- `boxlisting::bytes::put_hex` meets its contract: two digits hold a byte.
use mathlib.Core.Path.{◌∙◌}
use native.Mathlib.Omega.{arith}
use Rattle.boxlisting.proofs.BytesLaws.{hex_two, hex_by}
use Rattle.texts.proofs.TextLaws.{piece_same, piece_puts}
use Rattle.boxlisting.proofs.bytes.put_hex.Goals as goal

pub returns : goal.returns
returns c =
    let said = c.hex-count.ensures in
    let piece = c.put_text.ensures in
    let two = hex_two _ _ (omega arith) said.len in
    (piece_puts (omega (arith, piece.end, said.in_bounds, two)) (piece_same (said.digits ∙ hex_by _ _ (omega arith) said.len) piece), omega (arith, piece.end, said.in_bounds, two))
