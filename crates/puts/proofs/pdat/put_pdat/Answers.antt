-- `puts::pdat::put_pdat` meets its contract: the header, then the data that goes there.
use mathlib.Core.Path.{sym, ap}
use native.Mathlib.Omega.{arith}
use lib.ListN.{length}
use Rattle.boxes.specs.Kinds.{pdat}
use Rattle.puts.proofs.BoxLaws.{no_part, some_part}
use Rattle.puts.proofs.PieceLaws.{pieces_none, pieces_same, pieces_box}
use Rattle.puts.proofs.pdat.put_pdat.Goals as goal

pub returns-then-not-there : goal.returns-then-not-there
returns-then-not-there c size small =
    let args = c.args in
    pieces_same (sym (no_part args.outside args.there args.list.now args.bytes.now c.if-not-there.true)) (pieces_none _ _)

pub returns : goal.returns
returns c size small =
    let args = c.args in
    let part = some_part args.outside args.there args.list.now args.bytes.now c.if-not-there.false in
    pieces_same (sym part)
    (pieces_box pdat.code (omega (arith, ap length part)) c.put_front-body.ensures size c.put_chosen.ensures)
