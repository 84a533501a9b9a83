-- `salvaging::calls::salvage_lines` meets its contract: the text is counted in a buffer without room, then put.
use native.Mathlib.Omega.{arith}
use Rattle.texts.proofs.WritesLaws.{writes_short, writes_given}
use Rattle.salvaging.proofs.calls.salvage_lines.Goals as goal

pub returns-then-buffer-size : goal.returns-then-buffer-size
returns-then-buffer-size c = writes_short _ _ (omega (arith, (c.put_told-size.ensures _ c.tell-told.ensures).end))

pub returns : goal.returns
returns c =
    let tells = c.tell-told.ensures in
    let size = (c.put_told-size.ensures _ tells).end in
    writes_given _ _ (omega (arith, size)) (omega (arith, size)) (c.put_told.ensures _ tells)
