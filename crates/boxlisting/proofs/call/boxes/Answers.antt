-- `boxlisting::call::boxes` meets its contract: the text is counted in a buffer without room, then put.
use native.Mathlib.Omega.{arith}
use Rattle.texts.proofs.WritesLaws.{writes_short, writes_given}
use Rattle.boxlisting.proofs.call.boxes.Goals as goal

pub returns-then-buffer-size : goal.returns-then-buffer-size
returns-then-buffer-size c = writes_short _ _ (omega (arith, c.put_list-size.ensures.end))

pub returns : goal.returns
returns c =
    let size = c.put_list-size.ensures.end in
    writes_given _ _ (omega (arith, size)) (omega (arith, size)) c.put_list.ensures
