-- `puts::pieces::put_front` meets its contract: a header has eight bytes.
use mathlib.Core.Path.{◌∙◌}
use Rattle.boxes.proofs.BoxedLaws.{front-size, length_front}
use Rattle.puts.proofs.pieces.put_front.Goals as goal

pub returns : goal.returns
returns c =
    let front = c.put_header.ensures in
    record { left = front.left; end = c.saturating_add.ensures ∙ rw (length_front, front-size) }
