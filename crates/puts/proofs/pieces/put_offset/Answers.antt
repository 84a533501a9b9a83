-- `puts::pieces::put_offset` meets its contract: what the width says is how far an offset goes.
use mathlib.Core.Path.{◌∙◌}
use Rattle.numerals.proofs.NumberLaws.{length-bytes_of}
use Rattle.puts.proofs.pieces.put_offset.Goals as goal

pub returns : goal.returns
returns c =
    let number = c.put_offset.ensures in
    record { left = number.left; end = c.saturating_add.ensures ∙ rw (c.within.ensures, length-bytes_of) }
