-- `salvaging::inner::put_same` meets its contract.
use Rattle.boxes.specs.Framing.{box_of}
use Rattle.partial.specs.Heading.{bytes_in}
use Rattle.puts.proofs.PieceLaws.{piece_put}
use Rattle.rescue.specs.Copy.{box_bytes}
use Rattle.salvaging.proofs.inner.put_same.Goals as goal

pub returns : goal.returns
unfolding box_of box_bytes bytes_in
returns c = piece_put c.put_bytes.ensures
