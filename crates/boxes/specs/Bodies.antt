-- The bodies of containers, as the calls are given them.
use Rattle.std.specs.Prelude.{ℕ, List}
use Rattle.boxes.specs.Answer.{Answer}
use Rattle.boxes.specs.Framing.{Box, boxes_in}
use Rattle.boxes.specs.declared.body.Body.{Body}
use Rattle.boxes.specs.declared.framing.Framed.{Framed}
use Rattle.boxes.specs.declared.kinds.Container.{Container}

-- the boxes of a container, or the number of its first fault
abbrev pub boxes_of : List ℕ → Body → Answer (List Box)
boxes_of s body = boxes_in body.container s body.start.0 body.end.0

-- where the boxes stand of a box that is such a container
abbrev pub body_of : Container → Framed → Body
body_of container b = record { container = container; start = b.body; end = b.end }
