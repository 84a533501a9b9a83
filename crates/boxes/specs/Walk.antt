-- Document 01, "Per box: 6, 2, 3, 2 for the large size, 4, 5": one step of the walk over a container, and what a walk's
-- answers say.
use Rattle.std.specs.Prelude.{ℕ, ◌-◌, true, false, List, leb, Option, None, Some, Result}
use Rattle.boxes.specs.Answer.{Answer, given, ◌>>=◌, hold, told_as}
use Rattle.boxes.specs.Framing.{Box, header, box_limit, box_of}
use Rattle.boxes.specs.declared.kinds.Container.{Container}
use Rattle.numerals.specs.declared.place.Place.{Place}
use Rattle.boxes.specs.declared.walk.Walk.{Walk}
use Rattle.boxes.specs.declared.framing.Framed.{Framed}
use Rattle.refusals.specs.declared.Refusal.{Refusal}

-- the walk over a container that starts and ends at these places
abbrev pub walk_over : Container → Place → Place → Walk
walk_over c start end = record { container = c; at = start; end = end; left = box_limit }

-- what a walk meets next: nothing at the container's end, else a box, after which it goes on at the box's end with one
-- box fewer allowed
unfoldable pub stepped : List ℕ → Walk → Answer (Option (Box × Walk))
stepped s w =
    elim (leb w.end.0 w.at.0) [
      | true ↦ given None
      | false ↦ do
        _ ← hold 6 (leb 1 w.left)
        b ← header w.container s w.at.0 w.end.0
        given (Some (b, record { container = w.container; at = record { 0 = b.end }; end = w.end; left = w.left - 1 }))
    ]

-- what a box that was met says, with the walk after it, or that none was
abbrev pub met_of : Option (Framed × Walk) → Option (Box × Walk)
met_of None = None
met_of (Some (b, w)) = Some (box_of b, w)

-- what an answer about a step says
abbrev pub step_answer : Result (Option (Framed × Walk)) Refusal → Answer (Option (Box × Walk))
step_answer = told_as met_of
