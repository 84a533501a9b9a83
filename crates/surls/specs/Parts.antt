-- What a part that was found says, and a box that lies in the file.
use Rattle.std.specs.Prelude.{ℕ, ◌≤◌}
use Rattle.boxes.specs.declared.framing.Framed.{Framed}
use Rattle.partial.specs.Heading.{Part}
use Rattle.surls.specs.declared.part.Part as Stated

abbrev pub part_of : Stated.Part → Part
part_of p = record { place = p.place.0; size = p.size }

-- a box that was read lies before an end
pub record Within (end : ℕ) (b : Framed) : Type 0 where
  pub whole : b.body.0 ≤ b.end.0
  pub ends : b.end.0 ≤ end
