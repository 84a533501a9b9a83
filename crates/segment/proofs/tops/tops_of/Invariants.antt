-- `segment::tops::tops_of` meets its contract. The loop's invariant: the places of the boxes passed stand in the table.
use Prim.Native.Nat.{◌^◌, ◌<◌}
use mathlib.Core.List.{List, []}
use mathlib.Core.Path.{◌≡◌}
use lib.ListN.{length}
use Rattle.boxes.specs.Framing.{Box}
use Rattle.boxes.proofs.WalkLaws.{Passed}
use Rattle.segment.specs.Tops.{Tops}
use Rattle.segment.proofs.tops.tops_of.Given as goal

abbrev pub invariant-loop-top : goal.invariant-loop-top
invariant-loop-top l = (bs : List Box) × Passed l.s l.initial.walk bs l.walk × (length bs ≡ l.top-index) × (length l.s < 2 ^ 32 → Tops [] l.initial.tops → Tops bs l.tops)
