-- `salvaging::places::places_of` meets its contract. The loop's invariant: the boxes so far have their places.
use Prim.Native.Nat.{◌+◌, ◌≤◌}
use Rattle.partial.specs.Heading.{Heading}
use Rattle.salvaging.specs.Tables.{FatesHeld, Sound}
use Rattle.salvaging.proofs.CountingLaws.{Counting}
use Rattle.salvaging.proofs.TableLaws.{Placing}
use Rattle.salvaging.proofs.places.places_of.Given as goal

abbrev pub invariant-loop-b : goal.invariant-loop-b
invariant-loop-b l = (l.k + l.walk.left ≤ 512)
    × ((h : Heading) (sound : Sound l.file h) → FatesHeld l.file h l.fates → Counting l.file h.boxes l.walk l.k × Placing l.file h sound l.places l.size l.k)

abbrev pub decreases-loop-b : goal.decreases-loop-b
decreases-loop-b l = l.walk.left
