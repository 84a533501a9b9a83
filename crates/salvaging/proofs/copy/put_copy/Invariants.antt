-- `salvaging::copy::put_copy` meets its contract. The loop's invariant: the boxes so far are put, each at its new place.
use Prim.Native.Nat.{◌+◌, ◌≤◌}
use mathlib.Core.Path.{◌≡◌}
use lib.ListN.{length}
use Rattle.partial.specs.Heading.{Heading}
use Rattle.salvaging.specs.Tables.{FatesHeld, Moving}
use Rattle.salvaging.proofs.CopyingLaws.{Copying}
use Rattle.salvaging.proofs.CountingLaws.{Counting}
use Rattle.salvaging.proofs.copy.put_copy.Given as goal

abbrev pub invariant-loop-b : goal.invariant-loop-b
invariant-loop-b l = (length l.buffer ≡ length l.initial.buffer)
    × (l.k + l.walk.left ≤ 512)
    × (l.walk.end.0 ≤ length l.file)
    × ((h : Heading) → (moving : Moving l.file h l.moves) → FatesHeld l.file h l.fates
    → Counting l.file h.boxes l.walk l.k × Copying l.file h moving.sound l.initial.buffer l.k l.buffer l.end.0)

abbrev pub decreases-loop-b : goal.decreases-loop-b
decreases-loop-b l = l.walk.left
