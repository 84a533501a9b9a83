-- `salvaging::lines::put_dropped` meets its contract. The loop's invariant: the boxes so far have their lines.
use Prim.Native.Nat.{◌+◌, ◌*◌, ◌≤◌}
use mathlib.Core.Path.{◌≡◌}
use lib.ListN.{length, take}
use Rattle.filling.specs.Rows.{Puts}
use Rattle.partial.specs.BoxList.{each}
use Rattle.partial.specs.Heading.{Heading}
use Rattle.rescue.specs.Lines.{dropped_line}
use Rattle.salvaging.specs.Tables.{fates_in, FatesHeld, Sound}
use Rattle.salvaging.proofs.CountingLaws.{Counting}
use Rattle.salvaging.proofs.lines.put_dropped.Given as goal

abbrev pub invariant-loop-b : goal.invariant-loop-b
invariant-loop-b l = (length l.buffer ≡ length l.initial.buffer)
    × (l.k + l.walk.left ≤ 512)
    × (l.at ≤ 42 * l.k)
    × ((h : Heading) → Sound l.file h → FatesHeld l.file h l.fates
    → Counting l.file h.boxes l.walk l.k × Puts l.initial.buffer 0 (each dropped_line (take l.k (fates_in l.file h))) l.buffer l.at)

abbrev pub decreases-loop-b : goal.decreases-loop-b
decreases-loop-b l = l.walk.left
