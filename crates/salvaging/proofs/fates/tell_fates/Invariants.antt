-- `salvaging::fates::tell_fates` meets its contract. The loop's invariant: the fates of the boxes so far are told, and that
-- of each `pseg`.
use Prim.Native.Nat.{◌+◌, ◌≤◌}
use Rattle.partial.specs.Heading.{Heading}
use Rattle.gathering.specs.Keeping.{Boxed}
use Rattle.salvaging.specs.Tables.{Sound}
use Rattle.salvaging.proofs.CountingLaws.{Counting}
use Rattle.salvaging.proofs.FatesLaws.{Fating}
use Rattle.salvaging.proofs.fates.tell_fates.Given as goal

abbrev pub invariant-loop-b : goal.invariant-loop-b
invariant-loop-b l = (l.k + l.walk.left ≤ 512)
    × ((h : Heading) → Sound l.file h → Boxed l.file l.o.mixed l.o.list h → Counting l.file h.boxes l.walk l.k × Fating l.file h l.fates l.k)

abbrev pub decreases-loop-b : goal.decreases-loop-b
decreases-loop-b l = l.walk.left
