-- `gathering::pass::pass` meets its contract. The loop's invariant: the segments so far were read, and the boxes that
-- are left decide.
use Prim.Native.Nat.{◌+◌, ◌≤◌}
use mathlib.Core.Path.{◌≡◌}
use lib.ListN.{length}
use Rattle.partial.specs.Heading.{Heading}
use Rattle.partial.specs.Limits.{chunk_limit}
use Rattle.gathering.specs.Pass.{Opened}
use Rattle.gathering.proofs.PassLaws.{Midway}
use Rattle.gathering.proofs.pass.pass.Given as goal

abbrev pub invariant-loop-b : goal.invariant-loop-b
invariant-loop-b l = (l.gathered.segments + l.walk.left ≤ 512)
    × (l.gathered.chunks ≤ chunk_limit)
    × (length l.segments ≡ length l.initial.segments)
    × (length l.chunks ≡ length l.initial.chunks)
    × ((h : Heading) → Opened l.file l.mixed l.fn.list h → Midway l.file h l.numbered l.initial.segments l.initial.chunks l.segments l.chunks l.tables l.walk l.gathered l.last)
    × (l.walk.end.0 ≡ length l.file)

abbrev pub decreases-loop-b : goal.decreases-loop-b
decreases-loop-b l = l.walk.left
