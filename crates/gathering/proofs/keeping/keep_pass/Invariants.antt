-- `gathering::keeping::keep_pass` meets its contract. The loop's invariant: the segments so far are kept or left out, the
-- table has the fates of the boxes passed, and the boxes that are left decide.
use Prim.Native.Nat.{◌+◌, ◌≤◌}
use mathlib.Core.Path.{◌≡◌}
use lib.ListN.{length}
use Rattle.partial.specs.Heading.{Heading}
use Rattle.partial.specs.Limits.{chunk_limit}
use Rattle.gathering.specs.Keeping.{Boxed}
use Rattle.gathering.proofs.KeepingPassLaws.{Midway}
use Rattle.gathering.proofs.keeping.keep_pass.Given as goal

abbrev pub invariant-loop-at : goal.invariant-loop-at
invariant-loop-at l = (l.at + l.walk.left ≤ 512)
    × (l.gathered.segments ≤ l.at)
    × (l.gathered.chunks ≤ chunk_limit)
    × (length l.fates ≡ 512)
    × ((h : Heading) → Boxed l.file l.mixed l.fn.list h → Midway l.file h l.fates l.numbers l.tables l.walk l.gathered l.last l.at)
    × (l.walk.end.0 ≡ length l.file)
