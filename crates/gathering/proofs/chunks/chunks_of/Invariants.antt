-- `gathering::chunks::chunks_of` meets its contract. The loop's invariant: the chunks so far were read, and the entries
-- that are left decide.
use Prim.Native.Nat.{◌≤◌}
use mathlib.Core.Path.{◌≡◌}
use lib.ListN.{length}
use Rattle.partial.specs.Heading.{Heading}
use Rattle.segment.specs.Placed.{Ready}
use Rattle.gathering.proofs.ChunksLaws.{Midway}
use Rattle.gathering.proofs.chunks.chunks_of.Given as goal

abbrev pub invariant-loop-i : goal.invariant-loop-i
invariant-loop-i l = (l.i ≤ l.l.count)
    × (length l.table ≡ length l.initial.table)
    × ((h : Heading) → Ready l.file l.tops l.mixed l.initial.cursor.last h → Midway l.file h l.pseg.0 l.l l.initial.cursor l.before l.numbered l.initial.table l.i l.cursor l.table)
