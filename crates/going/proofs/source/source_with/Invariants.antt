-- `going::source::source_with` meets its contract. The loop's invariant: the source of the texts is none of those so
-- far.
use Prim.Native.Nat.{◌≤◌}
use mathlib.Core.List.{List}
use mathlib.Core.Path.{◌≡◌}
use Rattle.partial.specs.Heading.{Heading}
use Rattle.partial.specs.ReadingDemands.{Numbered}
use Rattle.partial.specs.Segments.{Segment}
use Rattle.partial.specs.Sources.{source_count, source_beside}
use Rattle.sources.specs.Held.{ListsHeld}
use Rattle.going.specs.Texts.{urls_of}
use Rattle.going.proofs.source.source_with.Given as goal

abbrev pub invariant-loop-n : goal.invariant-loop-n
invariant-loop-n l =
    (h : Heading) (ss : List Segment) → l.many ≡ source_count ss → Numbered ss → ListsHeld l.file h l.lists ss → l.n ≤ source_beside ss (urls_of l.texts l.lengths)
