-- `sources::find::source_of` meets its contract. The loop's invariant: the source of the list is none of those so far.
use Prim.Native.Nat.{◌≤◌}
use mathlib.Core.List.{List}
use mathlib.Core.Path.{◌≡◌}
use Rattle.boxes.specs.Framing.{Box}
use Rattle.partial.specs.Heading.{Heading, urls_in}
use Rattle.partial.specs.ReadingDemands.{Numbered}
use Rattle.partial.specs.Segments.{Segment}
use Rattle.partial.specs.Sources.{source_count, source_beside}
use Rattle.sources.specs.Held.{Stands, ListsHeld}
use Rattle.sources.proofs.find.source_of.Given as goal

abbrev pub invariant-loop-n : goal.invariant-loop-n
invariant-loop-n l =
    (h : Heading) (ss : List Segment) (bs : List Box) → l.many ≡ source_count ss → Numbered ss → ListsHeld l.file h l.lists ss → Stands l.file l.list bs
    → l.n ≤ source_beside ss (urls_in l.file bs)
