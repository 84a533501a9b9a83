-- `fileindex::file::index_of` meets its contract. The loop's invariant: the indexes so far are marked, and the boxes
-- that are left decide.
use Prim.Native.Nat.{ℕ}
use mathlib.Core.List.{List}
use mathlib.Core.Path.{◌≡◌}
use lib.ListN.{length}
use Rattle.boxes.specs.Answer.{given}
use Rattle.partial.specs.Heading.{Heading, heading}
use Rattle.partial.specs.Limits.{source_limit}
use Rattle.partial.specs.Reading.{segments as segments_of}
use Rattle.partial.specs.Segments.{Segment}
use Rattle.fileindex.specs.File.{end_in, NumberedBy}
use Rattle.fileindex.proofs.PartLaws.{parts_of}
use Rattle.fileindex.proofs.PassLaws.{Midway}
use Rattle.fileindex.proofs.file.index_of.Given as goal

abbrev pub invariant-loop-b : goal.invariant-loop-b
invariant-loop-b l =
    (length l.table ≡ length l.initial.table)
    × ((h : Heading) (ss : List Segment) (number : List (List ℕ) → ℕ) → heading l.file ≡ given h
    → segments_of source_limit l.file h ≡ given ss
    → NumberedBy number h ss l.sources l.in_pfil
    → Midway l.file (λ us. end_in l.sizes (number us)) (record { number = number; sources = l.sources; in_pfil = l.in_pfil }) (parts_of h ss) l.initial.table l.table l.walk l.marks l.segments)

abbrev pub decreases-loop-b : goal.decreases-loop-b
decreases-loop-b l = l.walk.left
