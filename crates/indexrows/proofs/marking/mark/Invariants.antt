-- `indexrows::marking::mark` meets its contract. The loop's invariant: the rows so far are marked.
use Prim.Native.Nat.{ℕ}
use mathlib.Core.List.{List}
use mathlib.Core.Path.{◌≡◌}
use lib.ListN.{length, drop}
use Rattle.partial.specs.Index.{SourceBox}
use Rattle.partial.specs.Memory.{filled}
use Rattle.partial.specs.Segments.{Segment}
use Rattle.indexrows.specs.Marking.{rows_with}
use Rattle.indexrows.specs.Serving.{HadIn}
use Rattle.indexrows.proofs.MarkingLaws.{Midway}
use Rattle.indexrows.proofs.marking.mark.Given as goal

abbrev pub invariant-loop-i : goal.invariant-loop-i
invariant-loop-i l = (length l.table ≡ length l.initial.table)
    × ((mine : List Segment) (is : List SourceBox) (say : SourceBox → ℕ) → HadIn mine l.had → l.count ≡ length is → l.initial.table ≡ filled (rows_with say is) l.initial.table
    → Midway l.source mine say is (drop (length (rows_with say is)) l.initial.table) l.table l.i)
