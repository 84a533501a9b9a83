-- `indexrows::marking::mark_all` meets its contract. The loop's invariant: the sources so far are marked.
use mathlib.Core.List.{List}
use mathlib.Core.Path.{◌≡◌}
use lib.ListN.{length}
use Rattle.partial.specs.Index.{SourceBox}
use Rattle.partial.specs.Memory.{filled}
use Rattle.partial.specs.Segments.{Segment}
use Rattle.indexrows.specs.Marking.{AcceptedIn, rows_with, marked_below}
use Rattle.indexrows.proofs.marking.mark_all.Given as goal

abbrev pub invariant-loop-source : goal.invariant-loop-source
invariant-loop-source l = (length l.table ≡ length l.initial.table)
    × ((ss : List Segment) (is : List SourceBox) → AcceptedIn l.kept l.sizes ss → l.count ≡ length is
    → l.initial.table ≡ filled (rows_with (marked_below ss 0) is) l.initial.table
    → l.table ≡ filled (rows_with (marked_below ss l.source) is) l.initial.table)
