-- The cycle of calls of `index_list` and `indexed_box`. A list on a level calls its boxes, and a box the list on the
-- next level: the measure is twice the levels left for a list, and one less for its boxes. The loop's invariant: the
-- boxes so far were told, and those that are left decide.
use Prim.Native.Nat.{◌-◌, ◌*◌}
use Rattle.indexing.specs.Ends.{end_of}
use Rattle.indexing.proofs.ListLaws.{Midway}
use Rattle.indexing.proofs.lists.+index_list_indexed_box.Given as goal

abbrev pub decreases-index_list : goal.decreases-index_list
decreases-index_list l = 2 * (9 - l.spot.level)

abbrev pub decreases-indexed_box : goal.decreases-indexed_box
decreases-indexed_box l = 2 * (9 - l.spot.level) - 1

abbrev pub invariant-index_list-loop-b : goal.invariant-index_list-loop-b
invariant-index_list-loop-b l =
    Midway l.file l.spot.level (end_of l.spot.enclosing) l.initial.table l.initial.walk l.initial.marks l.initial.place.0 l.table l.walk l.marks l.place.0 l.filled l.left

abbrev pub decreases-index_list-loop-b : goal.decreases-index_list-loop-b
decreases-index_list-loop-b l = l.walk.left
