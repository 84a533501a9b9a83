-- `listing::lists::put_lists` meets its contract. The loop's invariant: the ranges so far are listed, those from here
-- on are left, and so many spans are passed.
use Prim.Native.Nat.{◌-◌, ◌≤◌}
use lib.ListN.{length}
use Rattle.sweeping.specs.Ranges.{Passed}
use Rattle.spans.specs.Spans.{class_by, Ordered}
use Rattle.listing.specs.Lists.{Bounded}
use Rattle.listing.proofs.ListLaws.{Midway}
use Rattle.listing.proofs.lists.put_lists.Given as goal

abbrev pub invariant-loop-p : goal.invariant-loop-p
invariant-loop-p l = Bounded l.lists l.p
    × (Ordered l.spans (length l.spans) l.end.0
    → (l.p ≤ l.end.0) × Passed l.spans (length l.spans) l.passed l.p
    × Midway (class_by l.spans (length l.spans)) l.end.0 l.initial.had l.had l.initial.missing l.missing l.lists l.p)

abbrev pub decreases-loop-p : goal.decreases-loop-p
decreases-loop-p l = l.end.0 - l.p
