-- `segment::tops::top_before` meets its contract. The loop's invariant: what stands at the lower number is before the
-- place, unless that is the first, and what stands at the higher one is not, unless that is past the table.
use Prim.Native.Nat.{◌-◌, ◌≤◌, ◌<◌}
use lib.ListN.{get_or}
use Rattle.segment.proofs.tops.top_before.Given as goal

abbrev pub invariant-loop-high : goal.invariant-loop-high
invariant-loop-high l = (l.low < l.high)
    × (l.high ≤ 512)
    × (0 < l.low → get_or l.tops l.low 0 < l.place.0)
    × (l.high < 512 → l.place.0 ≤ get_or l.tops l.high 0)

abbrev pub decreases-loop-high : goal.decreases-loop-high
decreases-loop-high l = l.high - l.low
