-- `mapping::ranges::put_ranges` meets its contract. The loop's invariant: the ranges so far have their lines and are
-- counted, those from here on are left, and the sweeps are ready. A line has no more bytes than its range has
-- positions, fifty times.
use Prim.Native.Nat.{◌+◌, ◌-◌, ◌*◌, ◌≤◌}
use Rattle.mapping.specs.Outline.{word_of, name_in}
use Rattle.mapping.specs.Totals.{Bounded, Counts}
use Rattle.mapping.proofs.RangesLaws.{Midway, Lines, Swept}
use Rattle.mapping.proofs.ranges.put_ranges.Given as goal

abbrev pub invariant-loop-p : goal.invariant-loop-p
invariant-loop-p l = (l.p ≤ l.o.end.0)
    × (l.next ≤ l.at + 50 * l.p)
    × Bounded l.totals l.p
    × Swept l.o l.p l.sweeps
    × Midway (name_in l.o) l.o.end.0 (λ rs. Lines (word_of l.o.named) l.initial.buffer l.at l.buffer l.next rs × Counts rs l.totals) l.p

abbrev pub decreases-loop-p : goal.decreases-loop-p
decreases-loop-p l = l.o.end.0 - l.p
