-- `mapping::ranges::put_ranges` meets its contract. The loop's invariant: the ranges so far have their lines and are
-- counted, those from here on are left, and the sweeps are ready. A line has no more bytes than its range has
-- positions, fifty times.
use native.Mathlib.Omega.{arith}
use Rattle.sweeping.proofs.RangeLaws.{found_some, found_most}
use Rattle.mapping.proofs.CountLaws.{counts_none}
use Rattle.mapping.proofs.RangesLaws.{midway_none, midway_more, midway_end, lines_none, lines_more, swept_start}
use Rattle.mapping.proofs.ranges.put_ranges.Goals as goal

pub loop-p-init : goal.loop-p-init
loop-p-init c = (
  omega arith,
  omega arith,
  record { received = omega arith; held = omega arith; lost = omega arith },
  swept_start c.args.o c.start-sweeps.ensures,
  midway_none _ _ (lines_none _ _ _, counts_none),
)

pub put_range-next-requires : goal.put_range-next-requires
put_range-next-requires c = omega (arith, c.requires.1.low)

pub with-totals-requires : goal.with-totals-requires
with-totals-requires c =
    let goes = c.named_at-found.ensures.0 in
    (c.loop-p.invariant.2, goes.some (omega arith), goes.ends)

pub overflow_add-p : goal.overflow_add-p
overflow_add-p c = omega (arith, c.named_at-found.ensures.0.ends)

pub loop-p-smaller : goal.loop-p-smaller
loop-p-smaller c = omega (arith, c.named_at-found.ensures.0.some (omega arith))

pub loop-p-preserved : goal.loop-p-preserved
loop-p-preserved c =
    let inv = c.loop-p.invariant in
    let drawn = c.requires.1 in
    let names = c.named_at-found.ensures.1 drawn.of_good drawn.of_damaged inv.3 (omega arith) in
    let (puts, low) = c.put_range-next.ensures in
    let with = c.with-totals.ensures in (
      omega (arith, found_most _ _ _ (omega arith) names.range),
      omega (arith, found_some _ _ _ (omega arith) names.range),
      with.0,
      names.ready,
      midway_more _ _ inv.4 (omega arith) _ names.range (λ rs so_far. (lines_more _ _ _ _ puts low rs so_far.0, with.1 rs so_far.1)),
    )

pub returns : goal.returns
returns c =
    let inv = c.loop-p.invariant in
    let (lines, counts) = midway_end _ _ inv.4 (omega arith) in
    (lines.put, omega arith, omega (arith, lines.few), counts)
