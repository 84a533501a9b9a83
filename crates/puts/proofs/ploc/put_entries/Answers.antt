-- `puts::ploc::put_entries` meets its contract. The loop's invariant: where the widths hold all and it is known how far
-- the data lies, the entries passed are written, and how far the data that is left lies is known.
use Prim.Native.Nat.{◌/◌, ◌<◌}
use native.Mathlib.Omega.{arith}
use lib.ListN.{length}
use Rattle.puts.proofs.EntryLaws.{midway_start, midway_distances, midway_entry, midway_more, midway_end}
use Rattle.puts.proofs.ploc.put_entries.Goals as goal

pub loop-i-init : goal.loop-i-init
loop-i-init c = λ held far. midway_start _ _ _ _ _ _ held far

pub loop-i-preserved : goal.loop-i-preserved
loop-i-preserved c =
    λ held far.
    let less : c.loop-i.i < length c.args.list.now / 2 = omega arith in
    let m = c.loop-i.invariant held far in
    let here = midway_distances _ _ _ _ _ _ m less in
    let back = c.of-back.ensures _ _ _ here in
    midway_more _ _ _ _ _ _ m less back (c.put_entry-next.ensures (midway_entry _ _ _ _ _ _ m less back)) (c.past-left.ensures _ _ here)

pub returns : goal.returns
returns c held far = midway_end _ _ _ _ _ _ (c.loop-i.invariant held far) (omega arith)
