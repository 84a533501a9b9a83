-- `adding::counts::counts_of` meets its contract. The loop's invariant: the pairs so far are counted.
use Prim.Native.Nat.{◌*◌}
use mathlib.Core.Path.{sym, ap, ◌∙◌}
use native.Mathlib.Omega.{arith}
use lib.ListN.{take}
use Rattle.additions.specs.Addition.{items}
use Rattle.adding.specs.Counts.{counts_of}
use Rattle.adding.proofs.CountLaws.{items_none, items_more, items_whole, front_items, front-present}
use Rattle.adding.proofs.counts.counts_of.Goals as goal

pub loop-i-init : goal.loop-i-init
loop-i-init c = c.none-counts.ensures ∙ ap counts_of items_none

pub with-counts-requires : goal.with-counts-requires
with-counts-requires c =
    let met = c.loop-i in
    let list = c.args.list.now in
    (omega (arith, front_items list met.i met.invariant), front-present list met.i met.invariant)

pub loop-i-preserved : goal.loop-i-preserved
loop-i-preserved c =
    let met = c.loop-i in
    let list = c.args.list.now in
    c.with-counts.ensures (items (take (2 * met.i) list)) met.invariant ∙ ap counts_of (sym (items_more list met.i (omega arith)))

pub returns : goal.returns
returns c =
    let met = c.loop-i in
    let list = c.args.list.now in
    met.invariant ∙ ap counts_of (items_whole list met.i (omega arith) (omega arith))
