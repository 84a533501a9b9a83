-- `outside::chunks::outside_of` meets its contract. The loop's invariant: what was found of the items passed, with what
-- is found of the others, is all.
use Prim.Native.Nat.{ℕ, ◌-◌, ◌*◌, ◌/◌, ◌<◌}
use mathlib.Core.Path.{refl, sym, ◌∙◌}
use native.Mathlib.Omega.{arith}
use lib.ListN.{length, drop, get_or, length-take, length-drop}
use Rattle.outside.proofs.ChunkLaws.{midway_start, midway_in, midway_out, midway_end}
use Rattle.outside.proofs.chunks.outside_of.Goals as goal
use Rattle.outside.proofs.chunks.outside_of.Goals.{then-goes_out, else-goes_out}

pub loop-i-init : goal.loop-i-init
loop-i-init c = rw c.none-stored.ensures (midway_start _ _ _)

pub slice_bounds-with-count : goal.slice_bounds-with-count
slice_bounds-with-count c = omega (arith, c.end_of-end.ensures, c.loop-i.invariant.inside)

pub with-stored-requires : goal.with-stored-requires
with-stored-requires c =
    let m = c.loop-i.invariant in
    let bytes = c.args.«data».now in
    let end : ℕ = c.end_of-end.result in
    let part = length-take (end - c.loop-i.at) (drop c.loop-i.at bytes) in
    omega (arith, m.chunks, m.size, m.boxes, m.inside, part, length-drop c.loop-i.at bytes, c.end_of-end.ensures)

pub loop-i-preserved : goal.loop-i-preserved
loop-i-preserved c =
    let m = c.loop-i.invariant in
    let ends = c.end_of-end.ensures in
    let less : c.loop-i.i < length c.args.list.now / 2 = omega arith in
    let out = c.goes_out.ensures (get_or c.args.list.now (2 * c.loop-i.i) 0) in
    elim c.if-goes_out.branch [
      | then-goes_out w ↦ rw (w.stored-is, w.with-stored.ensures) (midway_out _ _ _ m less ends (sym out ∙ w.if-goes_out.true) refl)
      | else-goes_out w ↦ rw w.stored-is (midway_in _ _ _ m less ends (sym out ∙ w.if-goes_out.false))
    ]

pub returns : goal.returns
returns c = midway_end _ _ _ c.loop-i.invariant (omega arith)
