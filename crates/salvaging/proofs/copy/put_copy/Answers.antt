-- `salvaging::copy::put_copy` meets its contract. The loop's invariant: the boxes so far are put, each at its new place.
use Prim.Native.Nat.{ℕ, ◌<◌}
use mathlib.Core.Path.{refl, ap, ◌∙◌}
use native.Mathlib.Omega.{arith}
use lib.ListN.{get_or}
use Rattle.boxes.proofs.WalkLaws.{next_box, fewer, over_left}
use Rattle.surls.proofs.WithinLaws.{was_next}
use Rattle.salvaging.proofs.CopyingLaws.{copying_none, copying_more, copying_end}
use Rattle.salvaging.proofs.CountingLaws.{counting_none, counting_more, counting_last}
use Rattle.salvaging.proofs.InnerLaws.{step_inside}
use Rattle.salvaging.proofs.copy.put_copy.Goals as goal

pub loop-b-init : goal.loop-b-init
loop-b-init c =
    let new = c.new-walk.ensures in (
      refl,
      omega (arith, over_left new),
      omega (arith, ap (λ w. w.end.0) new),
      λ h moving held. (counting_none _ moving.sound.boxes new refl, copying_none _ h moving.sound _),
    )

pub bounds-fates-k : goal.bounds-fates-k
bounds-fates-k c = omega (arith, c.loop-b.invariant.1, fewer _ _ (next_box c.step.ensures (was_next c.unwrap_or.ensures c.in-Some.is)))

pub put_box-end-requires : goal.put_box-end-requires
put_box-end-requires c =
    let lies = step_inside _ _ c.in-Some.b (next_box c.step.ensures (was_next c.unwrap_or.ensures c.in-Some.is)) c.loop-b.invariant.2 in
    (lies.1, lies.2)

pub loop-b-smaller : goal.loop-b-smaller
loop-b-smaller c = fewer _ _ (next_box c.step.ensures (was_next c.unwrap_or.ensures c.in-Some.is))

pub loop-b-preserved : goal.loop-b-preserved
loop-b-preserved c =
    let step = next_box c.step.ensures (was_next c.unwrap_or.ensures c.in-Some.is) in
    let inv = c.loop-b.invariant in
    let f = c.args.file.now in
    let byte : (k : ℕ) → get_or f k 0 < 256 = λ k. omega (arith, c.type_inv.file k) in (
      c.put_box-end.auto.buffer ∙ inv.0,
      omega (arith, inv.1, fewer _ _ step),
      (step_inside _ _ c.in-Some.b step inv.2).3,
      λ h moving held.
          let (counting, copying) = inv.3 h moving held in
          let (less, here, onward) = counting_more counting step in
          (onward, copying_more f h moving.sound copying byte less (c.put_box-end.ensures h moving less here (held.each c.loop-b.k less) copying.start)),
    )

pub returns : goal.returns
returns c h moving held =
    let (counting, copying) = c.loop-b.invariant.3 h moving held in
    copying_end _ h moving.sound copying (counting_last counting _ c.step.ensures c.unwrap_or.ensures c.in_default.is)
