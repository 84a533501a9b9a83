-- `salvaging::places::places_of` meets its contract. The loop's invariant: the boxes so far have their places.
use mathlib.Core.Path.{refl}
use native.Mathlib.Omega.{arith}
use Rattle.boxes.proofs.WalkLaws.{next_box, fewer, over_left}
use Rattle.surls.proofs.WithinLaws.{was_next}
use Rattle.salvaging.proofs.CountingLaws.{counting_none, counting_more, counting_last}
use Rattle.salvaging.proofs.TableLaws.{placing_none, placing_more, placing_end}
use Rattle.salvaging.proofs.places.places_of.Goals as goal

pub loop-b-init : goal.loop-b-init
loop-b-init c =
    let new = c.new-walk.ensures in
    (omega (arith, over_left new), λ h sound held. (counting_none _ sound.boxes new refl, placing_none _ h sound))

pub bounds-places-k : goal.bounds-places-k
bounds-places-k c = omega (arith, c.loop-b.invariant.0, fewer _ _ (next_box c.step.ensures (was_next c.unwrap_or.ensures c.in-Some.is)))

pub bounds-fates-k : goal.bounds-fates-k
bounds-fates-k c = omega (arith, c.loop-b.invariant.0, fewer _ _ (next_box c.step.ensures (was_next c.unwrap_or.ensures c.in-Some.is)))

pub overflow_add-k : goal.overflow_add-k
overflow_add-k c = omega (arith, c.loop-b.invariant.0, fewer _ _ (next_box c.step.ensures (was_next c.unwrap_or.ensures c.in-Some.is)))

pub loop-b-smaller : goal.loop-b-smaller
loop-b-smaller c = fewer _ _ (next_box c.step.ensures (was_next c.unwrap_or.ensures c.in-Some.is))

pub loop-b-preserved : goal.loop-b-preserved
loop-b-preserved c =
    let inv = c.loop-b.invariant in
    let step = next_box c.step.ensures (was_next c.unwrap_or.ensures c.in-Some.is) in (
      omega (arith, inv.0, fewer _ _ step),
      λ h sound held.
          let (counting, placing) = inv.1 h sound held in
          let (there, here, onward) = counting_more counting step in
          (onward, placing_more _ h sound placing there (omega (arith, inv.0, fewer _ _ step)) (c.copy_size.ensures h sound there here (held.each _ there)) c.saturating_add-size.ensures),
    )

pub returns : goal.returns
returns c h sound held =
    let (counting, placing) = c.loop-b.invariant.1 h sound held in
    placing_end _ h sound placing (counting_last counting _ c.step.ensures c.unwrap_or.ensures c.in_default.is)
