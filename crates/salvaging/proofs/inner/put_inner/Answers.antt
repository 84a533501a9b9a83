-- `salvaging::inner::put_inner` meets its contract. The loop's invariant: the boxes passed are put.
use mathlib.Core.Logic.{inl, inr}
use mathlib.Core.Path.{refl, sym, ap, ◌∙◌}
use native.Mathlib.Omega.{arith}
use borrow.Author.Tests.{not-true, not-false}
use Rattle.boxes.specs.Kinds.{fidx}
use Rattle.boxes.proofs.WalkLaws.{walk_boxes, next_box, no_more, a_fault, fewer}
use Rattle.surls.proofs.WithinLaws.{was_next, was_last}
use Rattle.tallying.proofs.FoundLaws.{is_kind, is_other}
use Rattle.salvaging.proofs.InnerLaws.{step_inside, midway_none, midway_among, midway_index, midway_more, midway_end, midway_sound}
use Rattle.salvaging.proofs.inner.put_inner.Goals as goal

pub loop-b-init : goal.loop-b-init
loop-b-init c = (
  refl,
  omega (arith, ap (λ w. w.end.0) c.new-walk.ensures, c.requires),
  λ h copy s bs moving known anew. midway_none _ _ bs _ _ _ known,
)

pub put_inside-end-requires : goal.put_inside-end-requires
put_inside-end-requires c =
    let lies = step_inside _ _ c.in-Some.b (next_box c.step.ensures (was_next c.unwrap_or.ensures c.in-Some.is)) c.loop-b.invariant.1 in
    (lies.0, lies.1, lies.2)

pub loop-b-smaller-then-ne : goal.loop-b-smaller-then-ne
loop-b-smaller-then-ne c = fewer _ _ (next_box c.step.ensures (was_next c.unwrap_or.ensures c.in-Some.is))

pub loop-b-preserved-then-ne : goal.loop-b-preserved-then-ne
loop-b-preserved-then-ne c =
    let step = next_box c.step.ensures (was_next c.unwrap_or.ensures c.in-Some.is) in
    let inv = c.loop-b.invariant in
    let b = c.in-Some.b in (
      c.put_inside-end.auto.buffer ∙ inv.0,
      (step_inside _ _ b step inv.1).3,
      λ h copy s bs moving known anew.
          let m = inv.2 h copy s bs moving known anew in
          midway_more m step (is_other fidx b refl (not-true _ (sym c.ne.ensures ∙ c.if-ne.true))) (c.put_inside-end.ensures h copy s bs moving anew (midway_among m step)),
    )

pub loop-b-smaller : goal.loop-b-smaller
loop-b-smaller c = fewer _ _ (next_box c.step.ensures (was_next c.unwrap_or.ensures c.in-Some.is))

pub loop-b-preserved : goal.loop-b-preserved
loop-b-preserved c =
    let step = next_box c.step.ensures (was_next c.unwrap_or.ensures c.in-Some.is) in
    let inv = c.loop-b.invariant in
    let b = c.in-Some.b in (
      inv.0,
      (step_inside _ _ b step inv.1).3,
      λ h copy s bs moving known anew.
          midway_index (inv.2 h copy s bs moving known anew) step (is_kind fidx b refl (not-false _ (sym c.ne.ensures ∙ c.if-ne.false))),
    )

pub returns : goal.returns
returns c h copy s bs moving known anew =
    let m = c.loop-b.invariant.2 h copy s bs moving (sym (walk_boxes _ c.new-walk.ensures) ∙ known) anew in
    elim (was_last c.unwrap_or.ensures c.in_default.is) [
      | inl last ↦ midway_end m (no_more c.step.ensures last)
      | inr (n, fault) ↦ absurd (midway_sound m (a_fault c.step.ensures fault))
    ]
