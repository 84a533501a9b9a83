-- `salvaging::places::inner_size` meets its contract. The loop's invariant: the boxes passed have so many bytes, and no
-- sum of them is past their end.
use Prim.Native.Nat.{◌-◌}
use mathlib.Core.Logic.{inl, inr}
use mathlib.Core.Path.{◌≡◌, refl, sym, ap, ◌∙◌}
use borrow.Author.Tests.{not-true, not-false}
use Rattle.boxes.specs.Framing.{box_of}
use Rattle.boxes.specs.Kinds.{fidx}
use Rattle.boxes.proofs.ToldLaws.{box_fields}
use Rattle.boxes.proofs.WalkLaws.{fewer, next_box, no_more, a_fault}
use Rattle.tallying.proofs.FoundLaws.{is_kind, is_other}
use Rattle.surls.proofs.WithinLaws.{was_next, was_last}
use Rattle.salvaging.proofs.TableLaws.{summed_none, summed_index, summed_more, summed_end, summed_sound}
use Rattle.salvaging.proofs.places.inner_size.Goals as goal

pub loop-b-init : goal.loop-b-init
loop-b-init c = summed_none _ _

pub loop-b-smaller-then-ne : goal.loop-b-smaller-then-ne
loop-b-smaller-then-ne c = fewer _ _ (next_box c.step.ensures (was_next c.unwrap_or.ensures c.in-Some.is))

pub loop-b-preserved-then-ne : goal.loop-b-preserved-then-ne
loop-b-preserved-then-ne c =
    let b = c.in-Some.b in
    let fields = box_fields b in
    let long : c.saturating_sub.result ≡ (box_of b).end - (box_of b).at = c.saturating_sub.ensures ∙ sym (ap (λ x. x.end - x.at) fields) in
    summed_more c.loop-b.invariant (next_box c.step.ensures (was_next c.unwrap_or.ensures c.in-Some.is)) (is_other fidx b refl (not-true _ (sym c.ne.ensures ∙ c.if-ne.true)))
    (rw long at c.saturating_add-size.ensures)

pub loop-b-smaller : goal.loop-b-smaller
loop-b-smaller c = fewer _ _ (next_box c.step.ensures (was_next c.unwrap_or.ensures c.in-Some.is))

pub loop-b-preserved : goal.loop-b-preserved
loop-b-preserved c =
    summed_index c.loop-b.invariant (next_box c.step.ensures (was_next c.unwrap_or.ensures c.in-Some.is)) (is_kind fidx _ refl (not-false _ (sym c.ne.ensures ∙ c.if-ne.false)))

pub returns : goal.returns
returns c bs known short =
    elim (was_last c.unwrap_or.ensures c.in_default.is) [
      | inl last ↦ summed_end c.new-walk.ensures c.loop-b.invariant known short (no_more c.step.ensures last)
      | inr (n, fault) ↦ absurd (summed_sound c.new-walk.ensures c.loop-b.invariant known short (a_fault c.step.ensures fault))
    ]
