-- `salvaging::fates::tell_fates` meets its contract. The loop's invariant: the fates of the boxes so far are told, and that
-- of each `pseg`.
use mathlib.Core.Path.{refl, sym, ap, ◌∙◌}
use native.Mathlib.Omega.{arith}
use borrow.Author.Tests.{not-true, not-false}
use Rattle.boxes.specs.Kinds.{pseg, is}
use Rattle.boxes.proofs.WalkLaws.{next_box, fewer, over_left}
use Rattle.tallying.proofs.FoundLaws.{is_kind, is_other}
use Rattle.surls.proofs.WithinLaws.{was_next}
use Rattle.salvaging.proofs.CountingLaws.{counting_none, counting_more, counting_last}
use Rattle.salvaging.proofs.FatesLaws.{fating_none, fating_set, fating_left, fating_end, code_first, code_behind_two}
use Rattle.salvaging.proofs.fates.tell_fates.Goals as goal

pub loop-b-init : goal.loop-b-init
loop-b-init c =
    let new = c.new-walk.ensures in
    (omega (arith, over_left new), λ h sound boxed. (counting_none _ sound.boxes new refl, fating_none _ h (c.keep_pass-gathered.ensures h boxed)))

pub overflow_add-k : goal.overflow_add-k
overflow_add-k c = omega (arith, c.loop-b.invariant.0, fewer _ _ (next_box c.step.ensures (was_next c.unwrap_or.ensures c.in-Some.is)))

pub bounds-fates-at : goal.bounds-fates-at
bounds-fates-at c = omega (arith, c.loop-b.invariant.0, fewer _ _ (next_box c.step.ensures (was_next c.unwrap_or.ensures c.in-Some.is)))

pub loop-b-smaller-then-at-lt2 : goal.loop-b-smaller-then-at-lt2
loop-b-smaller-then-at-lt2 c = fewer _ _ (next_box c.step.ensures (was_next c.unwrap_or.ensures c.in-Some.is))

pub loop-b-preserved-then-at-lt2 : goal.loop-b-preserved-then-at-lt2
loop-b-preserved-then-at-lt2 c =
    let inv = c.loop-b.invariant in
    let step = next_box c.step.ensures (was_next c.unwrap_or.ensures c.in-Some.is) in (
      omega (arith, inv.0, fewer _ _ step),
      λ h sound boxed.
          let (counting, fating) = inv.1 h sound boxed in
          let (there, here, onward) = counting_more counting step in
          (onward, fating_set _ h fating (omega (arith, inv.0, fewer _ _ step)) _ (sym (code_first _ h _ c.if-at-lt2.true))),
    )

pub bounds-fates-at-then-ne : goal.bounds-fates-at-then-ne
bounds-fates-at-then-ne c = omega (arith, c.loop-b.invariant.0, fewer _ _ (next_box c.step.ensures (was_next c.unwrap_or.ensures c.in-Some.is)))

pub loop-b-smaller-then-ne : goal.loop-b-smaller-then-ne
loop-b-smaller-then-ne c = fewer _ _ (next_box c.step.ensures (was_next c.unwrap_or.ensures c.in-Some.is))

pub loop-b-preserved-then-ne : goal.loop-b-preserved-then-ne
loop-b-preserved-then-ne c =
    let inv = c.loop-b.invariant in
    let step = next_box c.step.ensures (was_next c.unwrap_or.ensures c.in-Some.is) in (
      omega (arith, inv.0, fewer _ _ step),
      λ h sound boxed.
          let (counting, fating) = inv.1 h sound boxed in
          let (there, here, onward) = counting_more counting step in
          (onward, fating_set _ h fating (omega (arith, inv.0, fewer _ _ step)) _ (code_behind_two _ h sound (c.keep_pass-gathered.ensures h boxed) c.if-at-lt2.false there here (omega (arith, c.min-many.ensures)) (λ before. c.fate_of.ensures _ h before boxed.mix (is_other pseg _ refl (not-true _ (sym c.ne.ensures ∙ c.if-ne.true)))))),
    )

pub loop-b-smaller : goal.loop-b-smaller
loop-b-smaller c = fewer _ _ (next_box c.step.ensures (was_next c.unwrap_or.ensures c.in-Some.is))

pub loop-b-preserved : goal.loop-b-preserved
loop-b-preserved c =
    let inv = c.loop-b.invariant in
    let step = next_box c.step.ensures (was_next c.unwrap_or.ensures c.in-Some.is) in (
      omega (arith, inv.0, fewer _ _ step),
      λ h sound boxed.
          let (counting, fating) = inv.1 h sound boxed in
          let (there, here, onward) = counting_more counting step in
          (onward, fating_left _ h fating there (ap (is pseg) (sym here) ∙ is_kind pseg _ refl (not-false _ (sym c.ne.ensures ∙ c.if-ne.false)))),
    )

pub returns : goal.returns
returns c h sound boxed =
    let (counting, fating) = c.loop-b.invariant.1 h sound boxed in
    fating_end _ h fating (counting_last counting _ c.step.ensures c.unwrap_or.ensures c.in_default.is)
