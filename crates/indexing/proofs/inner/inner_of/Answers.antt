-- `indexing::inner::inner_of` meets its contract. The loop's invariant: the boxes that the walk has passed are counted.
use Prim.Native.Nat.{ℕ}
use mathlib.Core.List.{[], ◌∷◌, ◌++◌}
use mathlib.Core.Path.{sym, ap, ap₂, ◌∙◌}
use Rattle.std.specs.Prelude.{Ok}
use Rattle.refusals.specs.Refusals.{refusal_no}
use native.Mathlib.Omega.{arith}
use Rattle.boxes.specs.Answer.{refused, given}
use Rattle.boxes.specs.Framing.{box_limit, box_of}
use Rattle.boxes.specs.Kinds.{bidx, frpa, right_count}
use Rattle.boxes.specs.declared.kinds.Container.TheVariants.{Bidx}
use Rattle.boxes.proofs.KindLaws.{those_few, right-count}
use Rattle.boxes.proofs.ToldLaws.{handed_on}
use Rattle.boxes.proofs.WalkLaws.{passed_none, passed_more, all_boxes, first_fault, over_left, fewer, next_box, no_more, a_fault}
use Rattle.indexing.proofs.ReplacedLaws.{ok-before, err-before}
use Rattle.indexing.proofs.InnerLaws.{counted_none, front_few, inner_fault, inner_second, inner_whole}
use Rattle.indexing.proofs.inner.inner_of.Goals as goal

pub loop-b-init : goal.loop-b-init
loop-b-init c =
    let zeros = c.default-counts.ensures in
    ([], passed_none _ _, counted_none _ zeros.0 zeros.1.0 zeros.1.1)

pub counted-more-requires : goal.counted-more-requires
unfolding box_limit
counted-more-requires c =
    let inv = c.loop-b.invariant in
    let few = over_left c.new-walk.ensures in
    (omega (arith, inv.2.many, those_few bidx inv.0, inv.1.counted), omega (arith, inv.2.parts, those_few frpa inv.0, inv.1.counted))

pub loop-b-smaller : goal.loop-b-smaller
loop-b-smaller c = fewer _ _ (next_box c.step.ensures (ok-before _ c.or.ensures (c.in_ok-b.was ∙ ap Ok c.in-Some.is)))

pub loop-b-preserved : goal.loop-b-preserved
loop-b-preserved c =
    let inv = c.loop-b.invariant in (
      inv.0 ++ (box_of c.in-Some.b ∷ []),
      passed_more inv.1 (next_box c.step.ensures (ok-before _ c.or.ensures (c.in_ok-b.was ∙ ap Ok c.in-Some.is))),
      c.counted-more.ensures inv.0 inv.2,
    )

pub returns-then-not-keeps : goal.returns-then-not-keeps
returns-then-not-keeps c =
    let (bs, passed, counts) = c.loop-b.invariant in
    let end = no_more c.step.ensures (ok-before _ c.or.ensures (c.in_ok-b.was ∙ ap Ok c.in_default.is)) in
    let known = all_boxes c.new-walk.ensures passed end in
    let rule = c.keeps.ensures ∙ ap (right_count Bidx frpa) counts.parts ∙ sym (right-count Bidx frpa bs) in
    sym (inner_second _ _ _ known (sym rule ∙ c.if-not-keeps.true))

pub returns : goal.returns
returns c =
    let (bs, passed, counts) = c.loop-b.invariant in
    let end = no_more c.step.ensures (ok-before _ c.or.ensures (c.in_ok-b.was ∙ ap Ok c.in_default.is)) in
    let known = all_boxes c.new-walk.ensures passed end in
    let rule = c.keeps.ensures ∙ ap (right_count Bidx frpa) counts.parts ∙ sym (right-count Bidx frpa bs) in
    let kept = sym rule ∙ c.if-not-keeps.false in
    ap₂ (λ (m n : ℕ). given (m, n)) counts.many (counts.size (front_few bs kept)) ∙ sym (inner_whole _ _ _ known kept)

pub returns-in_err-b : goal.returns-in_err-b
returns-in_err-b c =
    let (n, was, same) = err-before _ c.or.ensures c.in_err-b.was in
    let fault = a_fault c.step.ensures was in
    let first = first_fault c.new-walk.ensures c.loop-b.invariant.1 fault in
    handed_on (λ r. r) _ _ c.from_residual.ensures.1 ∙ ap (λ e. refused (refusal_no e)) same ∙ sym (inner_fault _ _ _ first)
