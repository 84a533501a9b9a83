-- `gathering::pass::pass` meets its contract. The loop's invariant: the segments so far were read, and the boxes that
-- are left decide.
use mathlib.Core.Path.{refl, sym, ap, subst, ◌∙◌}
use native.Mathlib.Omega.{arith}
use Rattle.std.specs.Prelude.{Ok}
use Rattle.boxes.specs.Framing.{box_limit}
use Rattle.boxes.specs.Kinds.{pseg}
use Rattle.boxes.proofs.WalkLaws.{fewer, next_box, no_more, a_fault, walk_boxes, over_left}
use Rattle.tallying.proofs.FoundLaws.{is_kind, is_other}
use Rattle.partial.specs.Segments.{chunks_of}
use Rattle.segment.proofs.TopsLaws.{tops_none}
use Rattle.gathering.specs.Pass.{Gathers}
use Rattle.gathering.specs.Step.{Counted, Segmented}
use Rattle.gathering.proofs.GatheredLaws.{gathered-segments, gathered_chunks}
use Rattle.gathering.proofs.HandedLaws.{handed_err}
use Rattle.gathering.proofs.PassLaws.{searched_none, midway_none, midway_other, midway_beside, midway_refused, midway_more, midway_end, midway_sound}
use Rattle.surls.proofs.WithinLaws.{met_within, end_kept}
use Rattle.gathering.proofs.pass.pass.Goals as goal

pub loop-b-init : goal.loop-b-init
unfolding chunks_of
loop-b-init c =
    let new = c.new-walk.ensures in
    let none = c.none-gathered.ensures in (
      omega (arith, over_left new, gathered-segments _ none),
      omega (arith, gathered_chunks _ none),
      refl,
      refl,
      λ h opened.
          midway_none _ h _ _ _ (sym (walk_boxes _ new) ∙ opened.boxes) opened.few none (searched_none _ refl opened.boxes) (c.clear.ensures.1 _ h),
      ap (λ w. w.end.0) new,
    )

pub returns-in_err-b : goal.returns-in_err-b
returns-in_err-b c =
    λ h opened.
    absurd (midway_sound _ h _ _ _ (c.loop-b.invariant.4 h opened) (a_fault c.step.ensures c.in_err-b.was))

pub segment_of-requires : goal.segment_of-requires
unfolding box_limit
segment_of-requires c =
    let inv = c.loop-b.invariant in
    let ends = (met_within _ _ _ (next_box c.step.ensures (c.in_ok-b.was ∙ ap Ok c.in-Some.is))).ends in
    (omega (arith, inv.0), inv.1, omega (arith, ends, inv.5))

pub returns-in_err-more : goal.returns-in_err-more
unfolding Gathers Segmented
returns-in_err-more c =
    rw (handed_err _ c.from_residual-in_err-more.ensures.1)
    (λ h opened.
    let so_far = c.loop-b.invariant.4 h opened in
    let based = c.new-basis.ensures h opened.mix opened.in_pfil in
    let listed = c.tops_of.ensures h.boxes (omega (arith, opened.in_pfil.within)) tops_none opened.boxes in
    let step = next_box c.step.ensures (c.in_ok-b.was ∙ ap Ok c.in-Some.is) in
    let kind = is_kind pseg _ c.eq.ensures c.if-eq.true in
    let told = c.segment_of.ensures.1 h so_far.before based (record { mix = based.mix; known = so_far.known; listed = listed }) (midway_beside _ h _ _ _ so_far step kind) in
    midway_refused _ h _ _ _ so_far step kind (subst (Segmented _ h _ _ _ _ _ _ _ _) c.in_err-more.was told))

pub loop-b-smaller : goal.loop-b-smaller
loop-b-smaller c = fewer _ _ (next_box c.step.ensures (c.in_ok-b.was ∙ ap Ok c.in-Some.is))

pub loop-b-preserved : goal.loop-b-preserved
loop-b-preserved c =
    let inv = c.loop-b.invariant in
    let step = next_box c.step.ensures (c.in_ok-b.was ∙ ap Ok c.in-Some.is) in (
      omega (arith, inv.0, fewer _ _ step),
      inv.1,
      inv.2,
      inv.3,
      λ h opened. midway_other _ h _ _ _ (inv.4 h opened) step (is_other pseg _ c.eq.ensures c.if-eq.false),
      ap (λ e. e.0) (end_kept _ _ _ step) ∙ inv.5,
    )

pub loop-b-smaller-then-eq : goal.loop-b-smaller-then-eq
loop-b-smaller-then-eq c = fewer _ _ (next_box c.step.ensures (c.in_ok-b.was ∙ ap Ok c.in-Some.is))

pub loop-b-preserved-then-eq : goal.loop-b-preserved-then-eq
unfolding Counted
loop-b-preserved-then-eq c =
    let inv = c.loop-b.invariant in
    let step = next_box c.step.ensures (c.in_ok-b.was ∙ ap Ok c.in-Some.is) in
    let read = c.segment_of.ensures in
    let counted = subst (Counted c.loop-b.gathered) c.in_ok-more.was read.0 in (
      omega (arith, inv.0, counted.0, fewer _ _ step),
      counted.1,
      c.segment_of.auto.segments ∙ inv.2,
      c.segment_of.auto.chunks ∙ inv.3,
      λ h opened.
          let so_far = inv.4 h opened in
          let based = c.new-basis.ensures h opened.mix opened.in_pfil in
          let listed = c.tops_of.ensures h.boxes (omega (arith, opened.in_pfil.within)) tops_none opened.boxes in
          let kind = is_kind pseg _ c.eq.ensures c.if-eq.true in
          let told = read.1 h so_far.before based (record { mix = based.mix; known = so_far.known; listed = listed }) (midway_beside _ h _ _ _ so_far step kind) in
          midway_more _ h _ _ _ so_far step kind (subst (Segmented _ h _ _ _ _ _ _ _ _) c.in_ok-more.was told),
      ap (λ e. e.0) (end_kept _ _ _ step) ∙ inv.5,
    )

pub returns : goal.returns
returns c =
    λ h opened.
    midway_end _ h _ _ _ (c.loop-b.invariant.4 h opened) (no_more c.step.ensures (c.in_ok-b.was ∙ ap Ok c.in_default.is))
