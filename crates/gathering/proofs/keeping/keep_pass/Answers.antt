-- `gathering::keeping::keep_pass` meets its contract. The loop's invariant: the segments so far are kept or left out, the
-- table has the fates of the boxes passed, and the boxes that are left decide.
use mathlib.Core.Path.{refl, sym, ap, subst, ◌∙◌}
use native.Mathlib.Omega.{arith}
use lib.ListN.{length-set, length-replicate}
use mathlib.Core.Logic.{inl, inr}
use Rattle.boxes.specs.Framing.{box_limit}
use Rattle.boxes.specs.Kinds.{pseg}
use Rattle.boxes.proofs.WalkLaws.{fewer, next_box, no_more, a_fault, walk_boxes, over_left}
use Rattle.tallying.proofs.FoundLaws.{is_kind, is_other}
use Rattle.partial.specs.Segments.{chunks_of}
use Rattle.rescue.specs.declared.table.Fate.{Fate}
use Rattle.rescue.specs.declared.table.Fate.TheVariants.{Stays}
use Rattle.segment.proofs.MetLaws.{met_one, met_none}
use Rattle.segment.proofs.TopsLaws.{tops_none}
use Rattle.surls.proofs.WithinLaws.{met_within, end_kept}
use Rattle.gathering.specs.Keeping.{Tried}
use Rattle.gathering.specs.Step.{Counted}
use Rattle.gathering.proofs.GatheredLaws.{gathered-segments, gathered_chunks}
use Rattle.gathering.proofs.KeepingLaws.{so_far_none}
use Rattle.gathering.proofs.KeepingPassLaws.{midway_none, midway_other, midway_refused, midway_kept, left-none, left-over, midway_end, midway_sound}
use Rattle.gathering.proofs.PassLaws.{searched_none}
use Rattle.gathering.proofs.keeping.keep_pass.Goals as goal
use Rattle.gathering.proofs.keeping.keep_pass.Goals.{then-eq+in-Err, then-eq+in-Ok, else-eq}

pub loop-at-init : goal.loop-at-init
unfolding chunks_of
loop-at-init c =
    let new = c.new-walk.ensures in
    let none = c.none-gathered.ensures in (
      omega (arith, over_left new),
      omega (arith, gathered-segments _ none),
      omega (arith, gathered_chunks _ none),
      length-replicate {A = Fate} 512 Stays,
      λ h boxed.
          midway_none _ h boxed (sym (walk_boxes _ new) ∙ boxed.boxes) (so_far_none _ h none (c.new-tables.ensures.1 _ h)) (searched_none _ refl boxed.boxes),
      ap (λ w. w.end.0) new,
    )

pub keep_segment-requires : goal.keep_segment-requires
unfolding box_limit
keep_segment-requires c =
    let inv = c.loop-at.invariant in
    let ends = (met_within _ _ _ (next_box c.step.ensures (met_one c.unwrap_or.ensures c.in-Some.is))).ends in
    (omega (arith, inv.0, inv.1), inv.2, omega (arith, ends, inv.5))

pub loop-at-preserved : goal.loop-at-preserved
unfolding Counted
loop-at-preserved c =
    let inv = c.loop-at.invariant in
    let step = next_box c.step.ensures (met_one c.unwrap_or.ensures c.in-Some.is) in
    elim c.if-eq.branch [
      | then-eq+in-Err w ↦
          let tried = w.keep_segment.ensures in
          rw (w.fates-is, w.numbers-is, w.tables-is, w.gathered-is, w.last-is) (
            omega (arith, inv.0, fewer _ _ step),
            omega (arith, inv.1),
            inv.2,
            simp length-set inv.3,
            λ h boxed.
                let so_far = inv.4 h boxed in
                let based = c.new-basis.ensures h boxed.mix boxed.in_pfil in
                let listed = c.tops_of.ensures h.boxes (omega (arith, boxed.in_pfil.within)) tops_none boxed.boxes in
                let kind = is_kind pseg _ c.eq.ensures w.if-eq.true in
                let told = tried.1 h so_far.kept based (record { mix = based.mix; known = so_far.known; listed = listed }) so_far.so in
                midway_refused _ h so_far step kind (omega (arith, inv.0, fewer _ _ step, inv.3)) _ (subst (Tried _ h _ _ _ _ _) w.in-Err.is told),
            ap (λ e. e.0) (end_kept _ _ _ step) ∙ inv.5,
          )
      | then-eq+in-Ok w ↦
          let tried = w.keep_segment.ensures in
          let counted = subst (Counted c.loop-at.gathered) w.in-Ok.is tried.0 in
          rw (w.fates-is, w.numbers-is, w.tables-is, w.gathered-is, w.last-is) (
            omega (arith, inv.0, fewer _ _ step),
            omega (arith, inv.1, counted.0),
            counted.1,
            simp length-set inv.3,
            λ h boxed.
                let so_far = inv.4 h boxed in
                let based = c.new-basis.ensures h boxed.mix boxed.in_pfil in
                let listed = c.tops_of.ensures h.boxes (omega (arith, boxed.in_pfil.within)) tops_none boxed.boxes in
                let kind = is_kind pseg _ c.eq.ensures w.if-eq.true in
                let told = tried.1 h so_far.kept based (record { mix = based.mix; known = so_far.known; listed = listed }) so_far.so in
                midway_kept _ h so_far step kind (omega (arith, inv.0, fewer _ _ step, inv.3)) (subst (Tried _ h _ _ _ _ _) w.in-Ok.is told),
            ap (λ e. e.0) (end_kept _ _ _ step) ∙ inv.5,
          )
      | else-eq w ↦
          rw (w.fates-is, w.numbers-is, w.tables-is, w.gathered-is, w.last-is) (
            omega (arith, inv.0, fewer _ _ step),
            omega (arith, inv.1),
            inv.2,
            inv.3,
            λ h boxed. midway_other _ h (inv.4 h boxed) step (is_other pseg _ c.eq.ensures w.if-eq.false),
            ap (λ e. e.0) (end_kept _ _ _ step) ∙ inv.5,
          )
    ]

pub returns-in_default : goal.returns-in_default
returns-in_default c =
    λ h boxed.
    let inv = c.loop-at.invariant in
    let so_far = inv.4 h boxed in
    elim (met_none c.unwrap_or.ensures c.in_default.is) [
      | inl end ↦ midway_end _ h so_far (left-none _ h so_far (no_more c.step.ensures end)) inv.3
      | inr fault ↦ absurd (midway_sound _ h so_far (a_fault c.step.ensures fault.1))
    ]

pub returns : goal.returns
returns c =
    λ h boxed.
    let inv = c.loop-at.invariant in
    let so_far = inv.4 h boxed in
    midway_end _ h so_far (left-over _ h so_far (omega (arith, inv.0))) inv.3
