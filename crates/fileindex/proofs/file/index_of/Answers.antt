-- `fileindex::file::index_of` meets its contract. The loop's invariant: the indexes so far are marked, and the boxes
-- that are left decide.
use Prim.Native.Nat.{ℕ, ◌≤◌}
use mathlib.Core.Path.{refl, sym, ap, subst, ◌∙◌}
use borrow.Author.Tests.{leb-true}
use Rattle.std.specs.Prelude.{None, Some, Ok}
use Rattle.boxes.specs.Framing.{box_of}
use Rattle.boxes.proofs.WalkLaws.{fewer, next_box, no_more, a_fault, walk_boxes}
use Rattle.partial.specs.Limits.{segment_limit}
use Rattle.partial.proofs.Reading.HeadingAppendLaws.{headed}
use Rattle.indexing.specs.Index.{CountedIn}
use Rattle.fileindex.specs.File.{end_in}
use Rattle.fileindex.specs.Parts.{Adds}
use Rattle.fileindex.proofs.FileLaws.{end_said, by_parts, tells_file}
use Rattle.fileindex.proofs.HeadingLaws.{heading-holds}
use Rattle.fileindex.proofs.PartLaws.{ends_as}
use Rattle.fileindex.proofs.PassLaws.{default_none, handed_told, Midway, midway_none, next, next_inside, few_passed, midway_refused, midway_more, midway_end, midway_sound}
use Rattle.fileindex.proofs.SourceRowLaws.{no-source_put}
use Rattle.fileindex.proofs.file.index_of.Goals as goal

pub loop-b-init : goal.loop-b-init
loop-b-init c =
    let new = c.new-walk.ensures in (
      refl,
      λ h ss number head known numbered.
          let t = headed _ h head in
          midway_none _ _ _ _ _ (default_none _ c.default-marks.ensures) new (sym (walk_boxes _ new) ∙ t.boxes) (heading-holds _ _ h ss t known numbered) (leb-true _ _ t.small),
    )

pub returns-in_err-more : goal.returns-in_err-more
unfolding Adds
returns-in_err-more c h ss number head known numbered =
    let so_far = c.loop-b.invariant.1 h ss number head known numbered in
    let step = next_box c.step.ensures (c.in_ok-b.was ∙ ap Ok c.in-Some.is) in
    let box = next _ _ _ _ _ so_far step in
    let ends = ends_as number _ (end_in _) _ box.here (c.source_of-source.ensures _ number box.here box.held).each (end_said _ _ c.sizes_at-size.ensures) in
    let (told, _) = c.index_at.ensures _ _ _ box.here box.held (next_inside _ _ _ _ _ so_far step) ends in
    let fault = sym (by_parts _ h _ ss) ∙ midway_refused _ _ _ _ _ so_far step (subst (Adds _ _ _ _) c.in_err-more.was told) in
    handed_told number _ _ _ _ c.from_residual-in_err-more.ensures.1 fault

pub loop-b-smaller : goal.loop-b-smaller
loop-b-smaller c = fewer _ _ (next_box c.step.ensures (c.in_ok-b.was ∙ ap Ok c.in-Some.is))

pub loop-b-smaller-in-Some-2 : goal.loop-b-smaller-in-Some-2
loop-b-smaller-in-Some-2 c = fewer _ _ (next_box c.step.ensures (c.in_ok-b.was ∙ ap Ok c.in-Some.is))

pub loop-b-preserved : goal.loop-b-preserved
unfolding CountedIn box_of
loop-b-preserved c =
    let inv = c.loop-b.invariant in
    let step = next_box c.step.ensures (c.in_ok-b.was ∙ ap Ok c.in-Some.is) in (
      c.index_at.auto.table ∙ inv.0,
      λ h ss number head known numbered.
          let so_far = inv.1 h ss number head known numbered in
          let box = next _ _ _ _ _ so_far step in
          let source = c.source_of-source.ensures _ number box.here box.held in
          let low = source.most segment_limit (subst (λ (n : ℕ). n ≤ segment_limit) (sym numbered.pfil) (numbered.small _)) numbered.small in
          let ends = ends_as number _ (end_in _) _ box.here source.each (end_said _ _ c.sizes_at-size.ensures) in
          let (told, counted) = c.index_at.ensures _ _ _ box.here box.held (next_inside _ _ _ _ _ so_far step) ends in
          subst (Midway _ _ _ _ _ _ _ _) (sym (c.segments_with-segments.ensures (few_passed _ _ _ _ _ so_far step)))
          (midway_more _ _ _ _ _ so_far step _ None (subst (Adds _ _ _ _) (c.in_ok-more.was ∙ ap Ok c.in_default-2.is) told) (subst (CountedIn _ _) (c.in_ok-more.was ∙ ap Ok c.in_default-2.is) counted) _ _ source.each low (no-source_put _ _ _)),
    )

pub loop-b-preserved-in-Some-2 : goal.loop-b-preserved-in-Some-2
unfolding CountedIn box_of
loop-b-preserved-in-Some-2 c =
    let inv = c.loop-b.invariant in
    let step = next_box c.step.ensures (c.in_ok-b.was ∙ ap Ok c.in-Some.is) in (
      c.put_source.ensures.long ∙ c.index_at.auto.table ∙ inv.0,
      λ h ss number head known numbered.
          let so_far = inv.1 h ss number head known numbered in
          let box = next _ _ _ _ _ so_far step in
          let source = c.source_of-source.ensures _ number box.here box.held in
          let low = source.most segment_limit (subst (λ (n : ℕ). n ≤ segment_limit) (sym numbered.pfil) (numbered.small _)) numbered.small in
          let ends = ends_as number _ (end_in _) _ box.here source.each (end_said _ _ c.sizes_at-size.ensures) in
          let (told, counted) = c.index_at.ensures _ _ _ box.here box.held (next_inside _ _ _ _ _ so_far step) ends in
          subst (Midway _ _ _ _ _ _ _ _) (sym (c.segments_with-segments.ensures (few_passed _ _ _ _ _ so_far step)))
          (midway_more _ _ _ _ _ so_far step _ (Some _) (subst (Adds _ _ _ _) (c.in_ok-more.was ∙ ap Ok c.in-Some-2.is) told) (subst (CountedIn _ _) (c.in_ok-more.was ∙ ap Ok c.in-Some-2.is) counted) _ _ source.each low c.put_source.ensures),
    )

pub returns : goal.returns
returns c h ss number head known numbered =
    let end = no_more c.step.ensures (c.in_ok-b.was ∙ ap Ok c.in_default.is) in
    tells_file _ h _ number ss _ _ _ (midway_end _ _ _ _ _ (c.loop-b.invariant.1 h ss number head known numbered) end)

pub returns-in_err-b : goal.returns-in_err-b
returns-in_err-b c h ss number head known numbered =
    absurd (midway_sound _ _ _ _ _ (c.loop-b.invariant.1 h ss number head known numbered) (a_fault c.step.ensures c.in_err-b.was))
