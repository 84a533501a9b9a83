-- `reading::indexed::index_stages` meets its contract: nothing where there is no index, else 36 and then what is
-- marked.
use mathlib.Core.Path.{sym, ap, ◌∙◌}
use Rattle.boxes.proofs.ToldLaws.{handed_on}
use Rattle.reading.specs.Staged.{staged}
use Rattle.reading.proofs.StagedLaws.{nothing-staged, index-refused, index-marked}
use Rattle.reading.proofs.indexed.index_stages.Goals as goal

pub returns-then-not-in_pfil-in_segments : goal.returns-then-not-in_pfil-in_segments
returns-then-not-in_pfil-in_segments c =
    λ h ss number head known by has. sym (nothing-staged _ _ h ss has (c.if-not-in_pfil-in_segments.true))

pub returns-in_err-marks : goal.returns-in_err-marks
returns-in_err-marks c =
    λ h ss number head known by has.
    handed_on (λ n. n) _ _ c.from_residual.ensures.1
    ∙ sym (index-refused _ h _ ss number _ _ _ (c.index_of.ensures h ss number head known by) _ c.in_err-marks.was)

pub returns : goal.returns
returns c =
    λ h ss number head known by has.
    let (is, read, marked) = index-marked _ h _ ss number _ _ _ (c.index_of.ensures h ss number head known by) c.in_ok-marks.was in
    c.past_36.ensures is marked ∙ ap (staged _) (sym read)
