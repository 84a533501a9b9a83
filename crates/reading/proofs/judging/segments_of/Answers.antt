-- `reading::judging::segments_of` meets its contract: 13, then the pass, then 25 and 40.
use Prim.Native.Nat.{◌≤◌}
use mathlib.Core.Path.{sym, ap, ◌∙◌}
use native.Mathlib.Omega.{arith}
use lib.ListN.{length}
use Rattle.boxes.specs.Answer.{given}
use Rattle.boxes.specs.Kinds.{pseg, those}
use Rattle.boxes.proofs.ToldLaws.{handed_on}
use Rattle.partial.specs.Limits.{segment_limit}
use Rattle.gathering.proofs.GatheredLaws.{gathered-sources}
use Rattle.reading.proofs.JudgedLaws.{facts_segments, opened, gathered_crowded, gathered_refused, gathered_differ, gathered_ninth, gathered_given, kept_ungathered}
use Rattle.reading.proofs.JudgedLaws.{passed_refused, passed_given, passed_kept, passed_noted}
use Rattle.reading.proofs.judging.segments_of.Goals as goal

pub returns-then-head-gt-SEGMENT_LIMIT : goal.returns-then-head-gt-SEGMENT_LIMIT
returns-then-head-gt-SEGMENT_LIMIT c =
    λ h known same.
    let crowded = gathered_crowded _ h (omega (arith, facts_segments _ h _ same)) in
    (sym crowded, kept_ungathered _ _ h crowded, kept_ungathered _ _ h crowded)

pub returns-in_err-gathered : goal.returns-in_err-gathered
returns-in_err-gathered c =
    λ h known same.
    let few : length (those pseg h.boxes) ≤ segment_limit = omega (arith, c.if-head-gt-SEGMENT_LIMIT.false, facts_segments _ h _ same) in
    let gathers = c.pass.ensures h (opened _ h known same few) in
    let refused = gathered_refused _ h few (passed_refused _ h _ _ _ _ _ _ gathers c.in_err-gathered.was) in
    (handed_on (λ g. g) _ _ c.from_residual.ensures.1 ∙ sym refused, passed_kept _ h _ _ _ _ _ _ gathers, passed_noted _ h _ _ _ _ _ _ gathers)

pub returns-then-not-all_agree : goal.returns-then-not-all_agree
returns-then-not-all_agree c =
    λ h known same.
    let few : length (those pseg h.boxes) ≤ segment_limit = omega (arith, c.if-head-gt-SEGMENT_LIMIT.false, facts_segments _ h _ same) in
    let gathers = c.pass.ensures h (opened _ h known same few) in
    let (ss, read, of, noted) = passed_given _ h _ _ _ _ _ _ gathers c.in_ok-gathered.was in
    let differ = sym (c.all_agree.ensures ss (gathered-sources ss of) noted.sizes) ∙ c.if-not-all_agree.true in
    (sym (gathered_differ _ h few read differ), passed_kept _ h _ _ _ _ _ _ gathers, passed_noted _ h _ _ _ _ _ _ gathers)

pub returns-then-gathered-gt-LAYER_LIMIT : goal.returns-then-gathered-gt-LAYER_LIMIT
returns-then-gathered-gt-LAYER_LIMIT c =
    λ h known same.
    let few : length (those pseg h.boxes) ≤ segment_limit = omega (arith, c.if-head-gt-SEGMENT_LIMIT.false, facts_segments _ h _ same) in
    let gathers = c.pass.ensures h (opened _ h known same few) in
    let (ss, read, of, noted) = passed_given _ h _ _ _ _ _ _ gathers c.in_ok-gathered.was in
    let agrees = sym (c.all_agree.ensures ss (gathered-sources ss of) noted.sizes) ∙ c.if-not-all_agree.false in
    let ninth = gathered_ninth _ h few read agrees (omega (arith, gathered-sources ss of)) in
    (sym ninth, passed_kept _ h _ _ _ _ _ _ gathers, passed_noted _ h _ _ _ _ _ _ gathers)

pub returns : goal.returns
returns c =
    λ h known same.
    let few : length (those pseg h.boxes) ≤ segment_limit = omega (arith, c.if-head-gt-SEGMENT_LIMIT.false, facts_segments _ h _ same) in
    let gathers = c.pass.ensures h (opened _ h known same few) in
    let (ss, read, of, noted) = passed_given _ h _ _ _ _ _ _ gathers c.in_ok-gathered.was in
    let agrees = sym (c.all_agree.ensures ss (gathered-sources ss of) noted.sizes) ∙ c.if-not-all_agree.false in
    let all = gathered_given _ h few read agrees (omega (arith, gathered-sources ss of)) in
    (ap given of ∙ sym all, passed_kept _ h _ _ _ _ _ _ gathers, passed_noted _ h _ _ _ _ _ _ gathers)
