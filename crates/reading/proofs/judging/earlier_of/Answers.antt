-- `reading::judging::earlier_of` meets its contract: the heading, then its segments, then the index of a file that has
-- one.
use mathlib.Core.Path.{sym, ◌∙◌}
use Rattle.boxes.proofs.ToldLaws.{told-ok, told-err, handed_on}
use Rattle.partial.specs.Limits.{source_limit}
use Rattle.partial.proofs.Reading.RefusalLaws.{earlier_headless as none-earlier}
use Rattle.reading.specs.Judged.{judged_by}
use Rattle.reading.proofs.JudgedLaws.{heading_refused, heading-found}
use Rattle.reading.proofs.JudgedLaws.{earlier_headless, earlier_by, earlier_unread, earlier_begun, gathered_known, kept_refused, kept_earlier, noted_sized, noted_sourced}
use Rattle.reading.proofs.judging.earlier_of.Goals as goal

pub returns-in_err-head : goal.returns-in_err-head
returns-in_err-head c =
    let headless = heading_refused _ c.heading_of.ensures c.in_err-head.was in (
      handed_on judged_by _ _ c.from_residual.ensures.1 ∙ sym (earlier_headless _ headless),
      kept_refused _ (none-earlier source_limit _ headless),
      kept_refused _ (none-earlier source_limit _ headless),
    )

pub returns-in_err-gathered : goal.returns-in_err-gathered
returns-in_err-gathered c =
    let (h, known, same) = heading-found _ c.heading_of.ensures c.in_ok-head.was in
    let (answer, _, noted) = c.segments_of.ensures h known same in (
      handed_on judged_by _ _ c.from_residual-in_err-gathered.ensures.1 ∙ sym (earlier_unread _ known (told-err (λ g. g) answer c.in_err-gathered.was)),
      kept_earlier _ h known (noted_sized _ h known noted),
      kept_earlier _ h known (noted_sourced _ h known noted),
    )

pub returns-then-not-has_segment : goal.returns-then-not-has_segment
returns-then-not-has_segment c =
    let (h, known, same) = heading-found _ c.heading_of.ensures c.in_ok-head.was in
    let rule = c.has_segment.ensures _ h same in
    let (answer, _, noted) = c.segments_of.ensures h known same in (
      sym (earlier_begun _ known (sym rule ∙ c.if-not-has_segment.true) (told-ok (λ g. g) answer c.in_ok-gathered.was) same),
      kept_earlier _ h known (noted_sized _ h known noted),
      kept_earlier _ h known (noted_sourced _ h known noted),
    )

pub returns : goal.returns
returns c =
    let (h, known, same) = heading-found _ c.heading_of.ensures c.in_ok-head.was in
    let rule = c.has_segment.ensures _ h same in
    let (answer, _, noted) = c.segments_of.ensures h known same in
    let (ss, all, of) = gathered_known _ h (told-ok (λ g. g) answer c.in_ok-gathered.was) in (
      c.with_index.ensures h ss known same all of (noted ss all) ∙ sym (earlier_by _ known (sym rule ∙ c.if-not-has_segment.false)),
      kept_earlier _ h known (noted_sized _ h known noted),
      kept_earlier _ h known (noted_sourced _ h known noted),
    )
