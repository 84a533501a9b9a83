-- `reading::judging::judge_into` meets its contract: the heading, then 12, then its segments, then its index.
use mathlib.Core.Path.{sym, ◌∙◌}
use Rattle.boxes.proofs.ToldLaws.{told-ok, told-err, handed_on}
use Rattle.reading.specs.Judged.{judged_by}
use Rattle.reading.proofs.JudgedLaws.{heading_refused, heading-found}
use Rattle.reading.proofs.JudgedLaws.{reading_headless, reading_none, reading_by, judged_refused, gathered_known, read_refused, kept_refused, kept_read, noted_sized, noted_sourced}
use Rattle.reading.proofs.judging.judge_into.Goals as goal

pub returns-in_err-head : goal.returns-in_err-head
returns-in_err-head c =
    let headless = reading_headless _ (heading_refused _ c.heading_of.ensures c.in_err-head.was) in (
      handed_on judged_by _ _ c.from_residual.ensures.1 ∙ sym headless,
      kept_refused _ (read_refused _ headless),
      kept_refused _ (read_refused _ headless),
      kept_refused _ (read_refused _ headless),
    )

pub returns-then-not-has_segment : goal.returns-then-not-has_segment
returns-then-not-has_segment c =
    let (h, known, same) = heading-found _ c.heading_of.ensures c.in_ok-head.was in
    let rule = c.has_segment.ensures _ h same in
    let none = reading_none _ known (sym rule ∙ c.if-not-has_segment.true) in
    (sym none, kept_refused _ (read_refused _ none), kept_refused _ (read_refused _ none), kept_refused _ (read_refused _ none))

pub returns-in_err-gathered : goal.returns-in_err-gathered
returns-in_err-gathered c =
    let (h, known, same) = heading-found _ c.heading_of.ensures c.in_ok-head.was in
    let rule = c.has_segment.ensures _ h same in
    let (answer, rows, noted) = c.segments_of.ensures h known same in
    let by = reading_by _ known (sym rule ∙ c.if-not-has_segment.false) in
    let refused = by ∙ judged_refused _ h (told-err (λ g. g) answer c.in_err-gathered.was) in (
      handed_on judged_by _ _ c.from_residual-in_err-gathered.ensures.1 ∙ sym refused,
      kept_read _ h known rows,
      kept_read _ h known (noted_sized _ h known noted),
      kept_read _ h known (noted_sourced _ h known noted),
    )

pub returns : goal.returns
returns c =
    let (h, known, same) = heading-found _ c.heading_of.ensures c.in_ok-head.was in
    let rule = c.has_segment.ensures _ h same in
    let (answer, rows, noted) = c.segments_of.ensures h known same in
    let by = reading_by _ known (sym rule ∙ c.if-not-has_segment.false) in
    let (ss, all, of) = gathered_known _ h (told-ok (λ g. g) answer c.in_ok-gathered.was) in (
      c.with_index.ensures h ss known same all of (noted ss all) ∙ sym by,
      kept_read _ h known rows,
      kept_read _ h known (noted_sized _ h known noted),
      kept_read _ h known (noted_sourced _ h known noted),
    )
