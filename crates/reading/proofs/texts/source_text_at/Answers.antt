-- `reading::texts::source_text_at` meets its contract: the judgement, then what stands where the list of the source does.
use mathlib.Core.Path.{sym, ap, subst, ◌∙◌}
use native.Mathlib.Omega.{arith}
use Rattle.boxes.specs.Answer.{given}
use Rattle.partial.specs.Tables.{nowhere}
use Rattle.sources.specs.Held.{ListHeld}
use Rattle.gathering.proofs.GatheredLaws.{gathered-sources}
use Rattle.boxes.proofs.ToldLaws.{handed_on}
use Rattle.surls.specs.Parts.{part_of}
use Rattle.reading.proofs.JudgedLaws.{accepted, read_refused, read_given, judgement_refused, judgement_given}
use Rattle.reading.proofs.TextLaws.{source_given, source_absent, source_first, source_refused}
use Rattle.reading.proofs.texts.source_text_at.Goals as goal

pub returns-in_err-judged : goal.returns-in_err-judged
returns-in_err-judged c =
    handed_on part_of _ _ c.from_residual.ensures.1 ∙ sym (source_refused _ _ _ (read_refused _ (judgement_refused c.judge.ensures.0 c.in_err-judged.was)))

pub returns-then-judged-source : goal.returns-then-judged-source
unfolding nowhere
returns-then-judged-source c =
    let a = accepted _ (judgement_given c.judge.ensures.0 c.in_ok-judged.was) in
    sym (source_given _ a.head (read_given _ a) _ _ ∙ ap given (source_absent _ _ a.h a.ss _ (omega (arith, gathered-sources a.ss a.gathered))))

pub returns : goal.returns
returns c =
    let a = accepted _ (judgement_given c.judge.ensures.0 c.in_ok-judged.was) in
    let sourced = c.judge.ensures.2 a.ss (read_given _ a) a.h a.head in
    let source = c.args.source in
    let there = sourced.lists.each source (omega (arith, gathered-sources a.ss a.gathered, c.if-judged-source.false)) in
    let held = subst (ListHeld _ a.h a.ss _) (sym c.list_at.ensures) there in
    ap given (c.first_text.ensures _ held.stands.boxes held.stands.inside)
    ∙ sym (source_given _ a.head (read_given _ a) _ _ ∙ ap given (source_first _ _ a.h a.ss _ held))
