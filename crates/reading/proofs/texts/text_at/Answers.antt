-- `reading::texts::text_at` meets its contract: the judgement, then what the heading tells of that text.
use mathlib.Core.Path.{◌∙◌}
use Rattle.boxes.proofs.ToldLaws.{handed_on}
use Rattle.surls.specs.Parts.{part_of}
use Rattle.surls.specs.declared.first.Text.TheVariants.{Url, Mime}
use Rattle.reading.proofs.JudgedLaws.{accepted, read_refused, judgement_refused, judgement_given}
use Rattle.reading.proofs.TextLaws.{text_refused, text_given, url_there, mime_there}
use Rattle.reading.proofs.texts.text_at.Goals as goal

pub returns-in_err-judged : goal.returns-in_err-judged
returns-in_err-judged c =
    handed_on part_of _ _ c.from_residual.ensures.1 ∙ text_refused _ _ (read_refused _ (judgement_refused c.judge.ensures.0 c.in_err-judged.was))

pub returns-in-Url : goal.returns-in-Url
returns-in-Url c =
    let a = accepted _ (judgement_given c.judge.ensures.0 c.in_ok-judged.was) in
    rw c.in-Url.is (text_given Url _ a (url_there _ a))

pub returns-in-Mime : goal.returns-in-Mime
returns-in-Mime c =
    let a = accepted _ (judgement_given c.judge.ensures.0 c.in_ok-judged.was) in
    rw c.in-Mime.is (text_given Mime _ a (mime_there _ a))
