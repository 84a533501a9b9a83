-- `surltexts::calls::segment_texts` meets its contract: the judgement, then the texts in the box of the segment.
use mathlib.Core.Path.{sym, ap, ◌∙◌}
use Rattle.partial.proofs.Reading.HeadingAppendLaws.{headed}
use Rattle.tallying.specs.Found.{found_of}
use Rattle.reading.proofs.JudgedLaws.{accepted, read_refused, read_given, judgement_refused, judgement_given}
use Rattle.surltexts.proofs.CallsLaws.{tells_handed, tells_none, tabled_refused, tabled-roomy}
use Rattle.surltexts.proofs.FindLaws.{segment_known, segment_unknown}
use Rattle.surltexts.proofs.calls.segment_texts.Goals as goal

pub returns-in_err-judge : goal.returns-in_err-judge
returns-in_err-judge c =
    tells_handed _ _ _ c.from_residual.ensures.1 (tabled_refused _ _ _ _ (read_refused _ (judgement_refused c.judge.ensures.0 c.in_err-judge.was)))

pub returns-in-Some : goal.returns-in-Some
returns-in-Some c =
    let a = accepted _ (judgement_given c.judge.ensures.0 c.in_ok-judge.was) in
    let found = ap found_of (sym c.in-Some.is) ∙ c.segment_at.ensures a.h.boxes (headed _ a.h a.head).boxes in
    let (inner, known, told, inside) = segment_known _ a.h a.head a.all _ c.in-Some.b found c.as_container.ensures in
    rw (tabled-roomy _ _ _ _ (read_given _ a) told) (c.texts_in.ensures inner known inside)

pub returns-in-None : goal.returns-in-None
returns-in-None c =
    let a = accepted _ (judgement_given c.judge.ensures.0 c.in_ok-judge.was) in
    let none = ap found_of (sym c.in-None.is) ∙ c.segment_at.ensures a.h.boxes (headed _ a.h a.head).boxes in
    rw (tabled-roomy _ _ _ _ (read_given _ a) (segment_unknown _ a.h a.head a.all _ none)) (tells_none _ _ c.default.ensures)
