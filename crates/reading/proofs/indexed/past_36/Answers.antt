-- `reading::indexed::past_36` meets its contract: each test is a stage's.
use mathlib.Core.Path.{sym}
use Rattle.reading.proofs.StagedLaws.{marked-deep, marked_both, marked_unknown, marked-told}
use Rattle.reading.proofs.indexed.past_36.Goals as goal

pub returns-then-marks : goal.returns-then-marks
returns-then-marks c = λ is marked. sym (marked-deep is marked _ c.if-marks.true)

pub returns-then-both : goal.returns-then-both
returns-then-both c = λ is marked. sym (marked_both is marked _ c.if-marks.false c.if-both.true)

pub returns-then-marks-2 : goal.returns-then-marks-2
returns-then-marks-2 c =
    λ is marked. sym (marked_unknown is marked _ c.if-marks.false c.if-both.false c.if-marks-2.true)

pub returns : goal.returns
returns c = λ is marked. sym (marked-told is marked _ c.if-marks.false c.if-both.false c.if-marks-2.false)
