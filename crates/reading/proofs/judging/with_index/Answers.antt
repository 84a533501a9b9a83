-- `reading::judging::with_index` meets its contract: the stages of the index, and what is told with them.
use mathlib.Core.Path.{sym, ◌∙◌}
use Rattle.boxes.proofs.ToldLaws.{told-ok, told-err, handed_on}
use Rattle.reading.specs.Judged.{judged_by}
use Rattle.reading.proofs.JudgedLaws.{judged-unindexed, judged_given}
use Rattle.reading.proofs.StagedLaws.{stages_given}
use Rattle.reading.proofs.judging.with_index.Goals as goal

pub returns-in_err-index : goal.returns-in_err-index
returns-in_err-index c =
    λ h ss head facts all same noted.
    let told = stages_given _ h ss head facts all same noted c.source_of-source.ensures c.index_stages.ensures in
    handed_on judged_by _ _ c.from_residual.ensures.1 ∙ sym (judged-unindexed _ h all (told-err (λ n. n) told c.in_err-index.was))

pub returns : goal.returns
returns c =
    λ h ss head facts all same noted.
    let told = stages_given _ h ss head facts all same noted c.source_of-source.ensures c.index_stages.ensures in
    sym (judged_given _ h all (told-ok (λ n. n) told c.in_ok-index.was) facts same)
