-- `indexrows::calls::index` meets its contract: the judgement, then 26 of the table, then the rows are put and marked.
use mathlib.Core.Path.{subst}
use native.Mathlib.Omega.{arith}
use Rattle.refusals.specs.declared.Refusal.TheVariants.{TableTooShort}
use Rattle.gathering.proofs.GatheredLaws.{gathered-sources}
use Rattle.fileindex.specs.File.{Tells}
use Rattle.fileindex.proofs.FileLaws.{told_read}
use Rattle.reading.proofs.JudgedLaws.{accepted, read_refused, read_given, judgement_refused, judgement_given}
use Rattle.reading.proofs.TableLaws.{accepted_kept}
use Rattle.indexrows.proofs.HadLaws.{starts_filled, accepted_in}
use Rattle.indexrows.proofs.CallsLaws.{index-refused, index_short, index_given, indexes_refused, indexes_handed, indexes_given, none_filled, told-filled, told_sound, filled-room, below_all, pfil-number, pfil_low, few_sources}
use Rattle.indexrows.proofs.MarkingLaws.{filled_all}
use Rattle.indexrows.proofs.calls.index.Goals as goal

pub returns-in_err-judged : goal.returns-in_err-judged
returns-in_err-judged c =
    indexes_handed _ _ _ _ c.from_residual.ensures.1 (index-refused _ _ (read_refused _ (judgement_refused c.judge_into.ensures.0 c.in_err-judged.was)))

pub returns-then-table-count : goal.returns-then-table-count
returns-then-table-count c =
    let (judged, stands, sized, sourced) = c.judge_into.ensures in
    let a = accepted _ (judgement_given judged c.in_ok-judged.was) in
    indexes_refused _ _ TableTooShort (index_short _ _ (read_given _ a) a.head a.index (omega (arith, a.counted)))

pub returns-then-count-eq0 : goal.returns-then-count-eq0
returns-then-count-eq0 c =
    let (judged, stands, sized, sourced) = c.judge_into.ensures in
    let a = accepted _ (judgement_given judged c.in_ok-judged.was) in
    indexes_given _ _ a.ss a.boxes (index_given _ _ (read_given _ a) a.head a.index (omega (arith, a.counted))) (omega (arith, a.counted))
    (none_filled a.ss a.boxes _ (omega (arith, a.counted)))

pub overflow_add-in_pfil : goal.overflow_add-in_pfil
overflow_add-in_pfil c =
    let (judged, stands, sized, sourced) = c.judge_into.ensures in
    let a = accepted _ (judgement_given judged c.in_ok-judged.was) in
    let own = sourced a.ss (read_given _ a) a.h a.head in
    let found = c.source_of-in_pfil.ensures in
    omega (arith, pfil_low a own.lists found)

pub returns-in_err-index_of : goal.returns-in_err-index_of
returns-in_err-index_of c =
    let (judged, stands, sized, sourced) = c.judge_into.ensures in
    let a = accepted _ (judgement_given judged c.in_ok-judged.was) in
    let own = sourced a.ss (read_given _ a) a.h a.head in
    let found = c.source_of-in_pfil.ensures in
    let ends = sized a.ss (read_given _ a) in
    let few = c.if-table-count.false in
    let tells = told_read _ _ _ _ _ _ _ a.h a.head c.index_of.ensures a.ss a.all ends own.sources (pfil-number a own.lists found) in
    absurd (told_sound _ a.h a.ss _ _ a.boxes _ (subst (Tells _ _ _ _) c.in_err-index_of.was tells) a.index)

pub mark_all-requires : goal.mark_all-requires
mark_all-requires c =
    let (judged, stands, sized, sourced) = c.judge_into.ensures in
    let a = accepted _ (judgement_given judged c.in_ok-judged.was) in
    let own = sourced a.ss (read_given _ a) a.h a.head in
    let found = c.source_of-in_pfil.ensures in
    let ends = sized a.ss (read_given _ a) in
    let few = c.if-table-count.false in
    let tells = told_read _ _ _ _ _ _ _ a.h a.head c.index_of.ensures a.ss a.all ends own.sources (pfil-number a own.lists found) in
    let numbered = told-filled _ a.h a.ss _ _ a.boxes _ (subst (Tells _ _ _ _) c.in_ok-index_of.was tells) a.index (omega (arith, a.counted, few)) in
    let file = accepted_kept a stands (omega arith) sourced (omega arith) in (
      omega (arith, a.counted, filled-room _ a.boxes _ numbered),
      omega (arith, c.max-below.ensures, few_sources a, pfil_low a own.lists found),
      (a.ss, accepted_in _ a.h a.head a.all file ends),
    )

pub returns : goal.returns
returns c =
    let (judged, stands, sized, sourced) = c.judge_into.ensures in
    let a = accepted _ (judgement_given judged c.in_ok-judged.was) in
    let own = sourced a.ss (read_given _ a) a.h a.head in
    let found = c.source_of-in_pfil.ensures in
    let ends = sized a.ss (read_given _ a) in
    let few = c.if-table-count.false in
    let tells = told_read _ _ _ _ _ _ _ a.h a.head c.index_of.ensures a.ss a.all ends own.sources (pfil-number a own.lists found) in
    let numbered = told-filled _ a.h a.ss _ _ a.boxes _ (subst (Tells _ _ _ _) c.in_ok-index_of.was tells) a.index (omega (arith, a.counted, few)) in
    let file = accepted_kept a stands (omega arith) sourced (omega arith) in
    let marked = c.mark_all.ensures a.ss a.boxes (accepted_in _ a.h a.head a.all file ends) a.counted (starts_filled _ _ numbered) in
    let last = c.max-below.ensures in
    indexes_given _ _ a.ss a.boxes (index_given _ _ (read_given _ a) a.head a.index (omega (arith, a.counted, few))) a.counted
    (filled_all a.ss _ a.boxes _ numbered marked
    (below_all _ a.h a.ss a.all a.index _ (omega (arith, last, gathered-sources a.ss a.gathered)) (omega (arith, last, pfil-number a own.lists found))))
