-- `listing::calls::list` meets its contract: the judgement, then 26 of the tables, then the lists by what is
-- kept.
use Prim.Native.Nat.{◌*◌, ◌≤◌}
use mathlib.Core.Path.{refl, sym, ap, ◌∙◌}
use native.Mathlib.Omega.{arith}
use lib.ListN.{length}
use Rattle.boxes.specs.Answer.{refused}
use Rattle.partial.specs.Segments.{chunks_of}
use Rattle.partial.specs.Sources.{of_source}
use Rattle.partial.specs.Tables.{segment_row_length, chunk_row_length, chunk_rows}
use Rattle.partial.proofs.Reading.RowLaws.{segment_rows_long, all_rows_long}
use Rattle.refusals.specs.Refusals.{refusal_no}
use Rattle.std.proofs.lemmas.Result.{err_from_is_err_and}
use Rattle.gathering.proofs.GatheredLaws.{gathered-segments, gathered_chunks}
use Rattle.reading.proofs.JudgedLaws.{accepted, read_refused, read_given, judgement_refused, judgement_given}
use Rattle.reading.proofs.TableLaws.{tabled_refused, segments_short, chunks_short, tabled_given, accepted_kept}
use Rattle.listing.proofs.CallsLaws.{listed_refused, leaves_refused, listing_roomy}
use Rattle.listing.proofs.ToldLaws.{accepted_told}
use Rattle.listing.proofs.calls.list.Goals as goal

pub returns-in_err-judged : goal.returns-in_err-judged
returns-in_err-judged c =
    let (e, is, same) = err_from_is_err_and c.from_residual.result c.from_residual.ensures.1 in
    let was = read_refused _ (judgement_refused c.judge_into.ensures.0 c.in_err-judged.was) ∙ ap (λ e. refused (refusal_no e)) (sym same) in
    rw is (leaves_refused _ _ _ _ _ (listed_refused _ _ _ _ _ _ (tabled_refused _ _ _ was)))

pub returns-then-segments-gathered : goal.returns-then-segments-gathered
returns-then-segments-gathered c =
    let a = accepted _ (judgement_given c.judge_into.ensures.0 c.in_ok-judged.was) in
    leaves_refused _ _ _ _ _ (listed_refused _ _ _ _ _ _ (segments_short _ _ _ a.ss (read_given _ a) (omega (arith, gathered-segments a.ss a.gathered))))

pub returns-then-chunks-gathered : goal.returns-then-chunks-gathered
returns-then-chunks-gathered c =
    let a = accepted _ (judgement_given c.judge_into.ensures.0 c.in_ok-judged.was) in
    leaves_refused _ _ _ _ _ (listed_refused _ _ _ _ _ _ (chunks_short _ _ _ a.ss (read_given _ a) (omega (arith, gathered_chunks a.ss a.gathered))))

pub list_kept-requires : goal.list_kept-requires
list_kept-requires c =
    let (judged, kept, _, sourced) = c.judge_into.ensures in
    let a = accepted _ (judgement_given judged c.in_ok-judged.was) in
    let file = accepted_kept a kept (omega arith) sourced (omega arith) in
    (omega (arith, file.count, file.few), omega (arith, gathered_chunks a.ss a.gathered, file.chunks))

pub returns : goal.returns
unfolding chunk_rows
returns c =
    let (judged, kept, sized, sourced) = c.judge_into.ensures in
    let a = accepted _ (judgement_given judged c.in_ok-judged.was) in
    let args = c.args in
    let said = c.sizes_at.ensures ∙ (sized a.ss (read_given _ a)).said args.source in
    let long = c.described-end.ensures (of_source args.source a.ss) said in
    let segments : segment_row_length * length a.ss ≤ length args.segments.now = omega (arith, gathered-segments a.ss a.gathered, c.if-segments-gathered.false) in
    let chunks : chunk_row_length * length (chunks_of a.ss) ≤ length args.chunks.now = omega (arith, gathered_chunks a.ss a.gathered, c.if-chunks-gathered.false) in
    listing_roomy _ _ _ _ _ _ (tabled_given _ _ _ a.ss (read_given _ a) segments chunks)
    (c.list_kept.ensures a.ss (accepted_told a _ refl refl kept sourced (omega arith) (omega arith) long) (omega (arith, segment_rows_long a.ss)) (omega (arith, all_rows_long 0 a.ss)))
