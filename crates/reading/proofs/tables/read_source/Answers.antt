-- `reading::tables::read_source` meets its contract: the judgement, then 26, then the pass that fills the tables.
use Prim.Native.Nat.{ℕ, ◌*◌, ◌≤◌}
use mathlib.Core.List.{List}
use mathlib.Core.Path.{◌≡◌, sym, ap, subst, ◌∙◌}
use native.Mathlib.Omega.{arith}
use lib.ListN.{length}
use Rattle.boxes.specs.Answer.{refused, given}
use Rattle.boxes.proofs.AnswerLaws.{not_both, given_same}
use Rattle.partial.specs.Limits.{source_limit}
use Rattle.partial.specs.Segments.{Segment, chunks_of}
use Rattle.partial.specs.Sources.{of_source}
use Rattle.partial.specs.Tables.{segment_row_length, chunk_row_length, tabled}
use Rattle.std.specs.Prelude.{Err}
use Rattle.std.proofs.lemmas.Result.{err_from_is_err_and}
use Rattle.refusals.specs.Refusals.{refusal_no}
use Rattle.refusals.specs.declared.Refusal.{Refusal}
use Rattle.sources.specs.Held.{SourcesHeld}
use Rattle.gathering.specs.Forms.{all_puts}
use Rattle.gathering.proofs.GatheredLaws.{gathered-segments, gathered_chunks}
use Rattle.gathering.proofs.PassLaws.{rows_put}
use Rattle.reading.specs.Tables.{Reads}
use Rattle.reading.proofs.JudgedLaws.{pass_refused, accepted, read_refused, read_given, read_opened, read_segments, judgement_refused, judgement_given}
use Rattle.reading.proofs.TableLaws.{tabled_refused, segments_short, chunks_short, tabled_given, reads_refused, reads_given, answered, segments-filled, chunks_filled}
use Rattle.reading.proofs.tables.read_source.Goals as goal

-- after a refusal nothing is said of the sources

refused_source : (f a b : List ℕ) {source : ℕ} {n : Refusal} {t : List ℕ} → tabled source_limit f a b ≡ refused (refusal_no n)
    → Reads f source a a b b (Err n) × ((ss : List Segment) → tabled source_limit f a b ≡ given ss → SourcesHeld t ss)
refused_source f a b {source} e = (reads_refused f a b source e, λ ss read. absurd (not_both (sym e ∙ read)))

pub returns-in_err-judged : goal.returns-in_err-judged
returns-in_err-judged c =
    let (e, is, same) = err_from_is_err_and c.from_residual.result c.from_residual.ensures.1 in
    rw is (refused_source _ _ _ (tabled_refused _ _ _ (read_refused _ (judgement_refused c.judge.ensures.0 c.in_err-judged.was)) ∙ ap (λ e. refused (refusal_no e)) (sym same)))

pub returns-then-segments-gathered : goal.returns-then-segments-gathered
returns-then-segments-gathered c =
    let a = accepted _ (judgement_given c.judge.ensures.0 c.in_ok-judged.was) in
    refused_source _ _ _ (segments_short _ _ _ a.ss (read_given _ a) (omega (arith, gathered-segments a.ss a.gathered)))

pub returns-then-chunks-gathered : goal.returns-then-chunks-gathered
returns-then-chunks-gathered c =
    let a = accepted _ (judgement_given c.judge.ensures.0 c.in_ok-judged.was) in
    refused_source _ _ _ (chunks_short _ _ _ a.ss (read_given _ a) (omega (arith, gathered_chunks a.ss a.gathered)))

-- a file that was read is not refused by the pass that fills the tables
pub returns-in_err-pass : goal.returns-in_err-pass
returns-in_err-pass c =
    let a = accepted _ (judgement_given c.judge.ensures.0 c.in_ok-judged.was) in
    absurd (not_both (sym (pass_refused _ a.h _ _ _ _ _ _ _ (c.pass.ensures a.h (read_opened _ a)) c.in_err-pass.was) ∙ read_segments _ a))

pub returns : goal.returns
unfolding all_puts
returns c =
    let a = accepted _ (judgement_given c.judge.ensures.0 c.in_ok-judged.was) in
    let args = c.args in
    let said = c.sizes_at-said.ensures ∙ (c.judge.ensures.1 a.ss (read_given _ a)).said args.source in
    let segments : segment_row_length * length a.ss ≤ length args.segments.now = omega (arith, gathered-segments a.ss a.gathered, c.if-segments-gathered.false) in
    let chunks : chunk_row_length * length (chunks_of a.ss) ≤ length args.chunks.now = omega (arith, gathered_chunks a.ss a.gathered, c.if-chunks-gathered.false) in
    let (one, two, noted) = rows_put _ a.h _ _ _ (c.pass.ensures a.h (read_opened _ a)) (read_segments _ a) in
    let answer = answered args.source a.ss a.gathered said _ (c.described.ensures (of_source args.source a.ss) said) c.is_some.ensures in
    let all = tabled_given _ _ _ a.ss (read_given _ a) segments chunks in (
      reads_given _ _ _ args.source a.ss all answer (segments-filled a.ss one segments) (chunks_filled a.ss two chunks),
      λ ss e. subst (SourcesHeld _) (given_same (sym all ∙ e)) noted.sourced.sources,
    )
