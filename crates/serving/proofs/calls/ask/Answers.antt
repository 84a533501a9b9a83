-- `serving::calls::ask` meets its contract.
use mathlib.Core.Path.{◌∙◌}
use native.Mathlib.Omega.{arith}
use Rattle.boxes.proofs.ToldLaws.{handed_on}
use Rattle.partial.specs.Answers.{reply_of}
use Rattle.serving.proofs.CallsLaws.{told_refused, told_given, asked_refused, asked_beyond, asked-served, asked-missing}
use Rattle.serving.proofs.calls.ask.Goals as goal

pub returns-in_err-read : goal.returns-in_err-read
returns-in_err-read c =
    let (reads, _) = c.read_source.ensures in
    record {
      answer = handed_on reply_of _ _ c.from_residual.ensures.1 ∙ asked_refused _ _ _ _ _ (told_refused reads c.in_err-read.was);
      tables = reads.tables;
    }

pub returns-then-described-p : goal.returns-then-described-p
returns-then-described-p c =
    let (reads, held) = c.read_source.ensures in
    let t = told_given reads held c.in_ok-read.was in
    record { answer = asked_beyond t _ (omega arith); tables = reads.tables }

pub returns-then-is_some : goal.returns-then-is_some
returns-then-is_some c =
    let (reads, held) = c.read_source.ensures in
    let t = told_given reads held c.in_ok-read.was in
    record { answer = asked-served t _ c.run_at-run.ensures (omega arith) c.if-is_some.ensures; tables = reads.tables }

pub returns-else-is_some : goal.returns-else-is_some
returns-else-is_some c =
    let (reads, held) = c.read_source.ensures in
    let t = told_given reads held c.in_ok-read.was in
    record { answer = asked-missing t _ c.run_at-run.ensures (omega arith) c.if-is_some.ensures; tables = reads.tables }
