-- `serving::calls::part_at` meets its contract: reading, then the run of the position, then the place in its
-- supplier.
use mathlib.Core.Path.{sym, ◌∙◌}
use native.Mathlib.Omega.{arith}
use Rattle.boxes.proofs.ToldLaws.{handed_on}
use Rattle.partial.specs.Tables.{nowhere}
use Rattle.surls.specs.Parts.{part_of}
use Rattle.serving.proofs.CallsLaws.{told_refused, told_given, part_refused, part_none, part_there}
use Rattle.serving.proofs.calls.part_at.Goals as goal

pub returns-in_err-read : goal.returns-in_err-read
returns-in_err-read c =
    let (reads, _) = c.read_source.ensures in
    record {
      answer = handed_on part_of _ _ c.from_residual.ensures.1 ∙ part_refused _ _ _ _ _ (told_refused reads c.in_err-read.was);
      tables = reads.tables;
    }

pub returns-in_default : goal.returns-in_default
unfolding nowhere
returns-in_default c =
    let (reads, held) = c.read_source.ensures in
    let t = told_given reads held c.in_ok-read.was in
    record { answer = sym (part_none t _ c.run_at-run.ensures c.in_default.is); tables = reads.tables }

pub returns : goal.returns
returns c =
    let (reads, held) = c.read_source.ensures in
    let t = told_given reads held c.in_ok-read.was in
    let short = c.well_formed in
    let there = part_there t _ c.run_at-run.ensures c.in-Some.is (omega (arith, short)) c.place_of.ensures in
    record { answer = sym there; tables = reads.tables }
