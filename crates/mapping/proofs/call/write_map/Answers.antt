-- `mapping::call::write_map` meets its contract: 27, then the judgement, then the maps by what is kept of the file.
use mathlib.Core.Path.{refl, sym}
use native.Mathlib.Omega.{arith}
use Rattle.partial.specs.Limits.{source_limit}
use Rattle.partial.proofs.Reading.PrintedLaws.{printed}
use Rattle.reading.proofs.JudgedLaws.{accepted, read_refused, read_given, judgement_refused, judgement_given}
use Rattle.mapping.proofs.OutlineLaws.{writes_same}
use Rattle.mapping.proofs.ToldLaws.{accepted_told}
use Rattle.mapping.proofs.call.write_map.Goals as goal

pub returns-then-most-file : goal.returns-then-most-file
returns-then-most-file c =
    writes_same (sym ((printed _ source_limit _ _).over_long (omega arith))) c.write_refused.ensures

pub write_all-requires : goal.write_all-requires
write_all-requires c =
    let (judged, kept, sized, sourced) = c.judge_into.ensures in
    let a = accepted _ (judgement_given judged c.in-Ok.is) in
    (a.ss, accepted_told a _ refl refl refl kept sized sourced (omega arith) (omega arith))

pub returns-in-Err : goal.returns-in-Err
returns-in-Err c =
    let refusal = read_refused _ (judgement_refused c.judge_into.ensures.0 c.in-Err.is) in
    writes_same (sym ((printed _ source_limit _ _).refusal _ (omega arith) refusal)) c.write_refused-in-Err.ensures

pub returns-in-Ok : goal.returns-in-Ok
returns-in-Ok c =
    let (judged, kept, sized, sourced) = c.judge_into.ensures in
    let a = accepted _ (judgement_given judged c.in-Ok.is) in
    writes_same (sym ((printed _ source_limit _ _).lines a.ss (omega arith) (read_given _ a)))
    (c.write_all.ensures a.ss (accepted_told a _ refl refl refl kept sized sourced (omega arith) (omega arith)))
