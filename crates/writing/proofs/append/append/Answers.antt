-- `writing::append::append` meets its contract: 30, then what the file itself is refused for, then what is
-- appended to it, by the source that it goes to.
use mathlib.Core.Path.{sym}
use native.Mathlib.Omega.{arith}
use lib.Seq.{length-take-le}
use Rattle.additions.specs.Addition.{asks}
use Rattle.partial.specs.Limits.{source_limit}
use Rattle.additions.proofs.ReasonLaws.{length_over, file-refused}
use Rattle.boxes.proofs.ToldLaws.{told-ok, told-err}
use Rattle.reading.specs.Judged.{judged_by}
use Rattle.writing.proofs.AppendLaws.{appends_refused, appends_handed, earlier_refused, earlier, going_of}
use Rattle.writing.proofs.append.append.Goals as goal

pub returns-then-buffer-length : goal.returns-then-buffer-length
returns-then-buffer-length c = appends_refused _ _ _ (length_over source_limit _ _ _ (omega arith))

pub slice_bounds-file-end-2 : goal.slice_bounds-file-end-2
slice_bounds-file-end-2 c = sym (length-take-le _ _ (omega arith))

pub append_to-requires : goal.append_to-requires
unfolding asks
append_to-requires c =
    let (answer, sized, sourced) = c.earlier_of.ensures in
    let told = told-ok judged_by answer c.in_ok-judged.was in
    record { enough = c.if-buffer-length.false; told = told; going = going_of _ _ _ (earlier _ _ told) sized sourced c.target_of-target.ensures }

pub returns-in_err-judged : goal.returns-in_err-judged
returns-in_err-judged c =
    appends_handed _ _ _ _ _ c.from_residual.ensures.1
    (file-refused source_limit _ _ _ (omega arith) (earlier_refused _ (told-err judged_by c.earlier_of.ensures.0 c.in_err-judged.was)))
