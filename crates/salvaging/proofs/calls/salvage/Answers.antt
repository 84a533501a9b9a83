-- `salvaging::calls::salvage` meets its contract: the refusal, or the copy of the whole boxes.
use mathlib.Core.Path.{sym}
use lib.Seq.{length-take-le}
use Rattle.salvaging.specs.Wrote.{Salvages}
use Rattle.salvaging.proofs.CallsLaws.{found, not_opened, told_inside, cut_sound, cut-boxed, salvages_refused, salvages_given}
use Rattle.salvaging.proofs.OpensLaws.{handed}
use Rattle.salvaging.proofs.calls.salvage.Goals as goal

pub slice_bounds-salvage_whole-end : goal.slice_bounds-salvage_whole-end
slice_bounds-salvage_whole-end c =
    let (h, opens, told) = found c.open.ensures c.in_ok-o.was in
    sym (length-take-le _ _ (told_inside told))

pub returns-in_err-o : goal.returns-in_err-o
returns-in_err-o c =
    handed (Salvages c.args.file.now c.args.buffer.now c.args.buffer.now) c.from_residual.result c.from_residual.ensures.1
    (salvages_refused _ (not_opened _ c.open.ensures c.in_err-o.was))

pub returns : goal.returns
returns c =
    let (h, opens, told) = found c.open.ensures c.in_ok-o.was in
    salvages_given _ opens told.whole.cut (c.salvage_whole.ensures h (cut_sound _ opens told) (cut-boxed _ opens told))
