-- `salvaging::calls::tell` meets its contract: 27, then the refusal of the file, then what is told.
use mathlib.Core.Path.{sym}
use lib.Seq.{length-take-le}
use Rattle.salvaging.specs.Told.{Tells}
use Rattle.salvaging.proofs.CallsLaws.{found, not_opened, told_inside, cut_sound, cut-boxed, tells_long, tells_refused, tells-found}
use Rattle.salvaging.proofs.OpensLaws.{handed}
use Rattle.salvaging.proofs.calls.tell.Goals as goal

pub returns-then-most-file : goal.returns-then-most-file
returns-then-most-file c = tells_long _ _ c.if-most-file.true

pub slice_bounds-fates_of-end : goal.slice_bounds-fates_of-end
slice_bounds-fates_of-end c =
    let (h, opens, told) = found c.open.ensures c.in_ok-told.was in
    sym (length-take-le _ _ (told_inside told))

pub returns-in_err-told : goal.returns-in_err-told
returns-in_err-told c =
    handed (Tells c.args.file.now c.args.most c.args.fates.now) c.from_residual.result c.from_residual.ensures.1
    (tells_refused _ _ c.if-most-file.false _ (not_opened _ c.open.ensures c.in_err-told.was))

pub returns : goal.returns
returns c =
    let (h, opens, told) = found c.open.ensures c.in_ok-told.was in
    tells-found _ _ c.if-most-file.false opens told (c.fates_of.ensures h (cut_sound _ opens told) (cut-boxed _ opens told))
