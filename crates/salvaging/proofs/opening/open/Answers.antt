-- `salvaging::opening::open` meets its contract: the heading of what the first two boxes are decides.
use mathlib.Core.Path.{sym}
use lib.Seq.{length-take-le}
use Rattle.salvaging.specs.Opens.{Opens}
use Rattle.salvaging.proofs.OpensLaws.{handed, open_long, open_refused, open_found}
use Rattle.salvaging.proofs.opening.open.Goals as goal

pub returns-then-file-gt-FILE_LIMIT : goal.returns-then-file-gt-FILE_LIMIT
unfolding Opens
returns-then-file-gt-FILE_LIMIT c = open_long _ c.if-file-gt-FILE_LIMIT.true

pub slice_bounds-heading_of-end : goal.slice_bounds-heading_of-end
slice_bounds-heading_of-end c = sym (length-take-le _ _ c.second_end-two.ensures.0)

pub returns-in_err-head : goal.returns-in_err-head
unfolding Opens
returns-in_err-head c =
    handed (Opens c.args.file.now) c.from_residual.result c.from_residual.ensures.1
    (open_refused _ c.if-file-gt-FILE_LIMIT.false c.second_end-two.ensures.1 _ c.heading_of.ensures c.in_err-head.was)

pub returns : goal.returns
returns c =
    open_found _ c.if-file-gt-FILE_LIMIT.false c.second_end-two.ensures.1 _ c.heading_of.ensures c.in_ok-head.was
    c.whole_end-fault.ensures
