-- `puts::pseg::put_pseg` meets its contract: the header, then two boxes and the `surl` boxes.
use native.Mathlib.Omega.{arith}
use Rattle.boxes.specs.Kinds.{pseg}
use Rattle.additions.specs.Addition.{asks}
use Rattle.puts.proofs.BoxLaws.{pseg_boxes, pseg-box_long, pseg_size_of}
use Rattle.puts.proofs.PieceLaws.{pieces_same, pieces_more, pieces_box}
use Rattle.puts.proofs.pseg.put_pseg.Goals as goal

pub returns : goal.returns
unfolding asks
returns c whole laid fits outer small =
    let header = c.args.addition.header in
    let list = c.args.addition.list.now in
    let outside = c.args.addition.outside in
    let texts = c.args.addition.texts.now in
    let lengths = c.args.addition.lengths.now in
    let long = pseg-box_long header outside list texts lengths in
    let size = pseg_size_of header outside list texts lengths laid.body small in
    let ploc = c.put_ploc-surls.ensures whole laid.ploc fits outer (omega arith) in
    let surls = c.put_surls.ensures (omega arith) in
    pieces_box pseg.code (omega arith) c.put_front-body.ensures size
    (pieces_same (pseg_boxes header outside list texts lengths) (pieces_more (c.put_pshd-ploc.ensures laid.pshd) (pieces_more ploc surls)))
