-- `puts::pfil::put_pfil` meets its contract: the header, then two boxes.
use native.Mathlib.Omega.{arith}
use Rattle.boxes.specs.Kinds.{pfil}
use Rattle.puts.proofs.BoxLaws.{surl_long, inner_long, pfil_long}
use Rattle.puts.proofs.PieceLaws.{pieces_more, pieces_box}
use Rattle.puts.proofs.pfil.put_pfil.Goals as goal

pub returns : goal.returns
returns c small =
    let args = c.args in
    let url = args.url.now in
    let mime = args.mime.now in
    let long = pfil_long url mime in
    let surl = c.put_surl.ensures (omega (arith, surl_long url mime)) in
    pieces_box pfil.code small c.put_front-body.ensures (omega (arith, c.saturating_add-n.ensures, inner_long url mime)) (pieces_more c.put_pfhd-surl.ensures surl)
