-- `puts::surl::put_surl` meets its contract: the header, version and flags, the two texts.
use native.Mathlib.Omega.{arith}
use Rattle.boxes.specs.Kinds.{surl}
use Rattle.numerals.proofs.WidthLaws.{below_holds}
use Rattle.puts.proofs.BoxLaws.{source_long, surl_long}
use Rattle.puts.proofs.PieceLaws.{number_put, pieces_same, pieces_more, pieces_box}
use Rattle.puts.proofs.SurlLaws.{texts_closed}
use Rattle.puts.proofs.surl.put_surl.Goals as goal

pub returns : goal.returns
returns c small =
    let args = c.args in
    let url = args.url.now in
    let mime = args.mime.now in
    let flags = number_put 4 0 (omega arith) (below_holds 4 0 (omega arith)) c.put_field-first.ensures in
    pieces_box surl.code small c.put_front-body.ensures (omega (arith, c.saturating_add-n.ensures, source_long url mime, surl_long url mime))
    (pieces_more flags (pieces_same (texts_closed url mime) (pieces_more c.put_closed-second.ensures c.put_closed.ensures)))
