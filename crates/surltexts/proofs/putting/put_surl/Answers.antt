-- `surltexts::putting::put_surl` meets its contract: each text is put behind those before it, and both lengths.
use Prim.Native.Nat.{◌^◌, ◌<◌}
use native.Mathlib.Omega.{arith}
use lib.ListN.{length}
use Rattle.surltexts.proofs.PuttingLaws.{surl_put}
use Rattle.surltexts.proofs.putting.put_surl.Goals as goal

pub returns : goal.returns
returns c within behind =
    let one = c.url_of-url.ensures within in
    let two = c.mime_of-mime.ensures within in
    let small : length c.args.file.now < 2 ^ 64 = omega arith in
    surl_put _ c.args.b within one two small behind (rw c.bytes.ensures at c.put_text-middle.ensures)
    (rw c.bytes-2.ensures at c.put_text-bytes.ensures) c.put_row.ensures c.saturating_add.ensures
