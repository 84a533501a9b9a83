-- `boxes::framing::put_header` meets its contract: the size and the type are the two halves of the number that is
-- written.
use Prim.Native.Nat.{◌+◌, ◌*◌, ◌^◌, ◌<◌}
use mathlib.Core.Path.{sym, ◌∙◌}
use native.Mathlib.Omega.{arith}
use Rattle.boxes.proofs.BoxedLaws.{front_bytes, size_held, size_unheld}
use Rattle.numerals.proofs.StoredLaws.{stores_unheld, stores_same}
use Rattle.numerals.proofs.WidthLaws.{below_holds}
use Rattle.boxes.proofs.framing.put_header.Goals as goal

pub returns-then-n-gt-LARGEST_BODY : goal.returns-then-n-gt-LARGEST_BODY
returns-then-n-gt-LARGEST_BODY c = stores_unheld _ _ _ _ (size_unheld _ c.if-n-gt-LARGEST_BODY.true)

pub returns : goal.returns
returns c =
    let kind : c.args.kind.code < 2 ^ 32 = omega arith in
    let small = size_held c.args.n c.if-n-gt-LARGEST_BODY.false in
    stores_same _ _ _ _ c.put_number.ensures
    (below_holds 8 ((8 + c.args.n) * 0x1_0000_0000 + c.args.kind.code) (omega arith) ∙ sym small)
    (front_bytes c.args.kind.code c.args.n kind)
