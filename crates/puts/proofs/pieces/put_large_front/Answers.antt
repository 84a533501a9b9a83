-- `puts::pieces::put_large_front` meets its contract: two numbers make the header, which is put as one piece.
use Prim.Native.Nat.{◌+◌}
use mathlib.Core.Path.{refl, sym, ◌∙◌}
use native.Mathlib.Omega.{arith}
use Rattle.numerals.proofs.StoredLaws.{held-stored}
use Rattle.numerals.proofs.WidthLaws.{below_holds, over_holds}
use Rattle.texts.proofs.TextLaws.{piece_same}
use Rattle.puts.proofs.PieceLaws.{length-large, large_numbers}
use Rattle.puts.proofs.pieces.put_large_front.Goals as goal

pub returns-then-n-gt-LARGE_BODY : goal.returns-then-n-gt-LARGE_BODY
returns-then-n-gt-LARGE_BODY c =
    let over = over_holds 8 (16 + c.args.n) (omega arith) in
    record { left = rw over; end = c.saturating_add.ensures ∙ rw length-large }

pub returns : goal.returns
returns c =
    let n = c.args.n in
    let kind = c.args.kind.code in
    let held = below_holds 8 (16 + n) (omega arith) in
    let first = (held-stored _ _ _ _ c.put_number.ensures (below_holds 8 (0x1_0000_0000 + kind) (omega arith))).1 in
    let second = (held-stored _ _ _ _ c.put_number-2.ensures held).1 in
    let piece = piece_same (large_numbers kind n _ _ refl (omega (arith, c.well_formed)) first second) c.put_bytes.ensures in
    record { left = piece.left ∙ sym (rw held); end = piece.end }
