-- `puts::ftyp::put_ftyp` meets its contract: the header, then three numbers.
use Prim.Native.Nat.{ℕ}
use mathlib.Core.List.{◌++◌}
use mathlib.Core.Path.{sym, ap}
use native.Mathlib.Omega.{arith}
use Rattle.boxes.specs.Kinds.{ftyp}
use Rattle.numerals.specs.Numbers.{bytes_of}
use Rattle.numerals.proofs.WidthLaws.{below_holds}
use Rattle.puts.proofs.BoxLaws.{brand_low, brands_long, ftyp_long}
use Rattle.puts.proofs.PieceLaws.{number_put, pieces_same, pieces_more, pieces_box}
use Rattle.puts.proofs.ftyp.put_ftyp.Goals as goal

pub returns : goal.returns
returns c =
    let brand = c.args.brand in
    let code = c.code_of-code.ensures in
    let low = below_holds 4 c.code_of-code.result (omega (arith, code, brand_low brand)) in
    let numbers = ap (λ (n : ℕ). bytes_of 4 n ++ (bytes_of 4 0 ++ bytes_of 4 n)) code in
    let major = number_put 4 _ (omega arith) low c.put_field-minor.ensures in
    let minor = number_put 4 0 (omega arith) (below_holds 4 0 (omega arith)) c.put_field-compatible.ensures in
    let compatible = number_put 4 _ (omega arith) low c.put_field.ensures in
    pieces_box ftyp.code (omega (arith, ftyp_long brand)) c.put_front-major.ensures (sym (brands_long brand))
    (pieces_same numbers (pieces_more major (pieces_more minor compatible)))
