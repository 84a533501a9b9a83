-- `puts::pshd::put_pshd` meets its contract: the header, then four numbers.
use Prim.Native.Nat.{ℕ, ◌%◌}
use mathlib.Core.Path.{sym, ap, ◌∙◌}
use native.Mathlib.Omega.{arith}
use Rattle.boxes.specs.Kinds.{pshd}
use Rattle.numerals.specs.Numbers.{holds}
use Rattle.numerals.proofs.WidthLaws.{below_holds}
use Rattle.puts.proofs.BoxLaws.{version_low, width_low, offset_held, pshd_numbers, pshd_long, pshd-box_long}
use Rattle.puts.proofs.PieceLaws.{number_put, pieces_same, pieces_more, pieces_box}
use Rattle.puts.proofs.pshd.put_pshd.Goals as goal

pub returns : goal.returns
returns c laid =
    let header = c.args.header in
    let offset = header.offset.0 in
    let width = laid.width in
    let low = width_low offset in
    let version = c.version_of.ensures offset width in
    let is-version = below_holds 1 c.version_of.result (omega (arith, version_low offset)) in
    let is-flags = below_holds 3 (header.flags % 2) (omega arith) in
    let is-offset = ap (λ (w : ℕ). holds w offset) width ∙ offset_held offset (omega (arith, c.well_formed)) in
    let is-repair = below_holds 8 header.repair (omega (arith, c.well_formed)) in
    pieces_box pshd.code (omega (arith, pshd-box_long header)) c.put_front-version.ensures (laid.body ∙ sym (pshd_long header))
    (pieces_same (pshd_numbers header version width)
    (pieces_more (number_put 1 _ (omega arith) is-version c.put_field-flags.ensures)
    (pieces_more (number_put 3 _ (omega arith) is-flags c.put_field-source.ensures)
    (pieces_more (number_put _ _ (omega arith) is-offset c.put_field-repair.ensures) (number_put 8 _ (omega arith) is-repair c.put_field.ensures)))))
