-- `puts::ploc::put_ploc` meets its contract: the header, four numbers, the entries.
use Prim.Native.Nat.{◌+◌, ◌*◌}
use mathlib.Core.Path.{◌≡◌, ◌∙◌}
use native.Mathlib.Nat.{min-eq_left}
use native.Mathlib.Omega.{arith}
use Rattle.boxes.specs.Kinds.{ploc}
use Rattle.numerals.proofs.WidthLaws.{below_holds}
use Rattle.additions.specs.Addition.{items}
use Rattle.additions.specs.Append.{placed, length_size_of, offset_size_of}
use Rattle.adding.proofs.CountLaws.{counted_items}
use Rattle.puts.proofs.BoxLaws.{widths_low, widths_hold, ploc_numbers, ploc_size_of}
use Rattle.puts.proofs.EntryLaws.{all_distances}
use Rattle.puts.proofs.PieceLaws.{number_put, pieces_same, pieces_more, pieces_box}
use Rattle.puts.proofs.ploc.put_ploc.Goals as goal

pub returns : goal.returns
returns c whole laid fits outer small =
    let list = c.args.list.now in
    let outside = c.args.outside in
    let (low-l, low-w) = widths_low outside (items list) laid.sizes laid.offsets in
    let l : c.within-size.result ≡ length_size_of (placed outside (items list)) = c.within-size.ensures ∙ min-eq_left low-l ∙ laid.sizes in
    let w : c.within-offset.result ≡ offset_size_of (placed outside (items list)) = c.within-offset.ensures ∙ min-eq_left low-w ∙ laid.offsets in
    let size = ploc_size_of outside list laid.body small in
    let count = counted_items (items list) whole.counts in
    let is_zero = below_holds 4 0 (omega arith) in
    let is-widths = below_holds 1 (c.within-size.result * 16 + c.within-offset.result) (omega arith) in
    let is-index = below_holds 2 0 (omega arith) in
    let is-count = below_holds 2 c.args.counts.items (omega (arith, count, fits.count)) in
    let entries = c.put_entries.ensures (widths_hold outside (items list) l w fits) (all_distances outside (items list) whole.bytes outer) in
    pieces_box ploc.code (omega arith) c.put_front-version.ensures size
    (pieces_same (ploc_numbers outside (items list) l w count)
    (pieces_more (number_put 4 _ (omega arith) is_zero c.put_field-widths.ensures)
    (pieces_more (number_put 1 _ (omega arith) is-widths c.put_field-index.ensures)
    (pieces_more (number_put 2 _ (omega arith) is-index c.put_field-count.ensures)
    (pieces_more (number_put 2 _ (omega arith) is-count c.put_field-entries.ensures) entries)))))
