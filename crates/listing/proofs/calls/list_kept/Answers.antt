-- `listing::calls::list_kept` meets its contract: 26 of the lists, then all four are filled.
use mathlib.Core.Path.{refl, sym, ◌∙◌}
use native.Mathlib.Omega.{arith}
use borrow.Author.Rules.{rules}
use Rattle.partial.specs.Segments.{good, chunks_of}
use Rattle.partial.specs.Sources.{of_source}
use Rattle.filling.proofs.RowLaws.{put_same}
use Rattle.spans.proofs.ChunkLaws.{many_few, source-few}
use Rattle.spans.proofs.FileLaws.{spanned_by, spanned_front}
use Rattle.spans.proofs.SpanLaws.{front_long, front_alone}
use Rattle.listing.proofs.CallsLaws.{spanned_lists, lists_room, lists_short, lists_fit, leaves_refused, leaves_given}
use Rattle.listing.proofs.calls.list_kept.Goals as goal

pub returns-then-not-have_room : goal.returns-then-not-have_room
returns-then-not-have_room c =
    λ ss told room space.
    let source = c.args.source in
    let mine = of_source source ss in
    let (order, all) = rw c.number.ensures at c.file_spans-n.ensures in
    let ordered = front_alone order in
    let spanned = spanned_front order.spans.room (spanned_by told.long (all ss told.kept (omega (arith, many_few good (chunks_of mine), source-few source ss, told.kept.chunks)))) in
    let rows = c.have_room.ensures ordered mine spanned (omega (arith, told.had_few, told.kept.count, told.chunks)) (omega (arith, told.missing_few, told.kept.count, told.chunks)) in
    leaves_refused source _ _ _ _ (lists_short source ss _ _ (sym rows ∙ (search rules)))

pub slice_bounds-spans-end : goal.slice_bounds-spans-end
slice_bounds-spans-end c = sym (front_long _ _ c.file_spans-n.ensures.0.spans.room)

pub returns : goal.returns
returns c =
    λ ss told room space.
    let source = c.args.source in
    let mine = of_source source ss in
    let (order, all) = rw c.number.ensures at c.file_spans-n.ensures in
    let ordered = front_alone order in
    let spanned = spanned_front order.spans.room (spanned_by told.long (all ss told.kept (omega (arith, many_few good (chunks_of mine), source-few source ss, told.kept.chunks)))) in
    let rows = c.have_room.ensures ordered mine spanned (omega (arith, told.had_few, told.kept.count, told.chunks)) (omega (arith, told.missing_few, told.kept.count, told.chunks)) in
    let (had, missing) = lists_room mine c.args.had.now c.args.missing.now (sym rows ∙ (search rules)) in
    let one = put_same refl told.own c.put_segments.ensures in
    let two = c.fill_rows.ensures _ ss told.kept in
    leaves_given source _ _ _ _ ss (lists_fit source ss _ _ had missing) one room two space (spanned_lists spanned (c.put_lists.ensures ordered)) had missing
