-- `salvaging::ploc::put_ploc` meets its contract: the bytes up to the first entry, and the entries with their new
-- offsets.
use Prim.Native.Nat.{ℕ, ◌<◌}
use mathlib.Core.Path.{sym, ◌∙◌}
use native.Mathlib.Omega.{arith}
use lib.ListN.{get_or}
use Rattle.boxes.specs.Framing.{box_of}
use Rattle.boxes.proofs.AnswerLaws.{not_both}
use Rattle.boxes.proofs.ToldLaws.{told-err}
use Rattle.fields.specs.Location.{head_of}
use Rattle.partial.specs.Heading.{bytes_in}
use Rattle.puts.proofs.PieceLaws.{piece_put, pieces_same, pieces_more}
use Rattle.salvaging.specs.Tables.{new_in}
use Rattle.salvaging.proofs.PlocLaws.{first_after, first_inside, read_again, read_entries, read_bytes}
use Rattle.salvaging.proofs.ploc.put_ploc.Goals as goal

pub returns-in_default : goal.returns-in_default
returns-in_default c h copy s l moving known read lie same =
    absurd (not_both (sym (told-err head_of c.location_of.ensures c.in_default.is) ∙ known))

pub slice_bounds-put_bytes-count : goal.slice_bounds-put_bytes-count
unfolding box_of
slice_bounds-put_bytes-count c = first_after _ _ c.location_of.ensures c.in-Ok.is c.requires.0

pub slice_bounds-put_bytes-start : goal.slice_bounds-put_bytes-start
unfolding box_of
slice_bounds-put_bytes-start c = first_after _ _ c.location_of.ensures c.in-Ok.is c.requires.0

pub slice_bounds-put_bytes-end : goal.slice_bounds-put_bytes-end
unfolding box_of
slice_bounds-put_bytes-end c = first_inside _ _ c.location_of.ensures c.in-Ok.is c.requires.1

pub returns : goal.returns
unfolding bytes_in box_of
returns c h copy s l moving known read lie same =
    let args = c.args in
    let answer = c.location_of.ensures in
    let is = c.in-Ok.is in
    let f = args.file.now in
    let b = box_of args.b in
    let new = new_in f h in
    let byte : (k : ℕ) → get_or f k 0 < 256 = λ k. omega (arith, c.type_inv.file k) in
    let (typed, inside) = c.requires in
    pieces_same (read_bytes f b answer is h copy s new typed inside byte known read)
    (pieces_more (piece_put c.put_bytes-entries.ensures)
    (c.put_entries.ensures h s moving (read_again f b answer is h copy s new typed inside byte known read) same
    (read_entries f b answer is h copy s new typed inside byte known read lie)))
