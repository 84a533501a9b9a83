-- `salvaging::calls::salvage_whole` meets its contract: the copy is put where it has room.
use Prim.Native.Nat.{ℕ, ◌<◌}
use native.Mathlib.Omega.{arith}
use lib.ListN.{get_or}
use Rattle.segment.proofs.TopsLaws.{tops_none}
use Rattle.salvaging.proofs.CallsLaws.{copy_short, copy_put}
use Rattle.salvaging.proofs.calls.salvage_whole.Goals as goal

pub returns-then-buffer-size : goal.returns-then-buffer-size
returns-then-buffer-size c h sound boxed =
    let f = c.args.file.now in
    let byte : (k : ℕ) → get_or f k 0 < 256 = λ k. omega (arith, c.type_inv.file k) in
    copy_short f h sound byte (c.places_of-size.ensures h sound (c.fates_of.ensures h sound boxed)).1 c.if-buffer-size.true

pub returns : goal.returns
returns c h sound boxed =
    let f = c.args.file.now in
    let byte : (k : ℕ) → get_or f k 0 < 256 = λ k. omega (arith, c.type_inv.file k) in
    let fates = c.fates_of.ensures h sound boxed in
    let (places, size) = c.places_of-size.ensures h sound fates in
    let tops = c.tops_of.ensures h.boxes (omega (arith, boxed.in_pfil.within)) tops_none boxed.boxes in
    copy_put f h sound byte size c.if-buffer-size.false
    (c.put_copy.ensures h (record { sound = sound; listed = tops; placed = places }) fates)
