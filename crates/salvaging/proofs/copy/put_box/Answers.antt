-- `salvaging::copy::put_box` meets its contract: a box that stays is put as it is, or, a container, with its header and
-- without its index.
use Prim.Native.Nat.{ℕ, ◌≤◌, ◌<◌}
use mathlib.Core.Path.{sym, ap, subst, ◌∙◌}
use native.Mathlib.Omega.{arith}
use lib.ListN.{get_or}
use Rattle.boxes.specs.Framing.{Box, box_of}
use Rattle.boxes.specs.Kinds.{pseg}
use Rattle.partial.specs.Limits.{source_limit}
use Rattle.puts.proofs.PieceLaws.{pieces_same, pieces_none}
use Rattle.rescue.specs.Table.{code_told}
use Rattle.rescue.proofs.WholeLaws.{heading_back}
use Rattle.tallying.proofs.FoundLaws.{is_kind, is_other}
use Rattle.salvaging.specs.Inner.{inner_text}
use Rattle.salvaging.specs.Tables.{new_in}
use Rattle.salvaging.proofs.CopyingLaws.{copied_none, copied_whole, copied-pfil, copied-pseg, no_segment}
use Rattle.salvaging.proofs.TableLaws.{box_stands, new_start}
use Rattle.salvaging.proofs.copy.put_box.Goals as goal

pub returns-in-Dropped : goal.returns-in-Dropped
returns-in-Dropped c h moving there same coded starts =
    let f = c.args.file.now in
    let byte : (k : ℕ) → get_or f k 0 < 256 = λ k. omega (arith, c.type_inv.file k) in
    pieces_same (copied_none f h moving.sound byte _ there coded same (ap code_told c.in-Dropped.is)) (pieces_none _ _)

pub returns-then-number-eq-PFIL_NUMBER : goal.returns-then-number-eq-PFIL_NUMBER
unfolding box_of inner_text
returns-then-number-eq-PFIL_NUMBER c h moving there same coded starts =
    let f = c.args.file.now in
    let byte : (k : ℕ) → get_or f k 0 < 256 = λ k. omega (arith, c.type_inv.file k) in
    let m = copied-pfil f h moving.sound byte _ there coded same (ap code_told c.in_default.is) c.if-number-eq-PFIL_NUMBER.true in
    let whole = subst (λ (b : Box). b.body ≤ b.end) (sym same) (box_stands f h moving.sound _ there).whole in
    pieces_same m.same (c.put_container.ensures h h no_segment h.inner moving whole m.known m.long tt)

pub returns-then-eq : goal.returns-then-eq
unfolding box_of inner_text
returns-then-eq c h moving there same coded starts =
    let f = c.args.file.now in
    let byte : (k : ℕ) → get_or f k 0 < 256 = λ k. omega (arith, c.type_inv.file k) in
    let m = copied-pseg f h moving.sound byte _ there coded same (ap code_told c.in_default.is) c.if-number-eq-PFIL_NUMBER.false (is_kind pseg _ c.eq.ensures c.if-eq.true) in
    let whole = subst (λ (b : Box). b.body ≤ b.end) (sym same) (box_stands f h moving.sound _ there).whole in
    let anew = starts ∙ sym (new_start f h moving.sound _ there) ∙ ap (λ (b : Box). new_in f h b.at) (sym same) in
    pieces_same m.contents.same
    (c.put_container-then-eq.ensures h (heading_back source_limit f h moving.sound.opens byte) m.s m.s.inner moving whole m.contents.known m.contents.long
    (m.read, m.lie, anew))

pub returns : goal.returns
returns c h moving there same coded starts =
    let f = c.args.file.now in
    let byte : (k : ℕ) → get_or f k 0 < 256 = λ k. omega (arith, c.type_inv.file k) in
    pieces_same (copied_whole f h moving.sound byte _ there coded same (ap code_told c.in_default.is) c.if-number-eq-PFIL_NUMBER.false (is_other pseg _ c.eq.ensures c.if-eq.false))
    c.put_same.ensures
