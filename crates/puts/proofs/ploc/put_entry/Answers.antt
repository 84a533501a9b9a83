-- `puts::ploc::put_entry` meets its contract: two numbers, and an offset where the chunk is present.
use mathlib.Core.Path.{◌≡◌, sym, ◌∙◌}
use native.Mathlib.Omega.{arith}
use Rattle.numerals.proofs.WidthLaws.{below_holds}
use Rattle.additions.specs.Append.{flag_byte}
use Rattle.puts.proofs.BoxLaws.{flags_low}
use Rattle.puts.proofs.EntryLaws.{entry_absent, entry_there}
use Rattle.puts.proofs.PieceLaws.{number_put, offset_put, pieces_same, pieces_more}
use Rattle.puts.proofs.ploc.put_entry.Goals as goal

pub returns-then-not-is_present : goal.returns-then-not-is_present
returns-then-not-is_present c held =
    let args = c.args in
    let same = c.state_for-known.ensures in
    let flags : c.flags_of.result ≡ flag_byte args.state = c.flags_of.ensures ∙ same.0 in
    let absent = sym same.1 ∙ sym c.is_present.ensures ∙ c.if-not-is_present.true in
    let is-flags = below_holds 1 c.flags_of.result (omega (arith, flags, flags_low args.state)) in
    pieces_same (entry_absent _ _ _ _ _ flags absent)
    (pieces_more (number_put 1 _ (omega arith) is-flags c.put_field-sized.ensures) (number_put _ _ held.narrow.0 held.sized c.put_field-next.ensures))

pub returns : goal.returns
returns c held =
    let args = c.args in
    let same = c.state_for-known.ensures in
    let flags : c.flags_of.result ≡ flag_byte args.state = c.flags_of.ensures ∙ same.0 in
    let there = sym same.1 ∙ sym c.is_present.ensures ∙ c.if-not-is_present.false in
    let is-flags = below_holds 1 c.flags_of.result (omega (arith, flags, flags_low args.state)) in
    pieces_same (entry_there _ _ _ _ _ flags there)
    (pieces_more (number_put 1 _ (omega arith) is-flags c.put_field-sized.ensures)
    (pieces_more (number_put _ _ held.narrow.0 held.sized c.put_field-next.ensures)
    (offset_put _ _ held.narrow.1 (held.offset there) c.put_offset.ensures)))
