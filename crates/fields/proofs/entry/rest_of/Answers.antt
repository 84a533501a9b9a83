-- `fields::entry::rest_of` meets its contract: the one test is the definition's.
use mathlib.Core.Path.{sym, ◌∙◌}
use native.Mathlib.Omega.{arith}
use Rattle.fields.specs.Location.{ploc_of}
use Rattle.fields.specs.State.{state_no}
use Rattle.fields.proofs.EntryLaws.{bytes_most, rest_cut, rest_whole}
use Rattle.fields.proofs.entry.rest_of.Goals as goal

pub overflow_add-length_size : goal.overflow_add-length_size
overflow_add-length_size c =
    let a = c.args in
    omega (arith, bytes_most (ploc_of a.l) (state_no a.state), c.offset_size-offset_size.ensures, c.within-length_size.ensures)

pub returns-then-not-ends_by : goal.returns-then-not-ends_by
returns-then-not-ends_by c =
    sym (rest_cut _ _ _ _ c.within-length_size.ensures c.offset_size-offset_size.ensures (sym c.ends_by.ensures ∙ c.if-not-ends_by.true))

pub returns : goal.returns
returns c =
    sym
    (rest_whole _ _ _ _ c.within-length_size.ensures c.offset_size-offset_size.ensures (sym c.ends_by.ensures ∙ c.if-not-ends_by.false) (omega arith) (omega arith) c.unsigned.ensures c.signed.ensures)
