-- `puts::ploc::Backs::past` meets its contract.
use mathlib.Core.Path.{sym, ◌∙◌}
use Rattle.puts.proofs.EntryLaws.{outer_past, inner_past}
use Rattle.puts.proofs.ploc.Backs.past.Goals as goal

pub returns-then-goes_out : goal.returns-then-goes_out
returns-then-goes_out c out is far =
    rw c.saturating_sub.ensures (outer_past _ _ is far c.data_of-n.ensures (sym (c.goes_out.ensures c.args.size) ∙ c.if-goes_out.true)).1

pub returns-else-goes_out : goal.returns-else-goes_out
returns-else-goes_out c out is far =
    rw c.saturating_sub-else-goes_out.ensures (inner_past _ _ is far c.data_of-n.ensures (sym (c.goes_out.ensures c.args.size) ∙ c.if-goes_out.false)).1
