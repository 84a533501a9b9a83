-- `puts::ploc::Backs::of` meets its contract.
use mathlib.Core.Path.{sym, ◌∙◌}
use Rattle.puts.proofs.EntryLaws.{outer_back, inner_back}
use Rattle.puts.proofs.ploc.Backs.of.Goals as goal

pub returns-then-goes_out : goal.returns-then-goes_out
returns-then-goes_out c out size is far = outer_back _ _ is far (sym (c.goes_out.ensures size) ∙ c.if-goes_out.true)

pub returns-else-goes_out : goal.returns-else-goes_out
returns-else-goes_out c out size is far = inner_back _ _ is far (sym (c.goes_out.ensures size) ∙ c.if-goes_out.false)
