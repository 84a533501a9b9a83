-- `puts::pdat::is_chosen` meets its contract.
use mathlib.Core.Path.{refl, sym, ◌∙◌}
use Rattle.puts.proofs.CopyLaws.{chosen_out, chosen_none, chosen_in}
use Rattle.puts.proofs.pdat.is_chosen.Goals as goal

pub returns-then-goes_out : goal.returns-then-goes_out
returns-then-goes_out c size = chosen_out _ _ _ (sym (c.goes_out.ensures size) ∙ c.if-goes_out.true)

pub returns-then-not-out : goal.returns-then-not-out
returns-then-not-out c size =
    c.present.ensures ∙ chosen_in _ _ (sym (c.goes_out.ensures size) ∙ c.if-goes_out.false) _ c.if-not-out.true

pub returns-else-not-out : goal.returns-else-not-out
returns-else-not-out c size =
    rw c.if-not-out.false (chosen_none _ _ (sym (c.goes_out.ensures size) ∙ c.if-goes_out.false) _ refl)
