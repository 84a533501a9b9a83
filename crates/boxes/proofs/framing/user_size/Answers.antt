-- `boxes::framing::user_size` meets its contract: the one test is the definition's.
use mathlib.Core.Path.{sym, ◌∙◌}
use borrow.Author.Tests.{eqb-true, eqb-false}
use Rattle.boxes.proofs.HeaderLaws.{user-vendor, user_none}
use Rattle.boxes.proofs.framing.user_size.Goals as goal

pub returns-then-eq : goal.returns-then-eq
returns-then-eq c = sym (user-vendor _ (eqb-true _ _ (sym c.eq.ensures ∙ c.if-eq.true)))

pub returns-else-eq : goal.returns-else-eq
returns-else-eq c = sym (user_none _ (eqb-false _ _ (sym c.eq.ensures ∙ c.if-eq.false)))
