-- `going::texts::same_texts` meets its contract: both lists end, or they are not the same.
use mathlib.Core.Path.{sym, subst, ◌∙◌}
use native.Mathlib.Omega.{arith}
use Rattle.going.specs.Texts.{Behind}
use Rattle.going.proofs.TextLaws.{end_told}
use Rattle.going.proofs.texts.same_texts.Goals as goal

pub returns-then-file-list : goal.returns-then-file-list
returns-then-file-list c = λ bs known inside. absurd (omega arith)

pub returns-in-Some : goal.returns-in-Some
returns-in-Some c bs known inside =
    end_told _ _ _ c.in-Some.cut ∙ sym (subst (Behind _ _ _ bs) c.in-Some.is (c.left_behind.ensures bs known))

pub returns-in-None : goal.returns-in-None
returns-in-None c bs known inside = sym (subst (Behind _ _ _ bs) c.in-None.is (c.left_behind.ensures bs known))
