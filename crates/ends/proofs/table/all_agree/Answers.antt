-- `ends::table::all_agree` meets its contract. The loop's invariant: the sources so far agree.
use mathlib.Core.Path.{sym, ◌∙◌}
use native.Mathlib.Omega.{arith}
use Rattle.ends.proofs.TableLaws.{all-agree, one_differs}
use Rattle.ends.proofs.table.all_agree.Goals as goal

pub returns-then-not-agree : goal.returns-then-not-agree
returns-then-not-agree c =
    λ ss many holds.
    one_differs ss _ (sym (c.agree.ensures _ (c.sizes_at.ensures ∙ holds.said _)) ∙ c.if-not-agree.true)

pub returns : goal.returns
returns c = λ ss many holds. all-agree ss (λ k less. c.loop-n.invariant ss holds k (omega arith))
