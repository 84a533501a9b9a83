-- `gathering::gathered::Gathered::with` meets its contract.
use mathlib.Core.Path.{refl}
use native.Mathlib.Omega.{arith}
use borrow.Author.Rules.{rules}
use Rattle.boxes.specs.Framing.{box_limit}
use Rattle.gathering.proofs.GatheredLaws.{gathered-segments, gathered_more}
use Rattle.gathering.proofs.gathered.Gathered.with.Goals as goal

pub overflow_add-result : goal.overflow_add-result
unfolding box_limit
overflow_add-result c = search rules

pub returns : goal.returns
unfolding box_limit
returns c = (
  refl,
  refl,
  λ ss s e count source low flag.
      gathered_more ss e s count (omega (arith, c.max.ensures, c.saturating_add.ensures, gathered-segments ss e)) flag,
)
