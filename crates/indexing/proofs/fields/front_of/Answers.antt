-- `indexing::fields::front_of` meets its contract: the one test is the definition's.
use borrow.Author.Tests.{eq-eqb, ne_eqb}
use native.Mathlib.Omega.{arith}
use Rattle.boxes.proofs.HeaderLaws.{user_most}
use Rattle.partial.specs.Index.{front_by}
use Rattle.indexing.proofs.fields.front_of.Goals as goal

pub overflow_add-result : goal.overflow_add-result
overflow_add-result c = omega (arith, user_most c.args.kind.code, c.user_size.ensures)

pub overflow_add-result-else-short-eq1 : goal.overflow_add-result-else-short-eq1
overflow_add-result-else-short-eq1 c = omega (arith, user_most c.args.kind.code, c.user_size-else-short-eq1.ensures)

pub returns-then-short-eq1 : goal.returns-then-short-eq1
unfolding front_by
returns-then-short-eq1 c = rw (c.user_size.ensures, front_by, eq-eqb _ 1 c.if-short-eq1.true)

pub returns-else-short-eq1 : goal.returns-else-short-eq1
unfolding front_by
returns-else-short-eq1 c = rw (c.user_size-else-short-eq1.ensures, front_by, ne_eqb _ 1 c.if-short-eq1.false)
