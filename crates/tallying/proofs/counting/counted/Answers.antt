-- `tallying::counting::counted` meets its contract: the rows of one half have counted the box, and then those of the
-- other.
use borrow.Author.Rules.{rules}
use native.Mathlib.Omega.{arith}
use Rattle.tallying.proofs.RuleLaws.{rows_both, rows_all}
use Rattle.tallying.proofs.counting.counted.Goals as goal

pub counted_by-first-requires : goal.counted_by-first-requires
counted_by-first-requires c = (search rules, search rules, λ k h. c.requires k)

pub counted_by-requires : goal.counted_by-requires
counted_by-requires c =
    (search rules, search rules, λ k h. omega (arith, c.counted_by-first.ensures.left k (λ l. omega arith), c.requires k))

pub returns : goal.returns
returns c bs b e f = rows_all bs b f (rw e at (rows_both (search rules) c.counted_by-first.ensures c.counted_by.ensures))
