-- `numerals::numbers::unsigned` meets its contract: what is left of eight bytes is the number of the first of them.
use mathlib.Core.Path.{sym}
use borrow.Author.Rules.{rules}
use native.Mathlib.Omega.{arith}
use Rattle.numerals.proofs.NumberLaws.{number_none, number-front}
use Rattle.numerals.proofs.numbers.unsigned.Goals as goal

pub returns-then-w-eq0 : goal.returns-then-w-eq0
returns-then-w-eq0 c = rw (← c.within-w.ensures, c.if-w-eq0.true) (sym (number_none _ _))

pub returns-in-Some : goal.returns-in-Some
returns-in-Some c =
    rw (c.in-Some.ensures, ← c.within-w.ensures)
    (number-front _ _ _ (search rules) (omega (arith, c.within-w.ensures)))
