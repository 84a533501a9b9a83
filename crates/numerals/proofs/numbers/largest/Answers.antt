-- `numerals::numbers::largest` meets its contract: what is left of the ones is the largest number.
use Rattle.numerals.proofs.NumberLaws.{ones_shifted}
use borrow.Author.Rules.{rules}
use Rattle.numerals.proofs.numbers.largest.Goals as goal

pub returns : goal.returns
returns c = ones_shifted c.args.w (search rules)
