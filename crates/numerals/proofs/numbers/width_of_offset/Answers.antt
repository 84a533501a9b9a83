-- `numerals::numbers::width_of_offset` meets its contract: the two tests agree below 8 bytes.
use mathlib.Core.Path.{◌∙◌}
use Rattle.numerals.specs.Numbers.{holds, holds_offset}
use Rattle.numerals.proofs.WidthLaws.{least_width_same}
use Rattle.numerals.proofs.numbers.width_of_offset.Goals as goal

pub returns : goal.returns
returns c =
    c.width_of.ensures
    ∙ least_width_same (λ w. holds w c.spread.result) (λ w. holds_offset w c.args.z)
    c.spread.ensures
