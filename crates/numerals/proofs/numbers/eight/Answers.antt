-- `numerals::numbers::eight` meets its contract: std reads eight bytes to the same number.
use Prim.Native.Nat.{◌+◌, ◌-◌}
use mathlib.Core.Path.{◌∙◌}
use native.Mathlib.Omega.{arith}
use Rattle.std.proofs.lemmas.List.{take-take}
use Rattle.numerals.proofs.NumberLaws.{number_eight}
use Rattle.numerals.proofs.numbers.eight.Goals as goal

pub returns : goal.returns
returns c =
    let rest = take-take 8 (c.args.from + 8 - c.args.from) _ (omega arith) in
    c.from_be_bytes.ensures ∙ number_eight _ _ _ (c.in_ok-bytes.ensures.cases.same ∙ rest)
