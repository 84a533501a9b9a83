-- `ends::sizes::gives_size` meets its contract.
use Prim.Native.Nat.{ℕ, ◌%◌}
use mathlib.Core.Bool.{not}
use mathlib.Core.Path.{sym, ap, ◌∙◌}
use lib.Dec.{eqb}
use Rattle.ends.proofs.SizeLaws.{gives_not_last, gives_last}
use Rattle.ends.proofs.sizes.gives_size.Goals as goal

pub returns-then-flags : goal.returns-then-flags
returns-then-flags c = λ s flags count. gives_not_last s (λ h. c.if-flags.true (ap (λ (n : ℕ). n % 2) flags ∙ h))

pub returns : goal.returns
returns c =
    λ s flags count. ap (λ (n : ℕ). not (eqb n 0)) count ∙ gives_last s (sym (ap (λ (n : ℕ). n % 2) flags) ∙ c.if-flags.false)
