-- `boxes::framing::large_at` meets its contract: the one test is the definition's.
use mathlib.Core.Path.{sym, ◌∙◌}
use native.Mathlib.Omega.{arith}
use Rattle.boxes.proofs.HeaderLaws.{large-cut, large_whole}
use Rattle.boxes.proofs.framing.large_at.Goals as goal

pub returns-then-saturating_sub-lt-LARGE_FRONT_SIZE : goal.returns-then-saturating_sub-lt-LARGE_FRONT_SIZE
returns-then-saturating_sub-lt-LARGE_FRONT_SIZE c = sym (large-cut _ _ _ (omega arith))

pub returns : goal.returns
returns c = c.sized_at.ensures ∙ sym (large_whole _ _ _ (omega arith) c.unsigned.ensures)
