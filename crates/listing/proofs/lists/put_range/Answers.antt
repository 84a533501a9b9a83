-- `listing::lists::put_range` meets its contract.
use mathlib.Core.Path.{refl}
use native.Mathlib.Omega.{arith}
use Rattle.listing.proofs.lists.put_range.Goals as goal

pub returns-then-list-before : goal.returns-then-list-before
returns-then-list-before c = record { long = refl; held = λ room. absurd (omega arith) }
