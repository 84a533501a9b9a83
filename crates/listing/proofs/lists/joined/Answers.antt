-- `listing::lists::joined` meets its contract: by the class of the range.
use mathlib.Core.Path.{sym, ◌∙◌}
use native.Mathlib.Omega.{arith}
use Rattle.sweeping.proofs.ClassLaws.{is_had, not_had, is_missing}
use Rattle.listing.proofs.ListLaws.{join_had, join_missing}
use Rattle.listing.proofs.lists.joined.Goals as goal

pub returns-then-eq : goal.returns-then-eq
returns-then-eq c = (
  record { had_many = omega arith; missing_many = omega arith; received = omega arith; missed = omega arith },
  λ rs had₀ missing₀ s. join_had _ _ rs s (is_had _ (sym c.eq.ensures ∙ c.if-eq.true)) c.put_range.ensures,
)

pub returns : goal.returns
returns c = (
  record { had_many = omega arith; missing_many = omega arith; received = omega arith; missed = omega arith },
  λ rs had₀ missing₀ s. join_missing _ _ rs s (is_missing _ (not_had _ (sym c.eq.ensures ∙ c.if-eq.false)) c.requires.1.class) c.put_range-2.ensures,
)
