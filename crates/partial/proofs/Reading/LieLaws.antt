-- Where a chunk may lie is widened for the good chunks of mixed files alone: any other lies in one `pdat` body.
use Prim.Native.Nat.{ℕ}
use mathlib.Core.Bool.{false, and-false, or-false}
use mathlib.Core.Path.{◌≡◌}
use borrow.Author.Tests.{ne_eqb}
use Rattle.partial.specs.Segments.{good}
use Rattle.partial.specs.Heading.{Heading}
use Rattle.partial.specs.Entries.{in_data, may_lie}

module _ (h : Heading) (state place size : ℕ) where
  -- in a file that is not mixed
  pub plain_lie : h.mixed ≡ false → may_lie h state place size ≡ in_data h.boxes place size
  unfolding may_lie
  plain_lie plain = rw (plain, or-false)

  -- and of a chunk that is not good in either brand
  pub damaged_lie : (state ≡ good → ⊥) → may_lie h state place size ≡ in_data h.boxes place size
  unfolding may_lie
  damaged_lie other = rw (ne_eqb state good other, and-false, or-false)
