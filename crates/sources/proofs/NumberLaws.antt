-- Laws of the table of source numbers.
use Prim.Native.Nat.{ℕ, ◌≤◌, ◌<◌}
use mathlib.Core.List.{List}
use mathlib.Core.Path.{◌≡◌, sym, ◌∙◌}
use borrow.Author.Tests.{le-ltb, lt-ltb}
use native.Mathlib.Decide.{dec_le}
use lib.ListN.{length, get_or, set, get_or-eq_default}
use Rattle.partial.specs.Limits.{segment_limit}
use native.Mathlib.Omega.{arith}
use Rattle.sources.specs.Numbers.{source_in, source_put}

module _ (t : List ℕ) (k : ℕ) where
  pub source_past : segment_limit ≤ k → source_in t k ≡ 0
  unfolding source_in
  source_past past = rw (le-ltb k segment_limit past, source_in)

  pub source_there : k < segment_limit → source_in t k ≡ get_or t k 0
  unfolding source_in
  source_there there = rw (lt-ltb k segment_limit there, source_in)

  pub put_past : (source : ℕ) → segment_limit ≤ k → source_put t k source ≡ t
  unfolding source_put
  put_past source past = rw (le-ltb k segment_limit past, source_put)

  pub put_there : (source : ℕ) → k < segment_limit → source_put t k source ≡ set t k source
  unfolding source_put
  put_there source there = rw (lt-ltb k segment_limit there, source_put)

-- it is what a table of as many entries as it has to have holds there
pub source_read : (t : List ℕ) (k : ℕ) → length t ≡ segment_limit → get_or t k 0 ≡ source_in t k
source_read t k long =
    elim (dec_le segment_limit k) [
      | yes past ↦ get_or-eq_default t 0 (omega arith) ∙ sym (source_past t k past)
      | no there ↦ sym (source_there t k (omega arith))
    ]
