-- How many ranges a list has: neighbouring ranges are of two classes, so that no class has more than half of them, and
-- one.
use Prim.Native.Nat.{ℕ, suc, ◌+◌, ◌*◌, ◌≤◌, ◌<◌}
use mathlib.Core.List.{List}
use mathlib.Core.Logic.{inl, inr}
use mathlib.Core.Path.{◌≡◌, sym, ◌∙◌}
use native.Mathlib.Omega.{arith}
use borrow.Author.Tests.{eqb-true}
use lib.Dec.{eqb}
use lib.ListN.{length}
use Rattle.partial.specs.Meaning.{described_length}
use Rattle.partial.specs.Ranges.{Range, had, missing, class_of, ranges_of, of_class, had_list, missing_list}
use Rattle.partial.specs.Segments.{Segment, chunks_of}
use Rattle.partial.specs.Sources.{of_source}
use Rattle.partial.proofs.Meaning.DescribedLaws.{InOrder}
use Rattle.partial.proofs.Meaning.EdgeLaws.{listed_few}
use Rattle.partial.proofs.Meaning.RangeLaws.{Cut, done, next, cut, ordered}
use Rattle.partial.proofs.Meaning.SequenceLaws.{which}
use Rattle.spans.proofs.ChunkLaws.{of_few, source-few}

module _ (class : ℕ → ℕ) (c : ℕ) where
  -- no more than half and one are of a class, and no more than half where the first is not
  half : {end p : ℕ} {rs : List Range} → Cut class end p rs
      → (2 * length (of_class c rs) ≤ suc (length rs)) × ((p < end → class p ≡ c → ⊥) → 2 * length (of_class c rs) ≤ length rs)
  unfolding of_class
  half (done e) = (omega arith, λ other. omega arith)
  half {end} {p} (next {q = q} {rs = rs} some same differs rest) =
      let (more, less) = half rest in
      elim (which (eqb (class p) c)) [
        | inl here ↦
            let e = eqb-true (class p) c here in
            (rw (of_class, here) (omega (arith, less (λ short f. differs short (f ∙ sym e)))), λ other. absurd (other (omega (arith, ordered class rest)) e))
        | inr there ↦ (rw (of_class, there) (omega arith), λ other. rw (of_class, there) (omega arith))
      ]

-- of segments in order, those of a class
pub class_few : (c : ℕ) (ss : List Segment) → InOrder ss → 2 * length (of_class c (ranges_of ss)) ≤ 2 + length ss + length (chunks_of ss)
unfolding ranges_of
class_few c ss order = omega (arith, (half (class_of ss) c (cut (class_of ss) (described_length ss) 0)).0, listed_few ss order)

-- the lists of a source, whose segments are in order
module _ (source : ℕ) (ss : List Segment) (order : InOrder (of_source source ss)) where
  pub had-few : 2 * length (had_list (of_source source ss)) ≤ 2 + length ss + length (chunks_of ss)
  unfolding had_list
  had-few = omega (arith, class_few had (of_source source ss) order, of_few source ss, source-few source ss)

  pub missing-few : 2 * length (missing_list (of_source source ss)) ≤ 2 + length ss + length (chunks_of ss)
  unfolding missing_list
  missing-few = omega (arith, class_few missing (of_source source ss) order, of_few source ss, source-few source ss)
