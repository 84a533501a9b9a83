-- The lists of segments whose sizes agree and whose chunks follow each other are what document 01's "Lists" says.
use Prim.Native.Nat.{ℕ, ◌<◌}
use mathlib.Core.Bool.{true, not}
use mathlib.Core.List.{List}
use mathlib.Core.Logic.{◌⊎◌, inl, inr}
use mathlib.Core.Path.{◌≡◌, ◌∙◌}
use native.Mathlib.Nat.{zero-add}
use native.Mathlib.Omega.{arith}
use lib.Dec.{eqb}
use Rattle.partial.specs.Segments.{Segment}
use Rattle.partial.specs.Meaning.{agree, described_length, supplied}
use Rattle.partial.specs.Ranges.{class_of, missing, had, ranges_of, of_class, had_list, missing_list, among}
use Rattle.partial.specs.ReadingDemands.{Listing}
use Rattle.partial.proofs.Meaning.SequenceLaws.{which, inside, past}
use Rattle.partial.proofs.Meaning.RangeLaws.{among-ranges, among_all, ranges_apart, ranges_in_row, ranges-totals}
use Rattle.partial.proofs.Meaning.DescribedLaws.{InOrder, none-supplied}

module _ (ss : List Segment) where
  had_class : (p : ℕ) → eqb (class_of ss p) had ≡ supplied ss p
  unfolding class_of
  had_class p = elim (which (supplied ss p)) [ inl e ↦ rw (class_of, e) | inr e ↦ rw (class_of, e) ]

  missing_class : (p : ℕ) → eqb (class_of ss p) missing ≡ not (supplied ss p)
  unfolding class_of
  missing_class p = elim (which (supplied ss p)) [ inl e ↦ rw (class_of, e) | inr e ↦ rw (class_of, e) ]

  one_class : (p : ℕ) → (class_of ss p ≡ had) ⊎ (class_of ss p ≡ missing)
  unfolding class_of
  one_class p = elim (which (supplied ss p)) [ inl e ↦ inl (rw (class_of, e)) | inr e ↦ inr (rw (class_of, e)) ]

  -- below the described length
  among_class : (c p : ℕ) → p < described_length ss → among p (of_class c (ranges_of ss)) ≡ eqb (class_of ss p) c
  unfolding ranges_of
  among_class c p h = among-ranges (class_of ss) c (described_length ss) 0 p ∙ rw (inside 0 (described_length ss) p (omega arith) (omega arith))

  pub listing : agree ss ≡ true → InOrder ss → Listing ss
  unfolding had_list missing_list ranges_of
  listing h o =
      record {
        in_had = λ p l. among_class had p l ∙ had_class p;
        in_missing = λ p l. among_class missing p l ∙ missing_class p;
        none_above = λ p l. among_all (class_of ss) (described_length ss) 0 p ∙ past 0 (described_length ss) p (omega arith);
        none_supplied = none-supplied ss h o;
        had_apart = ranges_apart (class_of ss) had (described_length ss) 0;
        missing_apart = ranges_apart (class_of ss) missing (described_length ss) 0;
        merged = rw zero-add at (ranges_in_row (class_of ss) (described_length ss) 0);
        together = ranges-totals (class_of ss) had missing (λ e. omega arith) one_class (described_length ss) 0;
      }
