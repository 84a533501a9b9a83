-- What the calls answer of a source by its number: what its own segments say, and nothing of a number that is not in the
-- file.
use Prim.Native.Nat.{ℕ, ◌≤◌}
use mathlib.Core.List.{List, []}
use mathlib.Core.Path.{refl, ap}
use native.Mathlib.Omega.{arith}
use Rattle.boxes.specs.Answer.{given}
use Rattle.partial.specs.Sequences.{largest}
use Rattle.partial.specs.Segments.{Segment, chunks_of}
use Rattle.partial.specs.Heading.{bytes_in}
use Rattle.partial.specs.Meaning.{known_size, described_length, is_closed, supplier, supplied, Reply}
use Rattle.partial.specs.Sources.{source_count}
use Rattle.partial.specs.Ranges.{ranges, ranges_of, of_class, had_list, missing_list}
use Rattle.partial.specs.Tables.{range_rows, had_rows, missing_rows, summary, totals, nowhere, part_of, served_part, asked}
use Rattle.partial.specs.Texts.{source_text}
use Rattle.partial.specs.ReadingDemands.{Answered, Absent}
use Rattle.partial.proofs.Meaning.ServingLaws.{beyond}
use Rattle.partial.proofs.Meaning.SourceLaws.{of_none}

module _ (source : ℕ) (ss : List Segment) where
  pub answered : Answered source ss
  unfolding served_part asked summary had_rows missing_rows totals
  answered =
      record {
        served = λ p. refl;
        told = λ p. refl;
        described = refl;
        closed = refl;
        sources = refl;
        had = refl;
        missing = refl;
        had_ranges = refl;
        missing_ranges = refl;
        received_total = refl;
        missing_total = refl;
      }

  pub absent : source_count ss ≤ source → Absent source ss
  unfolding
      largest known_size described_length is_closed chunks_of supplier supplied ranges ranges_of of_class had_list missing_list range_rows had_rows missing_rows summary
      bytes_in nowhere part_of served_part asked source_text
  absent over =
      let none = of_none source ss over in
      record {
        above = λ p. rw none (ap (λ (r : Reply). given r) (beyond [] p (omega arith)));
        unserved = λ f p. rw none;
        described = rw none;
        unknown = rw none;
        had = rw none;
        missing = rw none;
        textless = λ which f h. rw (source_text, none);
      }
