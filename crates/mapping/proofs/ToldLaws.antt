-- What is kept of an accepted file tells the maps of its sources.
use Prim.Native.Nat.{ℕ, ◌+◌, ◌*◌, ◌≤◌}
use mathlib.Core.Bool.{Bool}
use mathlib.Core.List.{List}
use mathlib.Core.Path.{◌≡◌, ◌∙◌}
use native.Mathlib.Omega.{arith}
use lib.ListN.{length}
use Rattle.partial.specs.Limits.{segment_limit, chunk_limit, source_limit}
use Rattle.partial.specs.Reading.{reading}
use Rattle.partial.specs.Sources.{of_source}
use Rattle.partial.specs.Tables.{segment_row_length}
use Rattle.partial.proofs.Meaning.SourceLaws.{count_most}
use Rattle.partial.proofs.Reading.LimitLaws.{described_low}
use Rattle.partial.proofs.Reading.NumberedLaws.{reading_numbered}
use Rattle.partial.proofs.Reading.ReadingLaws.{accepted_of}
use Rattle.gathering.proofs.GatheredLaws.{gathered-segments, gathered_chunks, gathered-sources}
use Rattle.reading.specs.Judged.{Judged, KeptIn, SizedIn, SourcedIn}
use Rattle.reading.proofs.JudgedLaws.{Accepted, read_given}
use Rattle.reading.proofs.TableLaws.{accepted_kept}
use Rattle.spans.proofs.ChunkLaws.{of_few, source-few}
use Rattle.mapping.specs.Outline.{ranges_for, Told}
use Rattle.mapping.specs.declared.film.Film.{Film}
use Rattle.mapping.proofs.OutlineLaws.{ranges_few}

module _ {f : List ℕ} {j : Judged} (a : Accepted f j) where
  source_ranges : (n : ℕ) (named : Bool) → length (ranges_for named (of_source n a.ss)) ≤ j.gathered.segments + j.gathered.chunks + 1
  source_ranges n named =
      omega (
        arith,
        ranges_few named (of_source n a.ss) (accepted_of source_limit f a.h a.head a.all n).order,
        of_few n a.ss,
        source-few n a.ss,
        gathered-segments a.ss a.gathered,
        gathered_chunks a.ss a.gathered,
      )

  pub accepted_told : (film : Film) → film.kept.many ≡ j.gathered.segments → film.chunks ≡ j.gathered.chunks → film.sources ≡ j.gathered.sources
      → {t₀ u₀ l : List ℕ}
      → KeptIn (reading source_limit f) t₀ film.kept.segments.now u₀ film.kept.numbers.now
      → SizedIn (reading source_limit f) film.sizes.now
      → SourcedIn f (reading source_limit f) film.kept.sources.now l
      → segment_row_length * segment_limit ≤ length t₀
      → chunk_limit ≤ length u₀
      → Told film a.ss
  accepted_told film segments chunks sources kept sized sourced room space =
      let read = read_given f a in
      let file = accepted_kept a kept room sourced space in
      record {
        kept = rw segments file;
        chunks = chunks ∙ gathered_chunks a.ss a.gathered;
        source_many = sources ∙ gathered-sources a.ss a.gathered;
        source_few = omega (arith, sources, gathered-sources a.ss a.gathered, count_most a.ss (reading_numbered source_limit f read), file.few);
        said = (sized a.ss read).said;
        low = described_low source_limit f a.h a.all;
        few = λ n named. omega (arith, source_ranges n named, segments, chunks);
      }
