-- What is kept of an accepted file tells the lists of each of its sources.
use Prim.Native.Nat.{ℕ, ◌*◌, ◌≤◌}
use mathlib.Core.List.{List}
use mathlib.Core.Path.{◌≡◌, ◌∙◌}
use lib.ListN.{length}
use Rattle.partial.specs.Limits.{segment_limit, chunk_limit, source_limit}
use Rattle.partial.specs.Meaning.{described_length}
use Rattle.partial.specs.Reading.{reading}
use Rattle.partial.specs.Sources.{of_source}
use Rattle.partial.specs.Tables.{segment_row_length}
use Rattle.partial.proofs.Reading.ReadingLaws.{accepted_of}
use Rattle.gathering.proofs.GatheredLaws.{gathered_chunks}
use Rattle.reading.specs.Judged.{Judged, KeptIn, SourcedIn}
use Rattle.reading.proofs.JudgedLaws.{Accepted}
use Rattle.reading.proofs.TableLaws.{accepted_rows, accepted_kept}
use Rattle.spans.specs.declared.kept.Kept.{Kept}
use Rattle.listing.specs.Calls.{Told}
use Rattle.listing.proofs.ManyLaws.{had-few, missing-few}

pub accepted_told : {f : List ℕ} {j : Judged} (a : Accepted f j) (kept : Kept) {count : ℕ} → kept.many ≡ j.gathered.segments → count ≡ j.gathered.chunks → {t₀ u₀ l : List ℕ}
    → KeptIn (reading source_limit f) t₀ kept.segments.now u₀ kept.numbers.now
    → SourcedIn f (reading source_limit f) kept.sources.now l
    → segment_row_length * segment_limit ≤ length t₀
    → chunk_limit ≤ length u₀
    → {source end : ℕ}
    → end ≡ described_length (of_source source a.ss)
    → Told kept count source end a.ss
accepted_told {f} a kept segments chunks was sourced room space {source} long =
    let order = (accepted_of source_limit f a.h a.head a.all source).order in
    record {
      kept = rw segments (accepted_kept a was room sourced space);
      own = rw segments (accepted_rows a was room);
      chunks = chunks ∙ gathered_chunks a.ss a.gathered;
      long = long;
      had_few = had-few source a.ss order;
      missing_few = missing-few source a.ss order;
    }
