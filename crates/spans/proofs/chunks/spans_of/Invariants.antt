-- `spans::chunks::spans_of` meets its contract. The loop's invariant: the segments so far have the spans of their
-- chunks, and the others are kept ahead.
use Prim.Native.Nat.{◌≤◌}
use mathlib.Core.List.{List}
use mathlib.Core.Path.{◌≡◌}
use lib.ListN.{length, take, drop}
use Rattle.partial.specs.Limits.{chunk_limit}
use Rattle.partial.specs.Segments.{Segment, chunks_of}
use Rattle.partial.specs.Sources.{of_source}
use Rattle.gathering.specs.Kept.{SegmentsKept}
use Rattle.spans.specs.KeptOf.{KeptOf}
use Rattle.spans.specs.Chunks.{many_of, SpansOf}
use Rattle.spans.specs.Spans.{Spans}
use Rattle.spans.proofs.chunks.spans_of.Given as goal

abbrev pub invariant-loop-k : goal.invariant-loop-k
invariant-loop-k l = (l.at ≤ chunk_limit)
    × Spans l.table l.n l.end.0
    × ((ss : List Segment) → KeptOf l.kept ss → many_of l.state (chunks_of (of_source l.source ss)) ≤ length l.initial.table
    → (l.at ≡ length (chunks_of (take l.k ss)))
    × SegmentsKept l.kept.segments.now l.kept.sources.now l.kept.numbers.now l.k l.at (drop l.k ss)
    × SpansOf l.state (chunks_of (of_source l.source (take l.k ss))) l.end.0 l.table l.n)
