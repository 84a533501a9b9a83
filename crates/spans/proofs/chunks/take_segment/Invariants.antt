-- `spans::chunks::take_segment` meets its contract. The loop's invariant: the chunks so far have their spans, and the
-- others are kept ahead.
use Prim.Native.Nat.{◌+◌, ◌≤◌}
use mathlib.Core.List.{List, ◌++◌}
use mathlib.Core.Path.{◌≡◌}
use lib.ListN.{length, take, drop}
use Rattle.partial.specs.Segments.{Chunk}
use Rattle.gathering.specs.Kept.{ChunksKept}
use Rattle.spans.specs.Chunks.{many_of, SpansOf}
use Rattle.spans.specs.Spans.{Spans}
use Rattle.spans.proofs.chunks.take_segment.Given as goal

abbrev pub invariant-loop-number : goal.invariant-loop-number
invariant-loop-number l = (Spans l.initial.table l.initial.n l.end.0 → Spans l.table l.n l.end.0)
    × ((done cs : List Chunk) → l.count ≡ length cs → ChunksKept l.numbers l.at l.initial.start.0 cs → many_of l.state (done ++ cs) ≤ length l.initial.table → SpansOf l.state done l.end.0 l.initial.table l.initial.n
    → ChunksKept l.numbers (l.at + l.number-index) l.start.0 (drop l.number-index cs) × SpansOf l.state (done ++ take l.number-index cs) l.end.0 l.table l.n)
