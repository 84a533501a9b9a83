-- Laws of what is gathered of segments: of none, and with one more.
use Prim.Native.Nat.{ℕ, ◌+◌, max}
use mathlib.Core.Bool.{Bool, false, ◌||◌, or-false}
use mathlib.Core.List.{List, [], ◌∷◌, ◌++◌}
use mathlib.Core.Path.{◌≡◌, refl, ap}
use native.Mathlib.Omega.{arith}
use lib.ListN.{length, length-append}
use Rattle.partial.specs.Index.{has_index}
use Rattle.partial.specs.Segments.{Segment, chunks_of}
use Rattle.partial.specs.Sequences.{some_of, largest}
use Rattle.partial.specs.Sources.{source_count}
use Rattle.partial.proofs.Meaning.SequenceLaws.{some_append}
use Rattle.partial.proofs.Meaning.SourceLaws.{source_count_more}
use Rattle.partial.proofs.Meaning.SupplyLaws.{chunks_append}
use Rattle.gathering.specs.Gathered.{gathered_of}
use Rattle.gathering.specs.declared.gathered.Gathered.{Gathered}

pub gathered_none : record { segments = 0; chunks = 0; sources = 0; indexed = false } ≡ gathered_of []
unfolding gathered_of chunks_of source_count largest some_of
gathered_none = refl

-- how many chunks there are with one segment more
pub chunks_last : (ss : List Segment) (s : Segment) → length (chunks_of (ss ++ (s ∷ []))) ≡ length (chunks_of ss) + length s.chunks
unfolding chunks_of
chunks_last ss s =
    omega (arith, ap length (chunks_append ss (s ∷ [])), length-append (chunks_of ss) (chunks_of (s ∷ [])), length-append s.chunks [])

module _ {g : Gathered} (ss : List Segment) (e : g ≡ gathered_of ss) where
  pub gathered-segments : g.segments ≡ length ss
  unfolding gathered_of
  gathered-segments = ap (λ g. g.segments) e

  pub gathered_chunks : g.chunks ≡ length (chunks_of ss)
  unfolding gathered_of
  gathered_chunks = ap (λ g. g.chunks) e

  pub gathered-sources : g.sources ≡ source_count ss
  unfolding gathered_of
  gathered-sources = ap (λ g. g.sources) e

  pub gathered-indexed : g.indexed ≡ some_of (λ s. has_index s.inner) ss
  unfolding gathered_of
  gathered-indexed = ap (λ g. g.indexed) e

  pub gathered_more : (s : Segment) {count most : ℕ} {indexed : Bool} → count ≡ length s.chunks → most ≡ max g.sources (s.source + 1) → indexed ≡ has_index s.inner
      → record { segments = g.segments + 1; chunks = g.chunks + count; sources = most; indexed = g.indexed || indexed } ≡ gathered_of (ss ++ (s ∷ []))
  unfolding gathered_of some_of
  gathered_more s {count} {most} {indexed} many larger flag =
      let segments : g.segments + 1 ≡ length (ss ++ (s ∷ [])) = omega (arith, gathered-segments, length-append ss (s ∷ [])) in
      let chunks : g.chunks + count ≡ length (chunks_of (ss ++ (s ∷ []))) = omega (arith, gathered_chunks, chunks_last ss s) in
      let sources : most ≡ source_count (ss ++ (s ∷ [])) = omega (arith, gathered-sources, source_count_more ss s) in
      let last : (g.indexed || indexed) ≡ some_of (λ s. has_index s.inner) (ss ++ (s ∷ [])) = rw (gathered-indexed, flag, some_append, or-false) in
      λ i. record { segments = segments i; chunks = chunks i; sources = sources i; indexed = last i }
