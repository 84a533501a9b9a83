-- The spans of the chunks of one state: they cover, below an end, what those chunks cover.
use Rattle.std.specs.Prelude.{ℕ, ◌+◌, ◌<◌, ◌≤◌, true, false, ◌||◌, List, [], ◌∷◌, ◌++◌, ◌≡◌, eqb, length}
use Rattle.partial.specs.Meaning.{covers_as}
use Rattle.partial.specs.Segments.{Chunk}
use Rattle.partial.specs.Sequences.{some_of}
use Rattle.gathering.specs.Kept.{ChunksKept}
use Rattle.spans.specs.Spans.{Spans, covered_by}
use Rattle.spans.specs.declared.span.Span.{Span}

-- how many chunks are of a state
unfoldable pub many_of : ℕ → List Chunk → ℕ
many_of state [] = 0
many_of state (c ∷ cs) = elim (eqb c.state state) [ true ↦ 1 | false ↦ 0 ] + many_of state cs

-- from its start to here a chunk of that state covers every position, and below an end no other
pub record SpanEnd (state : ℕ) (c : Chunk) (end to : ℕ) : Type 0 where
  pub all : (q : ℕ) → c.start ≤ q → q < to → covers_as state q c ≡ true
  pub only : (q : ℕ) → q < end → covers_as state q c ≡ true → q < to
  pub most : c.start < to → to ≤ end

-- a chunk is taken into a table of n spans: below an end, where one of that state has room for its span, what it covers
-- is covered too
pub record Taken (state end : ℕ) (c : Chunk) (t : List Span) (n : ℕ) (t' : List Span) (n' : ℕ) : Type 0 where
  pub long : length t' ≡ length t
  pub many : n' ≤ n + many_of state (c ∷ [])
  pub spans : Spans t n end → Spans t' n' end
  pub covers : (c.state ≡ state → n + 1 ≤ length t) → Spans t n end → (q : ℕ) → q < end → covered_by t' n' q ≡ (covered_by t n q || covers_as state q c)

-- a table has n spans of what the chunks of a state cover, no more than there are such chunks
pub record SpansOf (state : ℕ) (cs : List Chunk) (end : ℕ) (t : List Span) (n : ℕ) : Type 0 where
  pub spans : Spans t n end
  pub few : n ≤ many_of state cs
  pub covers : (q : ℕ) → q < end → covered_by t n q ≡ some_of (covers_as state q) cs

-- to the spans of some chunks those of so many more come, kept from one of the numbers on, where there is room for a
-- span of each
abbrev pub Extends : ℕ → List ℕ → ℕ → ℕ → ℕ → ℕ → List Span → ℕ → List Span → ℕ → Type 0
Extends state numbers at count first end t n t' n' =
    (done cs : List Chunk) → count ≡ length cs → ChunksKept numbers at first cs → many_of state (done ++ cs) ≤ length t
    → SpansOf state done end t n
    → SpansOf state (done ++ cs) end t' n'
