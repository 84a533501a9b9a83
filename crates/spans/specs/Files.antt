-- Document 01, "Lists": what is known of the spans of a file's good chunks.
use Rattle.std.specs.Prelude.{ℕ, ◌<◌, List, ◌≡◌}
use Rattle.partial.specs.Meaning.{described_length}
use Rattle.partial.specs.Ranges.{class_of}
use Rattle.partial.specs.Segments.{Segment}
use Rattle.spans.specs.Spans.{class_by}
use Rattle.spans.specs.declared.span.Span.{Span}

-- below the described length, spans cover what the good chunks of a file do
pub record Spanned (ss : List Segment) (t : List Span) (n described : ℕ) : Type 0 where
  pub long : described ≡ described_length ss
  pub class : (q : ℕ) → q < described → class_by t n q ≡ class_of ss q
