-- Laws of the spans of a file: in order they cover the same, and those of its good chunks what the file has.
use Prim.Native.Nat.{ℕ, ◌≤◌}
use mathlib.Core.Bool.{true, false}
use mathlib.Core.List.{List}
use mathlib.Core.Path.{◌≡◌, sym, ◌∙◌}
use lib.ListN.{length, take}
use Rattle.partial.specs.Meaning.{supplied, described_length}
use Rattle.partial.specs.Ranges.{had, missing, class_of}
use Rattle.partial.specs.Segments.{Chunk, Segment, chunks_of, good}
use Rattle.partial.proofs.Meaning.SupplyLaws.{supplied_some}
use Rattle.spans.specs.Chunks.{SpansOf}
use Rattle.spans.specs.Files.{Spanned}
use Rattle.spans.specs.declared.span.Span.{Span}
use Rattle.spans.specs.Spans.{covered_by, class_by, Same}
use Rattle.spans.proofs.SpanLaws.{same_spans, same_covered, front_class}

pub spans_ordered : {state : ℕ} {cs : List Chunk} {end : ℕ} {t t' : List Span} {n : ℕ} → SpansOf state cs end t n → Same n t t' → SpansOf state cs end t' n
spans_ordered s same = record { spans = same_spans same s.spans; few = s.few; covers = λ q below. same_covered same q ∙ s.covers q below }

pub spanned_by : {ss : List Segment} {described : ℕ} {t : List Span} {n : ℕ} → described ≡ described_length ss → SpansOf good (chunks_of ss) described t n → Spanned ss t n described
unfolding class_by class_of
spanned_by {ss} {t = t} {n = n} long spans =
    record {
      long = long;
      class = λ q below.
          let covered : covered_by t n q ≡ supplied ss q = spans.covers q below ∙ sym (supplied_some ss q) in
          λ i. elim (covered i) [ true ↦ had | false ↦ missing ];
    }

-- the first spans of a table, alone
pub spanned_front : {ss : List Segment} {t : List Span} {n described : ℕ} → n ≤ length t → Spanned ss t n described → Spanned ss (take n t) (length (take n t)) described
spanned_front {t = t} {n = n} room s = record { long = s.long; class = λ q below. front_class t n room q ∙ s.class q below }
