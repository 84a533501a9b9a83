-- Each public call's contract determines what the spans cover: of two that it allows of the same arguments it is equal.
-- It leaves open which of the spans that start at one position comes first.
use Prim.Native.Nat.{ℕ, ◌<◌, ◌≤◌}
use mathlib.Core.List.{List}
use mathlib.Core.Path.{◌≡◌, sym, ◌∙◌}
use lib.ListN.{length}
use Rattle.partial.specs.Segments.{Segment, chunks_of}
use Rattle.partial.specs.Sources.{of_source}
use Rattle.spans.specs.KeptOf.{KeptOf}
use Rattle.spans.specs.declared.kept.Kept.{Kept}
use Rattle.spans.specs.Chunks.{many_of}
use Rattle.spans.specs.declared.span.Span.{Span}
use Rattle.spans.specs.Spans.{covered_by}
use Rattle.spans.proofs.SpanLaws.{same_covered}
use Rattle.spans.proofs.chunks.spans_of.Reads as spans-of
use Rattle.spans.proofs.files.file_spans.Reads as file-spans
use Rattle.spans.proofs.ordering.order.Reads as order

-- where something is known of the arguments, a contract allows one value of something of the result and of what the
-- call leaves behind
module _ {L : Type 0} {A R E : L → Type 0} (post : (κs : L) → A κs → R κs → E κs → Type 0) where
  abbrev pub OneMade : {X Y : Type 0} → ((κs : L) → A κs → X → Type 0) → ((κs : L) → A κs → R κs → E κs → X → Y) → Type 0
  OneMade {X} known of =
      (κs : L) (args : A κs) (what : X) → known κs args what → (x y : R κs) (after after' : E κs)
      → post κs args x after
      → post κs args y after'
      → of κs args x after what ≡ of κs args y after' what

-- what is kept of a file, with a position below an end, where the table has room
abbrev Known : Kept → ℕ → ℕ → ℕ → List Span → List Segment × ℕ → Type 0
Known kept state source end table (ss, q) =
    KeptOf kept ss × (many_of state (chunks_of (of_source source ss)) ≤ length table) × (q < end)

spans_of_covered : OneMade spans-of.Post
    (λ κs args. Known args.0 args.1.0 args.1.1.0 args.1.1.1.0.0 args.1.1.1.1.0.now)
    (λ κs args r after (ss, q). covered_by after.1.1.1.1.0.now r q)
spans_of_covered κs args (ss, q) (kept, room, below) x y after after' a b = (a.1 ss kept room).covers q below ∙ sym ((b.1 ss kept room).covers q below)

order_covered : OneMade order.Post (λ κs args (q : ℕ). args.1.0 ≤ length args.0.now) (λ κs args r after q. covered_by after.0.now args.1.0 q)
order_covered κs args q room x y after after' a b = same_covered (a room).0 q ∙ sym (same_covered (b room).0 q)

file_spans_covered : OneMade file-spans.Post
    (λ κs args. Known args.0 args.1.0 args.1.1.0 args.1.1.1.0.0 args.1.1.1.1.0.now)
    (λ κs args n after (ss, q). covered_by after.1.1.1.1.0.now n q)
file_spans_covered κs args (ss, q) (kept, room, below) x y after after' a b = (a.1 ss kept room).covers q below ∙ sym ((b.1 ss kept room).covers q below)
