-- Laws of listing: the lists by the spans of a source are the source's, what each test decides, and what is left in the
-- tables and lists.
use Prim.Native.Nat.{ℕ, ◌*◌, ◌/◌, ◌<◌, ◌≤◌}
use mathlib.Core.Bool.{true, false, ◌&&◌, and-false}
use mathlib.Core.List.{List}
use mathlib.Core.Logic.{inl, inr}
use mathlib.Core.Path.{◌≡◌, refl, sym, ap, subst, ◌∙◌}
use native.Mathlib.Omega.{arith}
use borrow.Author.Tests.{leb-true, leb-false, le-leb, lt-leb}
use lib.Dec.{leb}
use lib.ListN.{length}
use Rattle.boxes.specs.Answer.{Answer, refused, given}
use Rattle.partial.specs.Limits.{source_limit}
use Rattle.partial.specs.Memory.{fits, after}
use Rattle.partial.specs.Ranges.{ranges, class_of, ranges_of, had_list, missing_list}
use Rattle.partial.specs.Segments.{Segment}
use Rattle.partial.specs.Sources.{of_source}
use Rattle.partial.specs.Tables.{range_row_length, range_rows, tabled, listed, segment_rows, chunk_rows, had_rows, missing_rows, totals}
use Rattle.refusals.specs.Refusals.{refusal_no}
use Rattle.refusals.specs.declared.Refusal.{Refusal}
use Rattle.std.specs.Prelude.{Result, Ok, Err}
use Rattle.partial.proofs.Meaning.SequenceLaws.{which, both}
use Rattle.filling.specs.Rows.{Put}
use Rattle.gathering.proofs.RowLaws.{put_filled}
use Rattle.spans.specs.declared.span.Span.{Span}
use Rattle.spans.specs.Files.{Spanned}
use Rattle.spans.specs.Spans.{class_by}
use Rattle.sweeping.proofs.RangeLaws.{ranges_same}
use Rattle.listing.specs.Calls.{Counted, roomy, Leaves, Listing}
use Rattle.listing.specs.Lists.{PutLists}
use Rattle.partial.specs.declared.answers.Lists.{Lists as Totals}
use Rattle.listing.proofs.ListLaws.{range_rows_long}

-- ---- the lists of a source

-- the ranges by the spans of some segments are theirs
pub spanned_ranges : {ss : List Segment} {t : List Span} {n described : ℕ} → Spanned ss t n described → ranges (class_by t n) described 0 ≡ ranges_of ss
unfolding ranges_of
spanned_ranges {ss} {t} {n} {described} s =
    ranges_same (class_by t n) (class_of ss) described 0 (λ q from below. s.class q (omega arith)) ∙ ap (λ (end : ℕ). ranges (class_of ss) end 0) s.long

-- and so are the lists
pub record Theirs (ss : List Segment) (had₀ had₁ missing₀ missing₁ : List ℕ) (t : Totals) : Type 0 where
  pub counts : Counted ss t
  pub had : Put had₀ 0 (range_rows (had_list ss)) had₁
  pub missing : Put missing₀ 0 (range_rows (missing_list ss)) missing₁

pub spanned_lists : {table : List Span} {n end : ℕ} {had₀ had₁ missing₀ missing₁ : List ℕ} {t : Totals} {ss : List Segment} → Spanned ss table n end
    → PutLists (class_by table n) end had₀ had₁ missing₀ missing₁ t
    → Theirs ss had₀ had₁ missing₀ missing₁ t
unfolding had_list missing_list
spanned_lists spanned s =
    let s = rw (spanned_ranges spanned) at s in
    record {
      counts = record { had_many = s.had_many; missing_many = s.missing_many; received = s.received; missed = s.missed };
      had = s.had_rows;
      missing = s.missing_rows;
    }

-- ---- what each test decides

-- both lists have room for as many rows as they have ranges
pub lists_room : (ss : List Segment) (c d : List ℕ)
    → (leb (length (had_list ss)) (length c / range_row_length) && leb (length (missing_list ss)) (length d / range_row_length)) ≡ true
    → (range_row_length * length (had_list ss) ≤ length c) × (range_row_length * length (missing_list ss) ≤ length d)
lists_room ss c d e =
    let (one, two) = both (leb (length (had_list ss)) (length c / range_row_length)) (leb (length (missing_list ss)) (length d / range_row_length)) e in (
      omega (arith, leb-true (length (had_list ss)) (length c / range_row_length) one),
      omega (arith, leb-true (length (missing_list ss)) (length d / range_row_length) two),
    )

module _ (source : ℕ) (ss : List Segment) where
  had_long : length (had_rows source ss) ≡ range_row_length * length (had_list (of_source source ss))
  unfolding had_rows
  had_long = range_rows_long (had_list (of_source source ss))

  missing_long : length (missing_rows source ss) ≡ range_row_length * length (missing_list (of_source source ss))
  unfolding missing_rows
  missing_long = range_rows_long (missing_list (of_source source ss))

  module _ (c d : List ℕ) where
    had_short : length c < range_row_length * length (had_list (of_source source ss)) → roomy source ss c d ≡ refused 26
    unfolding roomy fits
    had_short short = rw (lt-leb (length (had_rows source ss)) (length c) (omega (arith, had_long)))

    missing_short : length d < range_row_length * length (missing_list (of_source source ss)) → roomy source ss c d ≡ refused 26
    unfolding roomy fits
    missing_short short = rw (lt-leb (length (missing_rows source ss)) (length d) (omega (arith, missing_long)), and-false)

    -- where one of them has no room for as many rows as it has ranges
    pub lists_short : (leb (length (had_list (of_source source ss))) (length c / range_row_length) && leb (length (missing_list (of_source source ss))) (length d / range_row_length)) ≡ false
        → roomy source ss c d ≡ refused 26
    lists_short e =
        let hads = had_list (of_source source ss) in
        let misses = missing_list (of_source source ss) in
        elim (which (leb (length hads) (length c / range_row_length))) [
          | inl room ↦ missing_short (omega (arith, leb-false (length misses) (length d / range_row_length) (rw room at e)))
          | inr short ↦ had_short (omega (arith, leb-false (length hads) (length c / range_row_length) short))
        ]

    pub lists_fit : range_row_length * length (had_list (of_source source ss)) ≤ length c → range_row_length * length (missing_list (of_source source ss)) ≤ length d
        → roomy source ss c d ≡ given ss
    unfolding roomy fits
    lists_fit one two =
        rw (
          le-leb (length (had_rows source ss)) (length c) (omega (arith, had_long)),
          le-leb (length (missing_rows source ss)) (length d) (omega (arith, missing_long)),
        )

-- ---- what is left

module _ {decided : Answer (List Segment)} (source : ℕ) (a b c d : List ℕ) where
  -- after a refusal all four are as they were
  pub leaves_refused : {n : Refusal} → decided ≡ refused (refusal_no n) → Leaves decided source a a b b c c d d (Err n)
  unfolding after
  leaves_refused e = record { answer = rw e; tables = rw e (record { segment_table = refl; chunk_table = refl }); had_table = rw e; missing_table = rw e }

  -- else they are filled
  pub leaves_given : {a' b' c' d' : List ℕ} {t : Totals} (ss : List Segment) → decided ≡ given ss → Put a 0 (segment_rows ss) a' → length (segment_rows ss) ≤ length a
      → Put b 0 (chunk_rows ss) b'
      → length (chunk_rows ss) ≤ length b
      → Theirs (of_source source ss) c c' d d' t
      → range_row_length * length (had_list (of_source source ss)) ≤ length c
      → range_row_length * length (missing_list (of_source source ss)) ≤ length d
      → Leaves decided source a a' b b' c c' d d' (Ok t)
  unfolding after totals had_rows missing_rows
  leaves_given ss e one Fits-one two fits-two lists room space =
      let counts = lists.counts in
      record {
        answer = rw e (λ i. given (record { had_ranges = counts.had_many i; missing_ranges = counts.missing_many i; received_total = counts.received i; missing_total = counts.missed i }));
        tables = rw e (record { segment_table = put_filled (segment_rows ss) one Fits-one; chunk_table = put_filled (chunk_rows ss) two fits-two });
        had_table = rw e (put_filled (had_rows source ss) lists.had (omega (arith, had_long source ss)));
        missing_table = rw e (put_filled (missing_rows source ss) lists.missing (omega (arith, missing_long source ss)));
      }

-- ---- the whole decision

module _ (f : List ℕ) (source : ℕ) (a b c d : List ℕ) where
  pub listed_refused : {n : ℕ} → tabled source_limit f a b ≡ refused n → listed source_limit f source a b c d ≡ refused n
  unfolding listed
  listed_refused e = rw e

  listed-roomy : {ss : List Segment} → tabled source_limit f a b ≡ given ss → listed source_limit f source a b c d ≡ roomy source ss c d
  unfolding listed roomy
  listed-roomy e = rw e

  pub listing_roomy : {a' b' c' d' : List ℕ} {r : Result Totals Refusal} {ss : List Segment} → tabled source_limit f a b ≡ given ss → Leaves (roomy source ss c d) source a a' b b' c c' d d' r
      → Listing f source a a' b b' c c' d d' r
  listing_roomy {a'} {b'} {c'} {d'} {r} read leaves = subst (λ (x : Answer (List Segment)). Leaves x source a a' b b' c c' d d' r) (sym (listed-roomy read)) leaves
