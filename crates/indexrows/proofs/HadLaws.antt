-- Laws of the list had of a source of a file whose segments are kept: it is the source's, and has room where it is put.
use Prim.Native.Nat.{ℕ, zero, suc, ◌*◌, ◌≤◌}
use mathlib.Core.List.{List, [], ◌∷◌, ◌++◌, map}
use mathlib.Core.Path.{◌≡◌, refl, sym, ap, ◌∙◌}
use native.Mathlib.Omega.{arith}
use lib.ListN.{length, take, drop}
use lib.Seq.{drop-append_seam}
use Rattle.std.specs.Simd.{first_chunks}
use Rattle.boxes.specs.Answer.{given}
use Rattle.partial.specs.Heading.{Heading, heading}
use Rattle.partial.specs.Limits.{chunk_limit, source_limit}
use Rattle.partial.specs.Meaning.{described_length}
use Rattle.partial.specs.Memory.{filled}
use Rattle.partial.specs.Ranges.{Range, had_list}
use Rattle.partial.specs.Reading.{segments}
use Rattle.partial.specs.Segments.{Segment, good, chunks_of}
use Rattle.partial.specs.Sources.{of_source}
use Rattle.partial.specs.Tables.{range_row_length, range_rows}
use Rattle.partial.proofs.Meaning.ListingLaws.{listing}
use Rattle.partial.proofs.Reading.ReadingLaws.{accepted_of}
use Rattle.ends.specs.Table.{Holds}
use Rattle.gathering.proofs.RowLaws.{put_filled}
use Rattle.spans.specs.KeptOf.{KeptOf}
use Rattle.spans.specs.declared.kept.Kept.{Kept}
use Rattle.spans.specs.Chunks.{many_of, SpansOf}
use Rattle.spans.specs.Spans.{class_by}
use Rattle.spans.proofs.ChunkLaws.{many_few, source-few}
use Rattle.spans.proofs.FileLaws.{spanned_by, spanned_front}
use Rattle.spans.specs.declared.span.Span.{Span}
use Rattle.listing.specs.Lists.{PutLists}
use Rattle.partial.specs.declared.answers.Lists.{Lists}
use Rattle.listing.proofs.CallsLaws.{spanned_lists}
use Rattle.listing.proofs.ListLaws.{range_rows_long}
use Rattle.listing.proofs.ManyLaws.{had-few}
use Rattle.indexrows.specs.Marking.{range_limit, AcceptedIn}
use Rattle.indexrows.specs.Serving.{range_row, HadIn}

-- a table that rows filled starts with them
pub starts_filled : (rows t₀ : List ℕ) {t : List ℕ} → t ≡ filled rows t₀ → t ≡ filled rows t
unfolding filled
starts_filled rows t₀ e =
    e ∙ ap (λ (rest : List ℕ). rows ++ rest) (sym (ap (drop (length rows)) e ∙ drop-append_seam rows (drop (length rows) t₀)))

-- ---- an accepted file

-- the lists of its sources are as they should be, and none has more ranges than it may
pub accepted_in : (f : List ℕ) (h : Heading) {kept : Kept} {sizes : List ℕ} {ss : List Segment} → heading f ≡ given h → segments source_limit f h ≡ given ss
    → KeptOf kept ss → Holds sizes ss
    → AcceptedIn kept sizes ss
accepted_in f h {ss = ss} head all stands held =
    record {
      kept = stands;
      ends = held;
      lists = λ source.
          let ok = accepted_of source_limit f h head all source in
          listing (of_source source ss) ok.agreed ok.order;
      few = λ source. omega (arith, had-few source ss (accepted_of source_limit f h head all source).order, stands.few, stands.chunks);
    }

-- the first so many pairs of a table that starts with the rows of so many ranges are these
pairs : (rs : List Range) (rest : List ℕ) (k : ℕ) → length rs ≤ k → take (length rs) (first_chunks 2 k (range_rows rs ++ rest)) ≡ map range_row rs
unfolding range_rows
pairs [] rest k low = refl
pairs (r ∷ rs) rest zero low = absurd (omega arith)
pairs (r ∷ rs) rest (suc k) low = ap (λ (rows : List (List ℕ)). range_row r ∷ rows) (pairs rs rest k (omega arith))

module _ {kept : Kept} {sizes : List ℕ} {ss : List Segment} (a : AcceptedIn kept sizes ss) (source : ℕ) where
  -- no more of a source's chunks are good than a file may have
  pub good_few : many_of good (chunks_of (of_source source ss)) ≤ chunk_limit
  good_few = omega (arith, many_few good (chunks_of (of_source source ss)), source-few source ss, a.kept.chunks)

  pub had-many : {end : ℕ} {t : List Span} {n : ℕ} {had₀ had₁ missing₀ missing₁ : List ℕ} {totals : Lists} → end ≡ described_length (of_source source ss)
      → SpansOf good (chunks_of (of_source source ss)) end t n
      → PutLists (class_by (take n t) (length (take n t))) end had₀ had₁ missing₀ missing₁ totals
      → range_row_length * range_limit ≤ length had₀
      → {k : ℕ} {ranges : List (List ℕ)} → ranges ≡ first_chunks 2 k had₁
      → range_limit ≤ k
      → HadIn (of_source source ss) (take totals.had ranges)
  unfolding filled
  had-many {had₀ = had₀} {totals = totals} described spans listed room {k} paired pairs_there =
      let lists = spanned_lists (spanned_front spans.spans.room (spanned_by described spans)) listed in
      let mine = had_list (of_source source ss) in
      let few = a.few source in
      let put = put_filled (range_rows mine) lists.had (omega (arith, range_rows_long mine, few)) in
      record {
        lists = a.lists source;
        rows =
            ap (take totals.had) paired
            ∙ ap (λ (t : List ℕ). take totals.had (first_chunks 2 k t)) put
            ∙ ap (λ (n : ℕ). take n (first_chunks 2 k (range_rows mine ++ drop (length (range_rows mine)) had₀))) lists.counts.had_many
            ∙ pairs mine (drop (length (range_rows mine)) had₀) k (omega arith);
      }

  -- there are no more of them than the table has pairs
  pub had-room : {end : ℕ} {t : List Span} {n : ℕ} {had₀ had₁ missing₀ missing₁ : List ℕ} {totals : Lists} → end ≡ described_length (of_source source ss)
      → SpansOf good (chunks_of (of_source source ss)) end t n
      → PutLists (class_by (take n t) (length (take n t))) end had₀ had₁ missing₀ missing₁ totals
      → totals.had ≤ range_limit
  had-room described spans listed =
      let lists = spanned_lists (spanned_front spans.spans.room (spanned_by described spans)) listed in
      omega (arith, lists.counts.had_many, a.few source)
