-- The rows of an accepted file's segments, the numbers of their sources and those of its chunks, put into three tables,
-- keep the file.
use Prim.Native.Nat.{ℕ, ◌+◌, ◌*◌, ◌≤◌}
use mathlib.Core.List.{List, [], ◌∷◌, ◌++◌, map, append_assoc}
use mathlib.Core.Path.{◌≡◌, refl, sym, ap, subst, ◌∙◌}
use native.Mathlib.Decide.{dec_le}
use native.Mathlib.Nat.{add-zero}
use native.Mathlib.Omega.{arith}
use borrow.Author.Tests.{lt-ltb, le-ltb}
use lib.ListN.{length, get_or, drop, take-append-drop, length-append}
use lib.Seq.{get_or-append-add}
use Rattle.partial.specs.Limits.{segment_limit, chunk_limit, source_limit}
use Rattle.partial.specs.Segments.{Chunk, Segment, has_place, chunks_of}
use Rattle.partial.specs.Tables.{segment_row_length, segment_row, segment_rows}
use Rattle.partial.proofs.Reading.RowLaws.{segment_rows_long}
use Rattle.partial.proofs.Reading.SmallLaws.{Small, SmallFrom, AllSmall}
use Rattle.sources.specs.Held.{SourcesHeld}
use Rattle.filling.specs.Rows.{Put}
use Rattle.filling.proofs.RowLaws.{put_fills}
use Rattle.gathering.specs.Kept.{ChunksKept, SegmentsKept, Kept}
use Rattle.gathering.specs.Numbers.{number_of, chunk_by, numbers_of}
use Rattle.gathering.proofs.FormLaws.{map_long, map_both}
use Rattle.gathering.proofs.NumberLaws.{Narrow, number-back}

-- a chunk of an accepted file has room in its number
pub narrow_small : (c : Chunk) → Small source_limit c → Narrow c
unfolding has_place
narrow_small c small =
    record {
      state = omega (arith, small.state);
      kept = λ has.
          elim (dec_le 1 c.size) [
            | yes some ↦
                let inside = small.placed (rw (has, lt-ltb 0 c.size some)) in
                (omega arith, omega arith)
            | no none ↦
                let nowhere = small.unplaced (rw (has, le-ltb 0 c.size (omega arith))) in
                (omega arith, omega arith)
          ];
      away = λ none. (small.unplaced (rw none), omega (arith, small.ends));
    }

-- the chunks of a segment, by numbers behind others
chunks_kept : (front rest : List ℕ) (at : ℕ) → length front ≡ at → (start : ℕ) (cs : List Chunk) → SmallFrom source_limit start cs
    → ChunksKept (front ++ (map number_of cs ++ rest)) at start cs
chunks_kept front rest at long start [] small = tt
chunks_kept front rest at long start (c ∷ cs) (starts, small, others) =
    let more = map number_of cs ++ rest in
    let numbers = front ++ (number_of c ∷ more) in
    let there : get_or numbers at 0 ≡ number_of c = ap (λ (n : ℕ). get_or numbers n 0) (sym long ∙ sym (add-zero _)) ∙ get_or-append-add front (number_of c ∷ more) 0 0 in
    let back : chunk_by start (get_or numbers at 0) ≡ c = (λ i. chunk_by (sym starts i) (there i)) ∙ number-back c (narrow_small c small) in
    let next : (front ++ (number_of c ∷ [])) ++ more ≡ numbers = append_assoc front (number_of c ∷ []) more in
    let behind : length (front ++ (number_of c ∷ [])) ≡ at + 1 = omega (arith, length-append front (number_of c ∷ [])) in (
      back,
      omega (arith, small.ends),
      subst (λ (t : List ℕ). ChunksKept t (at + 1) (start + c.size) cs) next (chunks_kept (front ++ (number_of c ∷ [])) rest (at + 1) behind (start + c.size) cs others),
    )

-- the numbers of a row behind others
row_at : (front rest : List ℕ) (k : ℕ) (s : Segment) → length front ≡ segment_row_length * k → (j : ℕ)
    → get_or (front ++ (segment_row s ++ rest)) (segment_row_length * k + j) 0 ≡ get_or (segment_row s ++ rest) j 0
row_at front rest k s long j = ap (λ (n : ℕ). get_or (front ++ (segment_row s ++ rest)) (n + j) 0) (sym long) ∙ get_or-append-add front (segment_row s ++ rest) j 0

-- the number of a source behind others
source-at : (front rest : List ℕ) (k source : ℕ) → length front ≡ k → get_or (front ++ (source ∷ rest)) k 0 ≡ source
source-at front rest k source long =
    ap (λ (n : ℕ). get_or (front ++ (source ∷ rest)) n 0) (sym long ∙ sym (add-zero (length front))) ∙ get_or-append-add front (source ∷ rest) 0 0

all_kept : (front rest : List ℕ) (k : ℕ) → length front ≡ segment_row_length * k → (former later : List ℕ) → length former ≡ k → (before behind : List ℕ) (at : ℕ) → length before ≡ at
    → (ss : List Segment) → AllSmall source_limit ss
    → SegmentsKept (front ++ (segment_rows ss ++ rest)) (former ++ (map (λ s. s.source) ss ++ later)) (before ++ (numbers_of ss ++ behind)) k at ss
unfolding segment_rows segment_row numbers_of chunks_of
all_kept front rest k long former later short before behind at many [] small = tt
all_kept front rest k long former later short before behind at many (s ∷ ss) (one, others) =
    let row = segment_row s in
    let more = segment_rows ss ++ rest in
    let mine = map number_of s.chunks in
    let others-chunks = map number_of (chunks_of ss) ++ behind in
    let others-sources = map (λ s. s.source) ss ++ later in
    let rows = front ++ (row ++ more) in
    let sources = former ++ (s.source ∷ others-sources) in
    let numbers = before ++ (mine ++ others-chunks) in
    let split : before ++ (map number_of (s.chunks ++ chunks_of ss) ++ behind) ≡ numbers =
    ap (λ (l : List ℕ). before ++ l) (ap (λ (l : List ℕ). l ++ behind) (map_both s.chunks (chunks_of ss)) ∙ append_assoc mine (map number_of (chunks_of ss)) behind) in
    let rows_on : (front ++ row) ++ more ≡ rows = append_assoc front row more in
    let sources-on : (former ++ (s.source ∷ [])) ++ others-sources ≡ sources = append_assoc former (s.source ∷ []) others-sources in
    let numbers_on : (before ++ mine) ++ others-chunks ≡ numbers = append_assoc before mine others-chunks in
    let row_long : length (front ++ row) ≡ segment_row_length * (k + 1) = omega (arith, length-append front row) in
    let numbers-long : length (before ++ mine) ≡ at + length s.chunks = omega (arith, length-append before mine, map_long s.chunks) in
    let sources-long : length (former ++ (s.source ∷ [])) ≡ k + 1 = omega (arith, length-append former (s.source ∷ [])) in
    let rest-kept = all_kept (front ++ row) rest (k + 1) row_long (former ++ (s.source ∷ [])) later sources-long (before ++ mine) behind (at + length s.chunks) numbers-long ss others in
    subst (λ (t : List ℕ). SegmentsKept rows sources t k at (s ∷ ss)) (sym split) (
      row_at front more k s long 1,
      row_at front more k s long 4,
      source-at former others-sources k s.source short,
      chunks_kept before others-chunks at many s.source_offset s.chunks one,
      subst (λ (x : List ℕ × List ℕ × List ℕ). SegmentsKept x.0 x.1 x.2 (k + 1) (at + length s.chunks) ss) (λ i. (rows_on i, sources-on i, numbers_on i)) rest-kept,
    )

pub kept_put : (ss : List Segment) → AllSmall source_limit ss → length ss ≤ segment_limit → length (chunks_of ss) ≤ chunk_limit → {many : ℕ} → many ≡ length ss → {t₀ t n u₀ u : List ℕ}
    → segment_row_length * segment_limit ≤ length t₀
    → chunk_limit ≤ length u₀
    → Put t₀ 0 (segment_rows ss) t
    → SourcesHeld n ss
    → Put u₀ 0 (numbers_of ss) u
    → Kept t many n u ss
unfolding numbers_of
kept_put ss small few chunks count {t₀} {n = n} {u₀ = u₀} room space rows sources numbers =
    let full = put_fills (segment_rows ss) rows (omega (arith, segment_rows_long ss)) in
    let held : n ≡ map (λ s. s.source) ss ++ drop (length ss) n = sym (take-append-drop (length ss) n) ∙ ap (λ (ns : List ℕ). ns ++ drop (length ss) n) sources.numbers in
    let told = put_fills (numbers_of ss) numbers (omega (arith, map_long (chunks_of ss))) in
    record {
      count = count;
      few = few;
      chunks = chunks;
      segments =
          subst (λ (x : List ℕ × List ℕ × List ℕ). SegmentsKept x.0 x.1 x.2 0 0 ss) (λ i. (sym full i, sym held i, sym told i))
          (all_kept [] (drop (length (segment_rows ss)) t₀) 0 refl [] (drop (length ss) n) refl [] (drop (length (numbers_of ss)) u₀) 0 refl ss small);
    }
