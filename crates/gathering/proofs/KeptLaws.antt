-- Laws of what is kept of a file: the next chunk of a segment, and the next segment.
use Prim.Native.Nat.{ℕ, suc, ◌+◌, ◌-◌, ◌*◌, ◌^◌, ◌<◌, ◌≤◌, min}
use mathlib.Core.Bool.{false}
use mathlib.Core.List.{List, [], ◌∷◌, ◌++◌}
use mathlib.Core.Path.{◌≡◌, refl, sym, ap, subst, ◌∙◌}
use native.Mathlib.Numerals.{add-one}
use native.Mathlib.Omega.{arith}
use lib.ListN.{length, get_or, take, drop, take-append-drop, length-append}
use lib.Seq.{take-suc, drop-cons, length-take-le}
use Rattle.partial.specs.Limits.{chunk_limit, source_limit}
use Rattle.partial.specs.Segments.{Chunk, no_chunk, Segment, chunks_of}
use Rattle.partial.specs.Tables.{segment_row_length, chunk_row_length, chunk_row, chunk_rows_of, chunk_rows}
use Rattle.partial.proofs.Meaning.SupplyLaws.{chunks_append}
use Rattle.partial.proofs.Reading.RowLaws.{chunk_rows_long, chunk_rows_last}
use Rattle.filling.specs.Rows.{Put}
use Rattle.filling.proofs.RowLaws.{put_more, put_same}
use Rattle.gathering.specs.Forms.{form_length, put_of, puts_of, all_puts}
use Rattle.gathering.specs.Kept.{ChunksKept, SegmentsKept}
use Rattle.gathering.specs.Numbers.{chunk_by}
use Rattle.gathering.proofs.GatheredLaws.{chunks_last}
use Rattle.gathering.proofs.PassLaws.{chunks_put}

-- ---- the chunks of a segment, of which so many were taken

module _ (numbers : List ℕ) (at : ℕ) (cs : List Chunk) (i start : ℕ) where
  -- the next one
  abbrev pub next_chunk : Chunk
  next_chunk = chunk_by start (get_or numbers (at + i) 0)

  module _ (some : i < length cs) (kept : ChunksKept numbers (at + i) start (drop i cs)) where
    ahead : ChunksKept numbers (at + i) start (get_or cs i no_chunk ∷ drop (suc i) cs)
    ahead = rw (drop-cons cs i no_chunk some) at kept

    pub next_low : start + next_chunk.size ≤ source_limit
    next_low = omega (arith, ahead.1, ap (λ (c : Chunk). c.size) ahead.0)

    pub next_taken : take (i + 1) cs ≡ take i cs ++ (next_chunk ∷ [])
    next_taken = rw (add-one, take-suc cs i no_chunk) (ap (λ (c : Chunk). take i cs ++ (c ∷ [])) (sym ahead.0))

    -- where its end was made, which is no higher than the source may be
    pub next_kept : (next : ℕ) → next ≡ min (start + next_chunk.size) (2 ^ 64 - 1) → ChunksKept numbers (at + (i + 1)) next (drop (i + 1) cs)
    next_kept next made =
        let here : at + i + 1 ≡ at + (i + 1) = omega arith in
        let end : start + (get_or cs i no_chunk).size ≡ next = omega (arith, next_low, made, ap (λ (c : Chunk). c.size) ahead.0) in
        let one : suc i ≡ i + 1 = omega arith in
        subst (λ (x : ℕ × ℕ × ℕ). ChunksKept numbers x.0 x.1 (drop x.2 cs)) (λ j. (here j, end j, one j)) ahead.2

    -- its row behind those before it
    pub row_more : (segment : ℕ) {t₀ t t' : List ℕ} → Put t₀ (chunk_row_length * at) (chunk_rows_of segment 0 (take i cs)) t
        → Put t (form_length false * (at + i)) (put_of false segment i next_chunk) t'
        → Put t₀ (chunk_row_length * at) (chunk_rows_of segment 0 (take (i + 1) cs)) t'
    unfolding form_length put_of
    row_more segment p q =
        let rows = chunk_rows_of segment 0 (take i cs) in
        let many : length (take i cs) ≡ i = length-take-le i cs (omega arith) in
        let here : chunk_row_length * (at + i) ≡ chunk_row_length * at + length rows = omega (arith, chunk_rows_long segment 0 (take i cs)) in
        let index : 0 + length (take i cs) ≡ i = omega (arith, many) in
        let last = ap (chunk_rows_of segment 0) next_taken ∙ chunk_rows_last segment 0 (take i cs) next_chunk ∙ ap (λ (n : ℕ). rows ++ chunk_row segment n next_chunk) index in
        put_same refl (sym last) (put_more (chunk_row_length * at) rows _ p (put_same here refl q))

-- ---- the segments of a file, of which so many were taken

-- the next one
pub record NextSegment (rows sources numbers : List ℕ) (ss : List Segment) (k at : ℕ) : Type 0 where
  pub s : Segment
  pub taken : take (k + 1) ss ≡ take k ss ++ (s ∷ [])
  pub count : get_or rows (segment_row_length * k + 4) 0 ≡ length s.chunks
  pub fits : at + get_or rows (segment_row_length * k + 4) 0 ≤ chunk_limit
  pub kept : ChunksKept numbers at (get_or rows (segment_row_length * k + 1) 0) s.chunks
  pub behind : at + get_or rows (segment_row_length * k + 4) 0 ≡ length (chunks_of (take (k + 1) ss))
  pub source : get_or sources k 0 ≡ s.source
  pub ahead : SegmentsKept rows sources numbers (k + 1) (at + get_or rows (segment_row_length * k + 4) 0) (drop (k + 1) ss)

no_segment : Segment
no_segment = record { place = 0; inner = []; urls = []; source = 0; source_offset = 0; flags = 0; repair_time = 0; header_place = 0; header_length = 0; chunks = [] }

-- those that were taken have no more chunks than all
taken_few : (ss : List Segment) (k : ℕ) → length (chunks_of (take k ss)) ≤ length (chunks_of ss)
taken_few ss k =
    omega (
      arith,
      ap (λ (x : List Segment). length (chunks_of x)) (take-append-drop k ss),
      ap length (chunks_append (take k ss) (drop k ss)),
      length-append (chunks_of (take k ss)) (chunks_of (drop k ss)),
    )

pub next_segment : (rows sources numbers : List ℕ) (ss : List Segment) (k at : ℕ) → k < length ss → length (chunks_of ss) ≤ chunk_limit
    → at ≡ length (chunks_of (take k ss))
    → SegmentsKept rows sources numbers k at (drop k ss)
    → NextSegment rows sources numbers ss k at
next_segment rows sources numbers ss k at some few here kept =
    let s = get_or ss k no_segment in
    let one : suc k ≡ k + 1 = omega arith in
    let taken : take (k + 1) ss ≡ take k ss ++ (s ∷ []) = rw (add-one, take-suc ss k no_segment) in
    let (offset, count, source, chunks, ahead) = rw (drop-cons ss k no_segment some) at kept in
    let behind : at + get_or rows (segment_row_length * k + 4) 0 ≡ length (chunks_of (take (k + 1) ss)) =
    omega (arith, here, count, ap (λ (x : List Segment). length (chunks_of x)) taken, chunks_last (take k ss) s) in
    record {
      s = s;
      taken = taken;
      count = count;
      fits = omega (arith, behind, few, taken_few ss (k + 1));
      kept = rw offset chunks;
      behind = behind;
      source = source;
      ahead = subst (λ (x : ℕ × ℕ). SegmentsKept rows sources numbers (k + 1) (at + x.0) (drop x.1 ss)) (λ j. (sym count j, one j)) ahead;
    }

-- its rows behind those before it
pub rows_more : {rows sources numbers : List ℕ} (ss : List Segment) {k at : ℕ} → k < length ss → at ≡ length (chunks_of (take k ss)) → (n : NextSegment rows sources numbers ss k at) → {t₀ t t' : List ℕ}
    → Put t₀ 0 (chunk_rows (take k ss)) t
    → Put t (chunk_row_length * at) (chunk_rows_of k 0 n.s.chunks) t'
    → Put t₀ 0 (chunk_rows (take (k + 1) ss)) t'
unfolding all_puts puts_of form_length
rows_more ss {k} some here n p q =
    let many : k ≡ length (take k ss) = sym (length-take-le k ss (omega arith)) in
    put_same refl (ap chunk_rows (sym n.taken))
    (chunks_put (take k ss) n.s false p (put_same (ap (λ (m : ℕ). chunk_row_length * m) here) (ap (λ (m : ℕ). chunk_rows_of m 0 n.s.chunks) many) q))
