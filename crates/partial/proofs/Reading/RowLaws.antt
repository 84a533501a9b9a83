-- Laws of the rows of segments and of chunks: how long they are, and those with one more.
use Prim.Native.Nat.{ℕ, suc, ◌+◌, ◌*◌}
use mathlib.Core.List.{List, [], ◌∷◌, ◌++◌, append-nil, append_assoc}
use mathlib.Core.Path.{◌≡◌, refl, sym, ap, ◌∙◌}
use native.Mathlib.Nat.{add-zero}
use native.Mathlib.Omega.{arith}
use lib.ListN.{length, length-append}
use Rattle.partial.specs.Segments.{Chunk, Segment, chunks_of}
use Rattle.partial.specs.Tables.{segment_row_length, chunk_row_length, chunk_row, chunk_rows_of, chunk_rows_from, segment_row, segment_rows}

pub chunk_rows_long : (n i : ℕ) (cs : List Chunk) → length (chunk_rows_of n i cs) ≡ chunk_row_length * length cs
unfolding chunk_rows_of chunk_row
chunk_rows_long n i [] = refl
chunk_rows_long n i (c ∷ cs) = omega (arith, chunk_rows_long n (suc i) cs)

-- with one chunk more
pub chunk_rows_last : (n i : ℕ) (cs : List Chunk) (c : Chunk) → chunk_rows_of n i (cs ++ (c ∷ [])) ≡ chunk_rows_of n i cs ++ chunk_row n (i + length cs) c
unfolding chunk_rows_of chunk_row
chunk_rows_last n i [] c = ap (λ (k : ℕ). n ∷ k ∷ c.start ∷ c.size ∷ c.state ∷ c.place ∷ []) (omega arith)
chunk_rows_last n i (x ∷ cs) c =
    let index : suc i + length cs ≡ i + length (x ∷ cs) = omega arith in
    ap (λ (rows : List ℕ). chunk_row n i x ++ rows) (chunk_rows_last n (suc i) cs c ∙ ap (λ (k : ℕ). chunk_rows_of n (suc i) cs ++ chunk_row n k c) index)

-- with one segment more
pub all_rows_last : (n : ℕ) (ss : List Segment) (s : Segment) → chunk_rows_from n (ss ++ (s ∷ [])) ≡ chunk_rows_from n ss ++ chunk_rows_of (n + length ss) 0 s.chunks
unfolding chunk_rows_from
all_rows_last n [] s = rw add-zero (append-nil (chunk_rows_of n 0 s.chunks))
all_rows_last n (x ∷ ss) s =
    let number : suc n + length ss ≡ n + length (x ∷ ss) = omega arith in
    ap (λ (rows : List ℕ). chunk_rows_of n 0 x.chunks ++ rows) (all_rows_last (suc n) ss s ∙ ap (λ (k : ℕ). chunk_rows_from (suc n) ss ++ chunk_rows_of k 0 s.chunks) number)
    ∙ sym (append_assoc (chunk_rows_of n 0 x.chunks) (chunk_rows_from (suc n) ss) (chunk_rows_of (n + length (x ∷ ss)) 0 s.chunks))

pub all_rows_long : (n : ℕ) (ss : List Segment) → length (chunk_rows_from n ss) ≡ chunk_row_length * length (chunks_of ss)
unfolding chunk_rows_from chunks_of
all_rows_long n [] = refl
all_rows_long n (s ∷ ss) =
    omega (
      arith,
      length-append (chunk_rows_of n 0 s.chunks) (chunk_rows_from (suc n) ss),
      chunk_rows_long n 0 s.chunks,
      all_rows_long (suc n) ss,
      length-append s.chunks (chunks_of ss),
    )

pub segment_rows_long : (ss : List Segment) → length (segment_rows ss) ≡ segment_row_length * length ss
unfolding segment_rows segment_row
segment_rows_long [] = refl
segment_rows_long (s ∷ ss) = omega (arith, segment_rows_long ss)

pub segment_rows_last : (ss : List Segment) (s : Segment) → segment_rows (ss ++ (s ∷ [])) ≡ segment_rows ss ++ segment_row s
unfolding segment_rows segment_row
segment_rows_last [] s = refl
segment_rows_last (x ∷ ss) s = ap (λ (rows : List ℕ). segment_row x ++ rows) (segment_rows_last ss s)
