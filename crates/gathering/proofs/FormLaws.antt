-- Laws of the two forms of chunks in a table: how long they are, and those with one more.
use Prim.Native.Nat.{ℕ, suc, ◌+◌, ◌*◌, ◌≤◌}
use mathlib.Core.Bool.{Bool, true, false}
use mathlib.Core.List.{List, [], ◌∷◌, ◌++◌, map, append-nil}
use mathlib.Core.Path.{◌≡◌, refl, ap, ◌∙◌}
use native.Mathlib.Omega.{arith}
use lib.ListN.{length, take}
use lib.Seq.{take_at, length-take-le}
use Rattle.numerals.proofs.StoredLaws.{stored-room}
use Rattle.partial.specs.Limits.{chunk_limit}
use Rattle.partial.specs.Segments.{Chunk, Segment, chunks_of}
use Rattle.partial.specs.Tables.{chunk_row_length, chunk_row, chunk_rows_of, chunk_rows_from, chunk_rows}
use Rattle.partial.proofs.Meaning.SupplyLaws.{chunks_append}
use Rattle.partial.proofs.Reading.RowLaws.{chunk_rows_long, chunk_rows_last, all_rows_long, all_rows_last}
use Rattle.filling.specs.Rows.{Put}
use Rattle.filling.proofs.RowLaws.{put_same}
use Rattle.gathering.specs.Chunks.{Behind}
use Rattle.gathering.specs.Forms.{form_length, put_of, puts_of, all_puts}
use Rattle.gathering.specs.Numbers.{number_of, numbers_of}

pub map_long : (cs : List Chunk) → length (map number_of cs) ≡ length cs
map_long [] = refl
map_long (c ∷ cs) = ap suc (map_long cs)

pub map_both : (cs ds : List Chunk) → map number_of (cs ++ ds) ≡ map number_of cs ++ map number_of ds
map_both [] ds = refl
map_both (c ∷ cs) ds = ap (λ (l : List ℕ). number_of c ∷ l) (map_both cs ds)

-- a chunk by its number, and one by its row
module _ {numbered : Bool} (n i : ℕ) (c : Chunk) {t t' : List ℕ} (before : ℕ) where
  pub put-number : {m : ℕ} → numbered ≡ true → m ≡ number_of c → Put t before (m ∷ []) t' → Put t (form_length numbered * before) (put_of numbered n i c) t'
  unfolding form_length put_of
  put-number is same put = rw is (put_same (omega arith) (ap (λ (m : ℕ). m ∷ []) same) put)

  pub put-row : numbered ≡ false → Put t (chunk_row_length * before) (chunk_row n i c) t' → Put t (form_length numbered * before) (put_of numbered n i c) t'
  unfolding form_length put_of
  put-row is put = rw is put

pub puts_none : (numbered : Bool) (n : ℕ) → puts_of numbered n [] ≡ []
unfolding puts_of chunk_rows_of
puts_none true n = refl
puts_none false n = refl

pub puts_long : (numbered : Bool) (n : ℕ) (cs : List Chunk) → length (puts_of numbered n cs) ≡ form_length numbered * length cs
unfolding puts_of form_length
puts_long true n cs = omega (arith, map_long cs)
puts_long false n cs = chunk_rows_long n 0 cs

-- they leave those before them, where the table has room for all chunks of a file
forms_fit : (numbered : Bool) (a b : ℕ) → a + b ≤ chunk_limit → form_length numbered * a + form_length numbered * b ≤ form_length numbered * chunk_limit
unfolding form_length
forms_fit true a b few = omega arith
forms_fit false a b few = omega arith

pub puts_behind : (numbered : Bool) (n many : ℕ) (cs : List Chunk) {t₀ t : List ℕ} → many + length cs ≤ chunk_limit → Put t₀ (form_length numbered * many) (puts_of numbered n cs) t
    → Behind numbered many t₀ t
puts_behind numbered n many cs {t₀} few put room =
    let at = form_length numbered * many in
    let rows = puts_of numbered n cs in
    let fits : at + length rows ≤ length t₀ = omega (arith, puts_long numbered n cs, forms_fit numbered many (length cs) few) in
    ap (take at) (put.held fits ∙ stored-room t₀ at rows fits) ∙ take_at (take at t₀) _ at (length-take-le at t₀ (omega arith))

-- with one chunk more
pub puts_last : (numbered : Bool) (n : ℕ) (cs : List Chunk) (c : Chunk) → puts_of numbered n (cs ++ (c ∷ [])) ≡ puts_of numbered n cs ++ put_of numbered n (length cs) c
unfolding puts_of put_of
puts_last true n cs c = map_both cs (c ∷ [])
puts_last false n cs c =
    let index : 0 + length cs ≡ length cs = omega arith in
    chunk_rows_last n 0 cs c ∙ ap (λ (i : ℕ). chunk_rows_of n 0 cs ++ chunk_row n i c) index

pub all_puts_none : (numbered : Bool) → all_puts numbered [] ≡ []
unfolding all_puts numbers_of chunks_of chunk_rows chunk_rows_from
all_puts_none true = refl
all_puts_none false = refl

pub all_puts_long : (numbered : Bool) (ss : List Segment) → length (all_puts numbered ss) ≡ form_length numbered * length (chunks_of ss)
unfolding all_puts form_length numbers_of chunk_rows
all_puts_long true ss = omega (arith, map_long (chunks_of ss))
all_puts_long false ss = all_rows_long 0 ss

-- with one segment more
pub all_puts_last : (numbered : Bool) (ss : List Segment) (s : Segment)
    → all_puts numbered (ss ++ (s ∷ [])) ≡ all_puts numbered ss ++ puts_of numbered (length ss) s.chunks
unfolding all_puts puts_of numbers_of chunk_rows chunks_of
all_puts_last true ss s = ap (map number_of) (chunks_append ss (s ∷ []) ∙ ap (λ (cs : List Chunk). chunks_of ss ++ cs) (append-nil s.chunks)) ∙ map_both (chunks_of ss) s.chunks
all_puts_last false ss s =
    let number : 0 + length ss ≡ length ss = omega arith in
    all_rows_last 0 ss s ∙ ap (λ (n : ℕ). chunk_rows_from 0 ss ++ chunk_rows_of n 0 s.chunks) number
