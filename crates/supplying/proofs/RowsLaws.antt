-- Laws of the chunks of a table: the chunk of a row, whether it is of a source, and that a table which reading filled
-- holds the chunks of each source.
use Prim.Native.Nat.{ℕ, zero, suc, ◌+◌, ◌*◌, ◌/◌, ◌<◌, ◌≤◌}
use mathlib.Core.Bool.{Bool, true, false}
use mathlib.Core.List.{List, [], ◌∷◌, ◌++◌, map, append_assoc}
use mathlib.Core.Logic.{inl, inr}
use mathlib.Core.Path.{◌≡◌, refl, sym, ap, ap₂, ◌∙◌}
use native.Mathlib.Omega.{arith}
use borrow.Author.Tests.{lt-ltb, le-ltb}
use lib.Dec.{eqb}
use lib.ListN.{length, get_or, length-append, length-map, length-take, drop}
use lib.Seq.{get_or-append-add, get_or-take}
use Rattle.partial.specs.Limits.{segment_limit}
use Rattle.partial.specs.Memory.{filled}
use Rattle.partial.specs.Segments.{Chunk, Segment, chunks_of}
use Rattle.partial.specs.Sources.{of_source}
use Rattle.partial.specs.Tables.{chunk_row_length, chunk_row, chunk_rows_of, chunk_rows_from, chunk_rows}
use Rattle.partial.proofs.Meaning.SequenceLaws.{which}
use Rattle.partial.proofs.Reading.RowLaws.{chunk_rows_long}
use Rattle.sources.specs.Held.{SourcesHeld}
use Rattle.sources.specs.Numbers.{source_in}
use Rattle.sources.proofs.NumberLaws.{source_there}
use Rattle.supplying.specs.Rows.{chunk_in, row_of, chunks_from, chunks_in}

-- the chunk of a row that is there
pub row_there : (table : List ℕ) (n : ℕ) → n < length table / chunk_row_length
    → chunk_in table n ≡ record { start = get_or table (chunk_row_length * n + 2) 0; size = get_or table (chunk_row_length * n + 3) 0; state = get_or table (chunk_row_length * n + 4) 0; place = get_or table (chunk_row_length * n + 5) 0 }
unfolding chunk_in
row_there table n there = rw (chunk_in, lt-ltb n (length table / chunk_row_length) there)

-- a row behind so many others
row_behind : (front rest : List ℕ) (k n i : ℕ) (c : Chunk) → length front ≡ chunk_row_length * k → chunk_in (front ++ (chunk_row n i c ++ rest)) k ≡ c
unfolding chunk_row
row_behind front rest k n i c long =
    let table = front ++ (chunk_row n i c ++ rest) in
    let at : (j : ℕ) → get_or table (chunk_row_length * k + j) 0 ≡ get_or (chunk_row n i c ++ rest) j 0 =
    λ j. ap (λ (m : ℕ). get_or table (m + j) 0) (sym long) ∙ get_or-append-add front (chunk_row n i c ++ rest) j 0 in
    row_there table k (omega (arith, length-append front (chunk_row n i c ++ rest)))
    ∙ (λ j. record { start = at 2 j; size = at 3 j; state = at 4 j; place = at 5 j })

row_long : (front : List ℕ) (k n i : ℕ) (c : Chunk) → length front ≡ chunk_row_length * k → length (front ++ chunk_row n i c) ≡ chunk_row_length * suc k
unfolding chunk_row
row_long front k n i c long = omega (arith, length-append front (chunk_row n i c))

module _ (sources : List ℕ) (source : ℕ) where
  -- whether a row is of the source
  pub row_past : (table : List ℕ) (n : ℕ) → length table / chunk_row_length ≤ n → false ≡ row_of sources source table n
  unfolding row_of
  row_past table n past = rw (row_of, le-ltb n (length table / chunk_row_length) past)

  pub row_by : (table : List ℕ) (n : ℕ) → n < length table / chunk_row_length → eqb (source_in sources (get_or table (chunk_row_length * n) 0)) source ≡ row_of sources source table n
  unfolding row_of
  row_by table n there = rw (row_of, lt-ltb n (length table / chunk_row_length) there)

  -- a row is taken, or passed over
  pub rows_next : (is : Bool) (table : List ℕ) (more n : ℕ) → row_of sources source table n ≡ is
      → chunks_from sources source table (suc more) n ≡ elim is [ true ↦ chunk_in table n ∷ chunks_from sources source table more (suc n) | false ↦ chunks_from sources source table more (suc n) ]
  unfolding chunks_from
  rows_next is table more n e = rw (chunks_from, e)

  -- a row behind so many others is of the source of its segment
  behind_by : (front rest : List ℕ) (k n i : ℕ) (c : Chunk) → length front ≡ chunk_row_length * k
      → row_of sources source (front ++ (chunk_row n i c ++ rest)) k ≡ eqb (source_in sources n) source
  unfolding chunk_row
  behind_by front rest k n i c long =
      let table = front ++ (chunk_row n i c ++ rest) in
      let here : chunk_row_length * k ≡ length front + 0 = omega (arith, long) in
      let number : get_or table (chunk_row_length * k) 0 ≡ n = ap (λ (m : ℕ). get_or table m 0) here ∙ get_or-append-add front (chunk_row n i c ++ rest) 0 0 in
      sym (row_by table k (omega (arith, length-append front (chunk_row n i c ++ rest)))) ∙ ap (λ (m : ℕ). eqb (source_in sources m) source) number

  -- the rows of one segment's chunks: all of them, or none
  abbrev chosen : Bool → List Chunk → List Chunk
  chosen is cs = elim is [ true ↦ cs | false ↦ [] ]

  chosen_more : (is : Bool) {c d : Chunk} {cs : List Chunk} (ds : List Chunk) → c ≡ d → cs ≡ chosen is ds → elim is [ true ↦ c ∷ cs | false ↦ cs ] ≡ chosen is (d ∷ ds)
  chosen_more true ds first others = λ j. first j ∷ others j
  chosen_more false ds first others = others

  segment-rows : (is : Bool) (front rest : List ℕ) (k n i : ℕ) (cs : List Chunk) → eqb (source_in sources n) source ≡ is → length front ≡ chunk_row_length * k
      → chunks_from sources source (front ++ (chunk_rows_of n i cs ++ rest)) (length cs) k ≡ chosen is cs
  unfolding chunks_from chunk_rows_of
  segment-rows true front rest k n i [] of long = refl
  segment-rows false front rest k n i [] of long = refl
  segment-rows is front rest k n i (c ∷ cs) of long =
      let more = chunk_rows_of n (suc i) cs ++ rest in
      let here : chunk_rows_of n i (c ∷ cs) ++ rest ≡ chunk_row n i c ++ more = append_assoc (chunk_row n i c) (chunk_rows_of n (suc i) cs) rest in
      let first = ap (λ (rows : List ℕ). chunk_in (front ++ rows) k) here ∙ row_behind front more k n i c long in
      let test = ap (λ (rows : List ℕ). row_of sources source (front ++ rows) k) here ∙ behind_by front more k n i c long ∙ of in
      let next : front ++ (chunk_rows_of n i (c ∷ cs) ++ rest) ≡ (front ++ chunk_row n i c) ++ more =
      ap (λ (rows : List ℕ). front ++ rows) here ∙ sym (append_assoc front (chunk_row n i c) more) in
      let others =
      ap (λ (table : List ℕ). chunks_from sources source table (length cs) (suc k)) next
      ∙ segment-rows is (front ++ chunk_row n i c) rest (suc k) n (suc i) cs of (row_long front k n i c long) in
      rows_next is _ (length cs) k test ∙ chosen_more is cs first others

  -- rows behind others
  rows_both : (table : List ℕ) (a b k : ℕ) → chunks_from sources source table (a + b) k ≡ chunks_from sources source table a k ++ chunks_from sources source table b (k + a)
  unfolding chunks_from
  rows_both table zero b k =
      let none : zero + b ≡ b = omega arith in
      let same : k ≡ k + zero = omega arith in
      ap₂ (λ (n m : ℕ). chunks_from sources source table n m) none same
  rows_both table (suc a) b k =
      let one : suc a + b ≡ suc (a + b) = omega arith in
      let on : suc k + a ≡ k + suc a = omega arith in
      let others = rows_both table a b (suc k) ∙ ap (λ (n : ℕ). chunks_from sources source table a (suc k) ++ chunks_from sources source table b n) on in
      ap (λ (n : ℕ). chunks_from sources source table n k) one
      ∙ elim (which (row_of sources source table k)) [
        | inl e ↦ rows_next true table (a + b) k e ∙ (λ j. chunk_in table k ∷ others j) ∙ sym (ap (λ (cs : List Chunk). cs ++ chunks_from sources source table b (k + suc a)) (rows_next true table a k e))
        | inr e ↦ rows_next false table (a + b) k e ∙ others ∙ sym (ap (λ (cs : List Chunk). cs ++ chunks_from sources source table b (k + suc a)) (rows_next false table a k e))
      ]

  -- from one of its entries on, the table of sources has those of segments
  abbrev Sourced : ℕ → List Segment → Type 0
  Sourced n ss = (j : ℕ) → j < length ss → source_in sources (n + j) ≡ get_or (map (λ s. s.source) ss) j 0

  -- the rows of all segments' chunks: those of the segments of the source
  all_rows : (front rest : List ℕ) (k n : ℕ) (ss : List Segment) → Sourced n ss → length front ≡ chunk_row_length * k
      → chunks_from sources source (front ++ (chunk_rows_from n ss ++ rest)) (length (chunks_of ss)) k ≡ chunks_of (of_source source ss)
  unfolding chunks_from chunk_rows_from chunks_of of_source
  all_rows front rest k n [] of long = refl
  all_rows front rest k n (s ∷ ss) of long =
      let mine = chunk_rows_of n 0 s.chunks in
      let more = chunk_rows_from (suc n) ss ++ rest in
      let table = front ++ ((mine ++ chunk_rows_from (suc n) ss) ++ rest) in
      let here : table ≡ front ++ (mine ++ more) = ap (λ (rows : List ℕ). front ++ rows) (append_assoc mine (chunk_rows_from (suc n) ss) rest) in
      let next : table ≡ (front ++ mine) ++ more = here ∙ sym (append_assoc front mine more) in
      let test : eqb (source_in sources n) source ≡ eqb s.source source =
      ap (λ (m : ℕ). eqb m source) (ap (source_in sources) {x = n} {y = n + 0} (omega arith) ∙ of 0 (omega arith)) in
      let first = ap (λ (t : List ℕ). chunks_from sources source t (length s.chunks) k) here ∙ segment-rows (eqb s.source source) front more k n 0 s.chunks test long in
      let behind : length (front ++ mine) ≡ chunk_row_length * (k + length s.chunks) = omega (arith, length-append front mine, chunk_rows_long n 0 s.chunks) in
      let later : Sourced (suc n) ss = λ j low. ap (source_in sources) {x = suc n + j} {y = n + suc j} (omega arith) ∙ of (suc j) (omega arith) in
      let others =
      ap (λ (t : List ℕ). chunks_from sources source t (length (chunks_of ss)) (k + length s.chunks)) next
      ∙ all_rows (front ++ mine) rest (k + length s.chunks) (suc n) ss later behind in
      ap (λ (m : ℕ). chunks_from sources source table m k) (length-append s.chunks (chunks_of ss))
      ∙ rows_both table (length s.chunks) (length (chunks_of ss)) k
      ∙ (λ j. first j ++ others j)
      ∙ elim (which (eqb s.source source)) [
        | inl e ↦ rw (of_source, e)
        | inr e ↦ rw (of_source, e)
      ]

  -- a table that reading filled holds the chunks of each source
  pub filled_chunks : (ss : List Segment) (table : List ℕ) → SourcesHeld sources ss → chunks_in sources source (filled (chunk_rows ss) table) (length (chunks_of ss)) ≡ chunks_of (of_source source ss)
  unfolding filled chunk_rows
  filled_chunks ss table held = all_rows [] (drop (length (chunk_rows ss)) table) 0 0 ss of refl
    where
      number : Segment → ℕ
      number s = s.source

      few : length ss ≤ segment_limit
      few = omega (arith, ap length held.numbers, length-take (length ss) sources, length-map ss number, held.long)

      of : Sourced 0 ss
      of j low =
          let here : 0 + j ≡ j = omega arith in
          ap (source_in sources) here ∙ source_there sources j (omega (arith, few)) ∙ sym (get_or-take (length ss) sources j 0 low) ∙ ap (λ (l : List ℕ). get_or l j 0) held.numbers
