-- How long a map can be: no program that prints one answers 33, whatever it is given.
use Prim.Native.Nat.{ℕ, zero, suc, ◌+◌, ◌*◌, ◌/◌, ◌^◌, ◌≤◌, ◌<◌}
use mathlib.Core.Bool.{Bool, true, false, ◌&&◌, ◌||◌}
use mathlib.Core.List.{List, [], ◌∷◌, ◌++◌, append-nil, map}
use mathlib.Core.Logic.{inl, inr}
use mathlib.Core.Path.{◌≡◌, refl}
use native.Mathlib.Decide.{dec_le}
use native.Mathlib.Nat.{le_refl}
use native.Mathlib.Omega.{arith}
use borrow.Author.Tests.{lt-ltb, eq-eqb, eqb-true, eqb-false, ne_eqb}
use lib.Dec.{T, leb, ltb, eqb, lit<}
use lib.ListN.{length, length-append, length-map}
use Rattle.io.specs.Digits.{last_digits as digits}
use Rattle.boxes.specs.Answer.{Answer, refused, given}
use Rattle.numerals.specs.Numbers.{least}
use Rattle.partial.specs.Limits.{source_limit, program_buffer}
use Rattle.partial.specs.Segments.{Segment, chunks_of}
use Rattle.partial.specs.Meaning.{described_length, is_closed, agree}
use Rattle.partial.specs.Sources.{source_count, of_source}
use Rattle.partial.specs.Ranges.{Range, had, in_row, total, ranges_of, had_list, missing_list}
use Rattle.partial.specs.Naming.{held, named_ranges, held_list, lost_list}
use Rattle.partial.specs.Map.{ascii, decimal, line, range_line, range_lines, total_line, source_line, refused_line, map_word, miss_word}
use Rattle.partial.specs.Map.{source_map, source_missmap, each_source, per_source, map_of, missmap_of, text_for}
use Rattle.partial.specs.Reading.{reading}
use Rattle.partial.specs.Sequences.{some_of}
use Rattle.partial.specs.ReadingDemands.{of_stages, NeverShort}
use Rattle.partial.proofs.Meaning.SequenceLaws.{which, both, passes, past, Each}
use Rattle.partial.proofs.Meaning.DescribedLaws.{InOrder}
use Rattle.partial.proofs.Meaning.ListingLaws.{listing}
use Rattle.partial.proofs.Meaning.NamingLaws.{naming}
use Rattle.partial.proofs.Meaning.SourceLaws.{count_most}
use Rattle.partial.proofs.Meaning.EdgeLaws.{listed_few, named_few}
use Rattle.partial.proofs.Reading.LimitLaws.{segments_limited, chunks_few, described_low}
use Rattle.partial.proofs.Reading.PartLaws.{headed_read}
use Rattle.partial.proofs.Reading.PrintedLaws.{printed}
use Rattle.partial.proofs.Reading.NumberedLaws.{reading_numbered}
use Rattle.partial.proofs.Reading.ReadingLaws.{accepted_of, reading-segments}
use Rattle.partial.proofs.Reading.RefusalLaws.{reading_only}

-- the least number that passes a test is no more than any that passes
least_most : (test : ℕ → Bool) (more from k : ℕ) → from ≤ k → test k ≡ true → least test more from ≤ k
unfolding least
least_most test zero from k low here = low
least_most test (suc more) from k low here =
    elim (which (test from)) [
      | inl e ↦ rw (least, e) low
      | inr e ↦
          elim (dec_le k from) [
            | yes high ↦
                let same : k ≡ from = omega arith in
                absurd (let z : ◌≡◌ {A = ℕ} 0 1 = cc in omega arith)
            | no on ↦ rw (least, e) (least_most test more (suc from) k (omega arith) here)
          ]
    ]

digits_long : (b k n : ℕ) → length (digits b k n) ≡ k
digits_long b zero n = refl
digits_long b (suc k) n = rw (length-append, digits_long b k (n / b)) (omega arith)

-- a number below a power of ten has no more digits than that
decimal_most : (n k : ℕ) → 0 < k → n < 10 ^ k → length (decimal n) ≤ k
unfolding decimal
decimal_most n k some low = rw digits_long (least_most (λ j. ltb n (10 ^ j)) n 1 k (omega arith) (lt-ltb n (10 ^ k) low))

-- a line whose fields, after the first, have no more bytes than that
line_most : (w : ℕ) (field : List ℕ) (rest : List (List ℕ)) → Each (λ f. length f ≤ w) rest → length (line field rest) ≤ length field + (1 + (w + 1) * length rest)
unfolding line
line_most w field [] each = rw length-append (omega arith)
line_most w field (f ∷ rest) (here, each) = rw length-append (omega (arith, line_most w f rest each))

-- the words of a map
word_4 : (b : Bool) (u v : List ℕ) → length u ≡ 4 → length v ≡ 4 → length {A = ℕ} (elim b [ true ↦ u | false ↦ v ]) ≡ 4
word_4 true u v l m = l
word_4 false u v l m = m

map-word : (class : ℕ) → length (map_word class) ≡ 4
unfolding map_word ascii
map-word class = word_4 (eqb class had) (ascii "have") _ refl (word_4 (eqb class held) (ascii "held") (ascii "lost") refl refl)

miss-word : (class : ℕ) → length (miss_word class) ≡ 4
unfolding miss_word ascii
miss-word class = word_4 (eqb class had) (ascii "have") (ascii "miss") refl refl

-- numbers of thirteen digits
module _ (end : ℕ) (low : end < 10 ^ 13) where
  number_most : (n : ℕ) → n ≤ end → length (decimal n) ≤ 13
  number_most n h = decimal_most n 13 (omega arith) (omega arith)

  row_ordered : (from : ℕ) (rs : List Range) → in_row from end rs ≡ true → from ≤ end
  unfolding in_row
  row_ordered from [] h = omega (arith, eqb-true from end h)
  row_ordered from (r ∷ rs) h =
      let (front, rest) = both (eqb r.first from && ltb 0 r.length) (in_row (r.first + r.length) end rs) h in
      let (starts, _) = both (eqb r.first from) (ltb 0 r.length) front in
      omega (arith, eqb-true r.first from starts, row_ordered (r.first + r.length) rs rest)

  lines_most : (word : ℕ → List ℕ) → ((class : ℕ) → length (word class) ≡ 4) → (from : ℕ) (rs : List Range) → in_row from end rs ≡ true
      → length (range_lines word rs) ≤ 33 * length rs
  unfolding in_row range_lines range_line
  lines_most word four from [] h = omega arith
  lines_most word four from (r ∷ rs) h =
      let (front, rest) = both (eqb r.first from && ltb 0 r.length) (in_row (r.first + r.length) end rs) h in
      let ends = row_ordered (r.first + r.length) rs rest in
      let one = line_most 13 (word r.class) (decimal r.first ∷ decimal r.length ∷ []) (number_most r.first (omega arith), (number_most r.length (omega arith), tt)) in
      rw length-append (omega (arith, one, four r.class, lines_most word four (r.first + r.length) rs rest))

  source_most : (ss : List Segment) → described_length ss ≤ end → length (source_line ss) ≤ 35
  unfolding source_line ascii
  source_most ss h = line_most 13 (ascii "source") _ (number_most (described_length ss) h, (closed_most (is_closed ss), tt))
    where
      closed_most : (b : Bool) → length {A = ℕ} (elim b [ true ↦ ascii "closed" | false ↦ ascii "open" ]) ≤ 13
      closed_most true = omega arith
      closed_most false = omega arith

  total_most : (lists : List (List Range)) → Each (λ rs. total rs ≤ end) lists → length (total_line lists) ≤ 6 + 14 * length lists
  unfolding total_line ascii
  total_most lists each = omega (arith, line_most 13 (ascii "total") (map (λ rs. decimal (total rs)) lists) (go lists each), length-map lists (λ rs. decimal (total rs)))
    where
      go : (lists : List (List Range)) → Each (λ rs. total rs ≤ end) lists → Each (λ f. length f ≤ 13) (map (λ rs. decimal (total rs)) lists)
      go [] each = tt
      go (rs ∷ lists) (here, rest) = (number_most (total rs) here, go lists rest)

-- the numbers that reading refuses with have two digits at most
two_digits : (n : ℕ) → T (of_stages n || some_of (eqb n) (12 ∷ 26 ∷ [])) → n ≤ 41
unfolding some_of
two_digits n known =
    elim (dec_le n 41) [
      | yes low ↦ low
      | no over ↦
          let stages : of_stages n ≡ false =
          simp (past 1 11 n (omega arith), past 13 8 n (omega arith), past 22 3 n (omega arith), ne_eqb n 41 (λ e. omega arith), ne_eqb n 25 (λ e. omega arith), ne_eqb n 40 (λ e. omega arith), past 36 4 n (omega arith)) in
          absurd (simp (stages, ne_eqb n 12 (λ e. omega arith), ne_eqb n 26 (λ e. omega arith)) at known)
    ]

refused_most : (n : ℕ) → n ≤ 41 → length (refused_line n) ≤ program_buffer
unfolding refused_line ascii
refused_most n low = omega (arith, line_most 2 (ascii "refused") (decimal n ∷ []) (decimal_most n 2 (omega arith) (omega arith), tt))

-- a program prints a map, or a line
module _ (of : List Segment → List ℕ) (each : (f : List ℕ) (ss : List Segment) → reading source_limit f ≡ given ss → length (of ss) ≤ program_buffer) where
  text_most : (most : ℕ) (input : List ℕ) → length (text_for of source_limit most input) ≤ program_buffer
  unfolding text_for
  text_most most input =
      elim (which (leb (length input) most)) [
        | inr over ↦ rw (text_for, over) (refused_most 27 (omega arith))
        | inl small ↦ go (reading source_limit input) refl small
      ]
    where
      go : (x : Answer (List Segment)) → reading source_limit input ≡ x → leb (length input) most ≡ true
          → length (text_for of source_limit most input) ≤ program_buffer
      go (refused n) e small = rw (text_for, small, e) (refused_most n (omega (arith, two_digits n (reading_only source_limit input n e))))
      go (given ss) e small = rw (text_for, small, e) (each input ss e)

  pub never_short : NeverShort of source_limit program_buffer
  never_short most input buffer long = (printed of source_limit most input).room buffer (omega (arith, text_most most input))

-- the segments and chunks of a list, and those of so many sources from a number on
weight : List Segment → ℕ
weight ss = length ss + length (chunks_of ss)

weights : List Segment → ℕ → ℕ → ℕ
weights ss zero n = 0
weights ss (suc more) n = weight (of_source n ss) + weights ss more (suc n)

module _ (s : Segment) (ss : List Segment) where
  -- a segment counts in its own source alone
  weight_own : (n : ℕ) → s.source ≡ n → weight (of_source n (s ∷ ss)) ≡ weight (s ∷ []) + weight (of_source n ss)
  unfolding weight of_source chunks_of
  weight_own n same = rw (of_source, eq-eqb s.source n same) (simp (length-append, append-nil) (omega arith))

  weight_other : (n : ℕ) → (s.source ≡ n → ⊥) → weight (of_source n (s ∷ ss)) ≡ weight (of_source n ss)
  unfolding weight of_source
  weight_other n other = rw (of_source, ne_eqb s.source n other)

  weights_past : (more n : ℕ) → s.source < n → weights (s ∷ ss) more n ≡ weights ss more n
  unfolding weights
  weights_past zero n low = refl
  weights_past (suc more) n low = omega (arith, weight_other n (λ same. omega arith), weights_past more (suc n) (omega arith))

  weights_one : (more n : ℕ) → weights (s ∷ ss) more n ≤ weight (s ∷ []) + weights ss more n
  unfolding weights
  weights_one zero n = omega arith
  weights_one (suc more) n =
      elim (which (eqb s.source n)) [
        | inl e ↦ let same = eqb-true s.source n e in omega (arith, weight_own n same, weights_past more (suc n) (omega arith))
        | inr e ↦ omega (arith, weight_other n (eqb-false s.source n e), weights_one more (suc n))
      ]

weights_none : (more n : ℕ) → weights [] more n ≡ 0
unfolding weights weight of_source chunks_of
weights_none zero n = refl
weights_none (suc more) n = omega (arith, weights_none more (suc n))

-- so all sources together have no more than there are
weights_most : (ss : List Segment) (more n : ℕ) → weights ss more n ≤ weight ss
unfolding weight chunks_of
weights_most [] more n = omega (arith, weights_none more n)
weights_most (s ∷ ss) more n =
    omega (arith, weights_one s ss more n, weights_most ss more n, length-append s.chunks (chunks_of ss), length-append s.chunks [])

-- 33 bytes for each segment and chunk, and 116 for each source: its first and last line, and a range more
abbrev Short : (List Segment → List ℕ) → List Segment → Type 0
Short of ss = length (of ss) ≤ 33 * weight ss + 116

each_most : (of : List Segment → List ℕ) (ss : List Segment) → ((n : ℕ) → Short of (of_source n ss)) → (more n : ℕ)
    → length (each_source of ss more n) ≤ 33 * weights ss more n + 116 * more
unfolding each_source weights
each_most of ss short zero n = omega arith
each_most of ss short (suc more) n = rw length-append (omega (arith, short n, each_most of ss short more (suc n)))

-- the lines of a source: one for each range, the first and the last
module _ (ss : List Segment) (low : described_length ss ≤ source_limit) (agreed : agree ss ≡ true) (order : InOrder ss) where
  source_short : (word : ℕ → List ℕ) (rs : List Range) (lists : List (List Range)) → ((class : ℕ) → length (word class) ≡ 4)
      → T (in_row 0 (described_length ss) rs)
      → length rs ≤ suc (length ss + length (chunks_of ss))
      → Each (λ rs. total rs ≤ described_length ss) lists
      → length lists ≤ 3
      → length (source_line ss ++ (range_lines word rs ++ total_line lists)) ≤ 33 * weight ss + 116
  unfolding weight
  source_short word rs lists four row many each three =
      let end : source_limit < 10 ^ 13 = lit< tt in
      let digits : described_length ss < 10 ^ 13 = omega arith in
      let first = source_most (described_length ss) digits ss (le_refl (described_length ss)) in
      let rows = lines_most (described_length ss) digits word four 0 rs (passes _ row) in
      let last = total_most (described_length ss) digits lists each in
      simp length-append (omega arith)

  map_short : Short source_map ss
  unfolding source_map
  map_short =
      let names = naming ss (listing ss agreed order) in
      let all = names.together in
      source_short map_word (named_ranges ss) (had_list ss ∷ held_list ss ∷ lost_list ss ∷ []) map-word names.merged (named_few ss order)
      (omega arith, (omega arith, (omega arith, tt))) (omega arith)

  missmap_short : Short source_missmap ss
  unfolding source_missmap
  missmap_short =
      let lists = listing ss agreed order in
      let all = lists.together in
      source_short miss_word (ranges_of ss) (had_list ss ∷ missing_list ss ∷ []) miss-word lists.merged (listed_few ss order)
      (omega arith, (omega arith, tt)) (omega arith)

-- both maps of an accepted file
module _ (f : List ℕ) (ss : List Segment) (read : reading source_limit f ≡ given ss) where
  source_fits : (of : List Segment → List ℕ)
      → ((ts : List Segment) → described_length ts ≤ source_limit → agree ts ≡ true → InOrder ts → Short of ts)
      → length (per_source of ss) ≤ program_buffer
  unfolding per_source weight
  source_fits of short =
      let (h, head) = headed_read source_limit f read in
      let parts = reading-segments source_limit f head read in
      let each : (n : ℕ) → Short of (of_source n ss) =
      λ n. let ok = accepted_of source_limit f h head parts n in short (of_source n ss) (described_low source_limit f h parts n) ok.agreed ok.order in
      let sources = count_most ss (reading_numbered source_limit f read) in
      omega (
        arith,
        each_most of ss each (source_count ss) 0,
        weights_most ss (source_count ss) 0,
        segments_limited source_limit f h parts,
        chunks_few source_limit f h parts,
      )

  pub map-fits : length (map_of ss) ≤ program_buffer
  unfolding map_of
  map-fits = source_fits source_map map_short

  pub missmap_fits : length (missmap_of ss) ≤ program_buffer
  unfolding missmap_of
  missmap_fits = source_fits source_missmap missmap_short
