-- Document 01, "The map program", and document 02, [6] and [8]: the bytes that the two map programs print.
use Rattle.std.specs.Prelude.{ℕ, zero, suc, ◌^◌, true, false, List, [], ◌∷◌, ◌++◌, map, length, leb, ltb, eqb}
use Prim.Native.String as Str
use Prim.Native.String.{String}
use Prim.Native.Char.{code}
use Rattle.io.specs.Digits.{last_digits}
use Rattle.boxes.specs.Answer.{refused, given}
use Rattle.numerals.specs.Numbers.{least}
use Rattle.partial.specs.Segments.{Segment}
use Rattle.partial.specs.Meaning.{described_length, is_closed}
use Rattle.partial.specs.Sources.{source_count, of_source}
use Rattle.partial.specs.Reading.{reading}
use Rattle.partial.specs.Ranges.{Range, ranges_of, had_list, missing_list, total, had}
use Rattle.partial.specs.Naming.{held, named_ranges, held_list, lost_list}

-- the bytes of a word
unfoldable pub ascii : String → List ℕ
ascii Str.[] = []
ascii (Str.◌∷◌ c s) = code c ∷ ascii s

-- a number in decimal, with the fewest digits, one at least
unfoldable pub decimal : ℕ → List ℕ
decimal n = last_digits 10 (least (λ k. ltb n (10 ^ k)) n 1) n

-- fields parted by a tab; a line ends with a line feed
unfoldable pub line : List ℕ → List (List ℕ) → List ℕ
line field [] = field ++ (10 ∷ [])
line field (next ∷ rest) = field ++ (9 ∷ line next rest)

-- the single line `refused` and its number
unfoldable pub refused_line : ℕ → List ℕ
refused_line n = line (ascii "refused") (decimal n ∷ [])

-- `source`, described length, `closed` or `open`
unfoldable pub source_line : List Segment → List ℕ
source_line ss =
    line (ascii "source") (decimal (described_length ss) ∷ elim (is_closed ss) [ true ↦ ascii "closed" | false ↦ ascii "open" ] ∷ [])

-- the word of a range's class, first position, length
unfoldable pub range_line : (ℕ → List ℕ) → Range → List ℕ
range_line word r = line (word r.class) (decimal r.first ∷ decimal r.length ∷ [])

unfoldable pub range_lines : (ℕ → List ℕ) → List Range → List ℕ
range_lines word [] = []
range_lines word (r ∷ rs) = range_line word r ++ range_lines word rs

-- `total` and the totals
unfoldable pub total_line : List (List Range) → List ℕ
total_line lists = line (ascii "total") (map (λ rs. decimal (total rs)) lists)

-- document 02, [6]: `have`, `held` or `lost`
unfoldable pub map_word : ℕ → List ℕ
map_word class = elim (eqb class had) [ true ↦ ascii "have" | false ↦ elim (eqb class held) [ true ↦ ascii "held" | false ↦ ascii "lost" ] ]

-- the map of the segments of a source: the ranges of all three merged ascending; received, held, lost
unfoldable pub source_map : List Segment → List ℕ
source_map ss = source_line ss ++ (range_lines map_word (named_ranges ss) ++ total_line (had_list ss ∷ held_list ss ∷ lost_list ss ∷ []))

-- `have` or `miss`
unfoldable pub miss_word : ℕ → List ℕ
miss_word class = elim (eqb class had) [ true ↦ ascii "have" | false ↦ ascii "miss" ]

-- the map that does not name damage: both lists merged ascending; received, missing
unfoldable pub source_missmap : List Segment → List ℕ
source_missmap ss = source_line ss ++ (range_lines miss_word (ranges_of ss) ++ total_line (had_list ss ∷ missing_list ss ∷ []))

-- what is printed of each of so many sources from a number on, by what is printed of the segments of one
unfoldable pub each_source : (List Segment → List ℕ) → List Segment → ℕ → ℕ → List ℕ
each_source of ss zero source = []
each_source of ss (suc more) source = of (of_source source ss) ++ each_source of ss more (suc source)

-- document 02, [8]: "The map prints its lines per source, in number order"
unfoldable pub per_source : (List Segment → List ℕ) → List Segment → List ℕ
per_source of ss = each_source of ss (source_count ss) 0

-- both maps of an accepted file
unfoldable pub map_of : List Segment → List ℕ
map_of = per_source source_map

unfoldable pub missmap_of : List Segment → List ℕ
missmap_of = per_source source_missmap

-- what a program prints that takes an input of at most so many bytes, by what it prints of an accepted file; 27
-- precedes all others
unfoldable pub text_for : (List Segment → List ℕ) → ℕ → ℕ → List ℕ → List ℕ
text_for of limit most input =
    elim (leb (length input) most) [
      | true ↦ elim (reading limit input) [ refused n ↦ refused_line n | given ss ↦ of ss ]
      | false ↦ refused_line 27
    ]

-- the text of the map program, and that of the other one
unfoldable pub map_text : ℕ → ℕ → List ℕ → List ℕ
map_text = text_for map_of

unfoldable pub missmap_text : ℕ → ℕ → List ℕ → List ℕ
missmap_text = text_for missmap_of
