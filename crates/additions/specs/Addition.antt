-- Document 01, "Append", and document 02, [8]: what it is asked to add, and whether that is right, 31, 32 and 35.
use Rattle.std.specs.Prelude.{ℕ, ◌%◌, ◌^◌, Bool, true, false, not, ◌&&◌, ◌||◌, List, [], ◌∷◌, ◌++◌, map, length, take, drop, leb, ltb, eqb}
use Rattle.additions.specs.declared.header.SegmentHeader.{SegmentHeader}
use Rattle.partial.specs.declared.position.Position.{Position}
use Rattle.partial.specs.Sequences.{some_of, all_of, sum}
use Rattle.partial.specs.Segments.{elsewhere, good, present, is_last}
use Rattle.partial.specs.Heading.{Heading}
use Rattle.partial.specs.Mixed.{are_boxes}
use Rattle.partial.specs.Texts.{Surl}

-- the fields of `pshd`, whether the good chunks go outside `pdat`, the chunk list and the data in chunk order; the
-- texts of the `surl` boxes to write and the list of their lengths, URL and MIME by turns
pub record Addition : Type 0 where
  pub source_offset : ℕ
  pub repair_time : ℕ
  pub last : Bool
  pub outside : Bool
  pub list : List ℕ
  pub bytes : List ℕ
  pub texts : List ℕ
  pub lengths : List ℕ

-- last_segment, and no other flag
abbrev pub flags_for : Bool → ℕ
flags_for true = 1
flags_for false = 0

-- a header that may be written: the fields given, last_segment or no flag at all
abbrev pub writable : Position → ℕ → Bool → SegmentHeader
writable offset repair last = record { offset = offset; repair = repair; flags = flags_for last }

-- what the arguments of append ask of it; of the header's flags it takes last_segment and no other
unfoldable pub asks : SegmentHeader → Bool → List ℕ → List ℕ → List ℕ → List ℕ → Addition
asks h outside list bytes texts lengths =
    record {
      source_offset = h.offset.0;
      repair_time = h.repair;
      last = is_last h.flags;
      outside = outside;
      list = list;
      bytes = bytes;
      texts = texts;
      lengths = lengths;
    }

-- an item of the chunk list: a size and a state
pub record Item : Type 0 where
  pub size : ℕ
  pub state : ℕ

-- the pairs of a list
unfoldable pub items : List ℕ → List Item
items [] = []
items (size ∷ []) = []
items (size ∷ state ∷ rest) = record { size = size; state = state } ∷ items rest

-- there is no state above 3
unfoldable pub is_state : ℕ → Bool
is_state n = leb n elsewhere

-- 31: pairs of size and state, no size 0, no state above 3
unfoldable pub list_right : List ℕ → Bool
list_right list = eqb (length list % 2) 0 && all_of (λ i. not (eqb i.size 0) && is_state i.state) (items list)

-- 31: a length for each URL and one for each MIME text
unfoldable pub lengths_right : List ℕ → Bool
lengths_right lengths = eqb (length lengths % 2) 0

-- 31: both lists, in one stage
unfoldable pub lists_right : Addition → Bool
lists_right a = list_right a.list && lengths_right a.lengths

-- the sizes, in sum, of the items that pass a test
abbrev pub size_of : (Item → Bool) → List Item → ℕ
size_of test is = sum (map (λ i. elim (test i) [ true ↦ i.size | false ↦ 0 ]) is)

-- how many bytes of data items have: the sizes of states 1 and 2
unfoldable pub data_size : List Item → ℕ
data_size is = size_of (λ i. present i.state) is

-- 32: as many data bytes as that
unfoldable pub data_right : Addition → Bool
data_right a = eqb (length a.bytes) (data_size (items a.list))

-- 32: as many text bytes as the sum of their lengths
unfoldable pub texts_right : Addition → Bool
texts_right a = eqb (length a.texts) (sum a.lengths)

-- 32: both, in one stage
unfoldable pub bytes_right : Addition → Bool
bytes_right a = data_right a && texts_right a

-- texts cut by a list of their lengths, URL and MIME by turns
unfoldable pub surls_of : List ℕ → List ℕ → List Surl
surls_of texts [] = []
surls_of texts (urlLength ∷ []) = []
surls_of texts (urlLength ∷ mimeLength ∷ rest) =
    let behind = drop urlLength texts in
    record { url = take urlLength texts; mime = take mimeLength behind } ∷ surls_of (drop mimeLength behind) rest

-- the `surl` boxes of an addition, by their texts
unfoldable pub surls : Addition → List Surl
surls a = surls_of a.texts a.lengths

-- whether an item's data goes outside `pdat`: it is good, and the good ones go there
unfoldable pub goes_out : Bool → Item → Bool
goes_out outside i = outside && eqb i.state good

-- whether it goes into `pdat`: the chunk is present, and its data does not go outside
unfoldable pub goes_in : Bool → Item → Bool
goes_in outside i = present i.state && not (goes_out outside i)

-- the data of the items that pass a test, in their order, out of the data of all in chunk order
unfoldable pub data_for : (Item → Bool) → List Item → List ℕ → List ℕ
data_for test [] bytes = []
data_for test (i ∷ is) bytes =
    let n = data_size (i ∷ []) in
    elim (test i) [ true ↦ take n bytes | false ↦ [] ] ++ data_for test is (drop n bytes)

-- whether the data of each item that passes a test is whole allowed boxes
unfoldable pub boxes_for : (Item → Bool) → List Item → List ℕ → Bool
boxes_for test [] bytes = true
boxes_for test (i ∷ is) bytes =
    let n = data_size (i ∷ []) in
    elim (test i) [ true ↦ are_boxes (take n bytes) | false ↦ true ] && boxes_for test is (drop n bytes)

-- 35: where some good chunk is to go outside, the file is mixed and each of them is whole allowed boxes
unfoldable pub outside_right : Heading → Addition → Bool
outside_right h a =
    let out = goes_out a.outside in
    not (some_of out (items a.list)) || (h.mixed && boxes_for out (items a.list) a.bytes)

-- what the fields of 64 bits and `chunk_count`, of 16, can say of it; the repair time apart, of which the last 64 bits
-- are written
unfoldable pub sayable : Addition → Bool
sayable a = ltb a.source_offset (2 ^ 64) && all_of (λ n. ltb n (2 ^ 64)) a.list && ltb (length (items a.list)) (2 ^ 16)
