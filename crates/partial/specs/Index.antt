-- Document 02, [7], with 5.2.2, 5.2.3 and 5.2.6 of source document 000: the box index and refusals 36 to 39. An index
-- list holds indexed boxes, and each of those may hold a list. Document 02, [8]: each index belongs to a source.
use Rattle.std.specs.Prelude.{ℕ, zero, suc, ◌+◌, ◌-◌, Bool, true, false, not, ◌&&◌, ◌||◌, List, [], ◌∷◌, ◌++◌, map, length, leb, ltb, eqb}
use Rattle.std.specs.Prelude.{Option, None, Some}
use Rattle.boxes.specs.Answer.{Answer, refused, given, ◌>>=◌, hold}
use Rattle.numerals.specs.Numbers.{number}
use Rattle.boxes.specs.Framing.{Box, user_size, boxes_in}
use Rattle.boxes.specs.Kinds.{fidx, bidx, frpa, right, those, first_of}
use Rattle.boxes.specs.declared.kinds.Container.{Container}
use Rattle.boxes.specs.declared.kinds.Container.TheVariants.{Pfil, Pseg, Fidx, Bidx}
use Rattle.partial.specs.Sequences.{some_of, all_of, stretch}
use Rattle.partial.specs.Segments.{Segment}
use Rattle.partial.specs.Heading.{Heading}
use Rattle.partial.specs.Meaning.{known_size, supplied}
use Rattle.partial.specs.Sources.{of_urls}

-- ---- an indexed box

-- what the fields of a `bidx` say of a box of the source: its size, none for one that runs to the end; how many bytes
-- its header has; its type. And where in the file the list of the `bidx` starts
pub record IndexFields : Type 0 where
  pub size : Option ℕ
  pub front : ℕ
  pub kind : ℕ
  pub list : ℕ

-- the size by `indexed_box_size` and the 64 bits that may follow the type: 0 runs to the end, 1 means that they do
-- follow
unfoldable pub size_by : ℕ → ℕ → Option ℕ
size_by size large = elim (eqb size 0) [ true ↦ None | false ↦ Some (elim (eqb size 1) [ true ↦ large | false ↦ size ]) ]

-- how many bytes a header has: size and type, the 64-bit size where there is one, the user type of a `uuid`
unfoldable pub front_by : ℕ → ℕ → ℕ
front_by size kind = (elim (eqb size 1) [ true ↦ 16 | false ↦ 8 ]) + user_size kind

-- 5.2.3.2: the fields are the header of the box, and the list follows; 36 where one is cut
unfoldable pub index_fields : List ℕ → Box → Answer IndexFields
index_fields f b = do
  _ ← hold 36 (leb (b.body + 8) b.end)
  let size = number f b.body 4
  let kind = number f (b.body + 4) 4
  let list = b.body + front_by size kind
  _ ← hold 36 (leb list b.end)
  given (record { size = size_by size (number f (b.body + 8) 8); front = front_by size kind; kind = kind; list = list })

-- whether a size or an end is known
unfoldable pub is_known : Option ℕ → Bool
is_known None = false
is_known (Some n) = true

-- where a box ends that starts at a place: a size of 0 runs to the end of what encloses it, where that is known
unfoldable pub end_from : Option ℕ → ℕ → IndexFields → Option ℕ
end_from enclosing place x = elim x.size [ Some size ↦ Some (place + size) | None ↦ enclosing ]

-- "no unknown end is judged": a test of an end holds of one that is not known
unfoldable pub wherever : (ℕ → Bool) → Option ℕ → Bool
wherever test None = true
wherever test (Some end) = test end

-- 36: no size under its header, no end over the limit of 23
unfoldable pub end_right : ℕ → ℕ → IndexFields → Option ℕ → Bool
end_right limit place x = wherever (λ end. leb (place + x.front) end && leb end limit)

-- 5.2.6: how many bytes of the box's content the front part in its list has; none where there is none
unfoldable pub front_part : List Box → ℕ
front_part inner = (first_of frpa inner).end - (first_of frpa inner).body

-- "a framing fault" of an index list is 36
unfoldable pub list_framed : {A : Type 0} → Answer A → Answer A
list_framed (refused n) = refused 36
list_framed (given a) = given a

-- a box of the index: its level, its place in the source, its end where that is known, its type
pub record Indexed : Type 0 where
  pub level : ℕ
  pub place : ℕ
  pub end : Option ℕ
  pub kind : ℕ

-- boxes of the index, one before those of its list, and where the last of one list ends, if it has one and that is
-- known
pub record Told : Type 0 where
  pub boxes : List Indexed
  pub end : Option ℕ

-- a list without a box
abbrev pub nothing_told : Told
nothing_told = record { boxes = []; end = None }

-- 36: a size of 0 stands last in its list
unfoldable pub last_or_sized : Bool → IndexFields → Bool
last_or_sized last x = last || is_known x.size

-- whether no box follows
unfoldable pub none_follows : List Box → Bool
none_follows [] = true
none_follows (_ ∷ _) = false

-- a box before the others of its list, which start where it ends
unfoldable pub with_rest : Told → List Box → Told → Told
with_rest one [] rest = one
with_rest one (_ ∷ _) rest = record { boxes = one.boxes ++ rest.boxes; end = rest.end }

-- the boxes of a list in a row from a place on, by what is told of each, the last or another, at its place
unfoldable pub in_aRow : (Bool → ℕ → Box → Answer Told) → ℕ → List Box → Answer Told
in_aRow one place [] = given nothing_told
in_aRow one place (b ∷ bs) = do
  told ← one (none_follows bs) place b
  rest ← in_aRow one (elim told.end [ Some end ↦ end | None ↦ place ]) bs
  given (with_rest told bs rest)

-- a box of a ninth level, which is not looked into
unfoldable pub untold : ℕ → Box → Indexed
untold level b = record { level = level; place = 0; end = None; kind = 0 }

-- ---- the list and the box, which call each other: a level has two of so many calls

module _ (limit : ℕ) (f : List ℕ) where
  unfoldable mutual
    -- the `bidx` boxes of a list on a level, inside what has that end: the first at a place, each other where the one
    -- before it ends. No box of a ninth level is looked into
    pub index_list : ℕ → ℕ → Option ℕ → ℕ → List Box → Answer Told
    index_list zero level enclosing place bs = given (record { boxes = map (untold level) bs; end = None })
    index_list (suc calls) level enclosing place bs = in_aRow (λ last at b. indexed_box calls level enclosing last at b) place bs

    -- one of them at its place, the last or another: its own fields, then the list inside, behind its header and front
    -- part, whose boxes have to fill it where there are some
    pub indexed_box : ℕ → ℕ → Option ℕ → Bool → ℕ → Box → Answer Told
    indexed_box zero level enclosing last place b = given nothing_told
    indexed_box (suc calls) level enclosing last place b = do
      x ← index_fields f b
      _ ← hold 36 (last_or_sized last x)
      let end = end_from enclosing place x
      _ ← hold 36 (end_right limit place x end)
      inner ← list_framed (boxes_in Bidx f x.list b.end)
      _ ← hold 36 (right Bidx frpa inner)
      told ← index_list calls (level + 1) end (place + x.front + front_part inner) (those bidx inner)
      _ ← hold 36 (wherever (λ filled. wherever (eqb filled) end) told.end)
      given (record { boxes = record { level = level; place = place; end = end; kind = x.kind } ∷ told.boxes; end = end })

-- ---- the index of a file

-- "down to eight levels"
abbrev pub level_limit : ℕ
level_limit = 8

-- the calls that eight levels take: a list and a box each
abbrev pub call_limit : ℕ
call_limit = 16

-- the index in a container: its `fidx`, if it has one, whose boxes start at a place of the source
unfoldable pub index_in : ℕ → List ℕ → Container → List Box → Option ℕ → ℕ → Answer (List Indexed)
index_in limit f c bs size start = do
  _ ← hold 36 (right c fidx bs)
  elim (those fidx bs) [
    | [] ↦ given []
    | b ∷ _ ↦ do
      inner ← list_framed (boxes_in Fidx f b.body b.end)
      told ← index_list limit f call_limit 1 size start (those bidx inner)
      given told.boxes
  ]

-- a box of the index of a file, with the URLs of its source
pub record SourceBox : Type 0 where
  pub urls : List (List ℕ)
  pub box : Indexed

-- the boxes alone
unfoldable pub boxes_alone : List SourceBox → List Indexed
boxes_alone is = map (λ i. i.box) is

-- the boxes of an index that belongs to the source with these URLs
unfoldable pub belonging : List (List ℕ) → List Indexed → List SourceBox
belonging us is = map (λ i. record { urls = us; box = i }) is

-- where the source with these URLs ends, by the segments of a file: not known of a list that none uses
unfoldable pub size_for : List Segment → List (List ℕ) → Option ℕ
size_for ss us = known_size (of_urls us ss)

-- the index in a container that belongs to the source with these URLs, by where each source ends
unfoldable pub index_for : ℕ → List ℕ → (List (List ℕ) → Option ℕ) → List (List ℕ) → Container → List Box → ℕ → Answer (List SourceBox)
index_for limit f size us c bs start = do
  boxes ← index_in limit f c bs (size us) start
  given (belonging us boxes)

-- those of segments, each of its segment's source, from the `source_byte_offset` on
unfoldable pub index_of_segments : ℕ → List ℕ → (List (List ℕ) → Option ℕ) → List Segment → Answer (List SourceBox)
index_of_segments limit f size [] = given []
index_of_segments limit f size (s ∷ ss) = do
  first ← index_for limit f size s.urls Pseg s.inner s.source_offset
  later ← index_of_segments limit f size ss
  given (first ++ later)

-- 36: the index in `pfil`, of the source of the list in `pfil`, from its first byte on, and those in segments, in file
-- order
unfoldable pub index_of : ℕ → List ℕ → Heading → List Segment → Answer (List SourceBox)
index_of limit f h ss = do
  first ← index_for limit f (size_for ss) h.urls Pfil h.inner 0
  later ← index_of_segments limit f (size_for ss) ss
  given (first ++ later)

-- whether a container has an index
unfoldable pub has_index : List Box → Bool
has_index bs = ltb 0 (length (those fidx bs))

-- stages 36 to 39, each over the whole file: no box of a ninth level, indexes in `pfil` or in segments, every end known
unfoldable pub indexed : ℕ → List ℕ → Heading → List Segment → Answer (List SourceBox)
indexed limit f h ss = do
  boxes ← index_of limit f h ss
  _ ← hold 37 (all_of (λ i. leb i.level level_limit) (boxes_alone boxes))
  _ ← hold 38 (not (has_index h.inner && some_of (λ s. has_index s.inner) ss))
  _ ← hold 39 (all_of (λ i. is_known i.end) (boxes_alone boxes))
  given boxes

-- ---- its rows

-- whether none, some or all of so many positions from a place on are served: 0, 1 or 2
unfoldable pub served_of : List Segment → ℕ → ℕ → ℕ
served_of ss place size =
    elim (eqb (stretch (supplied ss) size place) size) [
      | true ↦ 2
      | false ↦ elim (eqb (stretch (λ p. not (supplied ss p)) size place) size) [ true ↦ 0 | false ↦ 1 ]
    ]

-- how many bytes a box has whose end is known
unfoldable pub indexed_size : Indexed → ℕ
indexed_size i = elim i.end [ Some end ↦ end - i.place | None ↦ 0 ]

-- how many numbers there are in a row of the index
abbrev pub index_row_length : ℕ
index_row_length = 5

-- level, source place, size, type, whether none, some or all of its bytes are served by the segments of its source
unfoldable pub index_row : List Segment → SourceBox → List ℕ
index_row ss i =
    i.box.level ∷ i.box.place ∷ indexed_size i.box ∷ i.box.kind
    ∷ served_of (of_urls i.urls ss) i.box.place (indexed_size i.box) ∷ []

unfoldable pub index_rows : List Segment → List SourceBox → List ℕ
index_rows ss [] = []
index_rows ss (i ∷ is) = index_row ss i ++ index_rows ss is
