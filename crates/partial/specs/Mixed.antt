-- Document 02, [2], and 5.1.6: whole boxes, as which a good chunk of a mixed file may lie outside `pdat`.
use Rattle.std.specs.Prelude.{ℕ, Bool, true, false, not, ◌&&◌, ◌||◌, List, [], ◌∷◌, length, ltb, eqb}
use Rattle.boxes.specs.Answer.{Answer, refused, given}
use Rattle.boxes.specs.Framing.{Box, boxes_from}
use Rattle.boxes.specs.Kinds.{ftyp, pfil, pseg, pdat, is}
use Rattle.boxes.specs.declared.kinds.Container.TheVariants.{File}
use Rattle.partial.specs.Sequences.{all_of}

-- whether a box may be such a chunk, or one of several: none of type `ftyp`, `pfil`, `pseg` or `pdat`
unfoldable pub allowed : Box → Bool
allowed b = not (is ftyp b || is pfil b || is pseg b || is pdat b)

-- whether boxes that follow each other, from the first on, are allowed up to one that ends at a place
unfoldable pub fill_up : List Box → ℕ → Bool
fill_up [] end = false
fill_up (b ∷ bs) end = allowed b && elim (ltb b.end end) [ true ↦ fill_up bs end | false ↦ eqb b.end end ]

-- whether exactly one or several neighbouring whole boxes of a file stand from a place up to an end, all of them
-- allowed
unfoldable pub whole_boxes : List Box → ℕ → ℕ → Bool
whole_boxes [] place end = false
whole_boxes (b ∷ bs) place end = elim (eqb b.at place) [ true ↦ fill_up (b ∷ bs) end | false ↦ whole_boxes bs place end ]

-- the boxes that bytes are from the first to the last. How many is not judged: there are no more than bytes
unfoldable pub boxes_of : List ℕ → Answer (List Box)
boxes_of bytes = boxes_from File bytes (length bytes) (length bytes) 0

-- whether bytes are whole allowed boxes
unfoldable pub are_boxes : List ℕ → Bool
are_boxes bytes = elim (boxes_of bytes) [ refused _ ↦ false | given bs ↦ all_of allowed bs ]

-- how many they are
unfoldable pub boxes_many : List ℕ → ℕ
boxes_many bytes = elim (boxes_of bytes) [ refused _ ↦ 0 | given bs ↦ length bs ]
