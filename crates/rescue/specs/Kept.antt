-- Document 02, [9], "Salvage after a pulled plug": which boxes of a spoiled file stay.
use Rattle.std.specs.Prelude.{ℕ, ◌+◌, Bool, true, false, not, ◌&&◌, ◌||◌, List, [], ◌∷◌, ◌++◌, length, take, drop, leb, eqb}
use Rattle.std.specs.Prelude.{None, Some}
use Rattle.boxes.specs.Answer.{Answer, refused, given, ◌>>=◌, hold}
use Rattle.boxes.specs.Framing.{Box, Walked, walked_in}
use Rattle.boxes.specs.Kinds.{ftyp, pfil, pseg, pdat, is, box_at}
use Rattle.boxes.specs.declared.kinds.Container.TheVariants.{File}
use Rattle.partial.specs.Limits.{file_limit, segment_limit, layer_limit}
use Rattle.partial.specs.Sequences.{some_of}
use Rattle.partial.specs.Segments.{Chunk, Segment, good, chunks_of}
use Rattle.partial.specs.Heading.{Heading, heading}
use Rattle.partial.specs.Sources.{source_count, agreed}
use Rattle.partial.specs.Reading.{segment}

-- the whole boxes of a file before its first framing error, and that error, if there is one
unfoldable pub walk_of : List ℕ → Walked
walk_of f = walked_in File f 0 (length f)

-- these boxes alone, as a file
unfoldable pub framed : List ℕ → List ℕ
framed f = elim (walk_of f).fault [ None ↦ f | Some x ↦ take x.at f ]

-- the first two of them alone, as a file; the whole file, its broken rest too, where it has fewer
unfoldable pub first_two : List ℕ → List Box → List ℕ
first_two f boxes = elim (leb 2 (length boxes)) [ true ↦ take (box_at 1 boxes).end f | false ↦ f ]

-- 1; 2 to 11 for the first two boxes. What they say stands beside all whole boxes before the first framing error, among
-- which data may lie
unfoldable pub opening : List ℕ → Answer Heading
opening f = do
  _ ← hold 1 (leb (length f) file_limit)
  let boxes = (walk_of f).boxes
  h ← heading (first_two f boxes)
  given (record { boxes = boxes; inner = h.inner; urls = h.urls; mixed = h.mixed })

-- what becomes of a top-level box: dropped, with its number, 0 where nothing was wrong; or it stays: as it is; a `pfil`
-- with the boxes in it; a `pseg` with its segment
pub data Fate : Type 0 where
  dropped : ℕ → Fate
  whole : Fate
  of_pfil : List Box → Fate
  of_pseg : Segment → Fate

-- whether a box is one of those that a good chunk is: it lies in the chunk's bytes
unfoldable pub lies_in : Box → Chunk → Bool
lies_in b c = eqb c.state good && leb c.place b.at && leb b.end (c.place + c.size)

module _ (limit : ℕ) (f : List ℕ) (h : Heading) where
  -- a `pseg` beside the segments already kept: 13, the step of reading, then 25 and 40
  unfoldable pub beside : List Segment → Box → Answer Segment
  beside kept b = do
    _ ← hold 13 (leb (length kept + 1) segment_limit)
    s ← segment limit f h kept b
    _ ← hold 25 (agreed (kept ++ (s ∷ [])))
    _ ← hold 40 (leb (source_count (kept ++ (s ∷ []))) layer_limit)
    given s

  -- the segments that are kept with that box, which is left out where it would refuse
  unfoldable pub kept_with : List Segment → Box → List Segment
  kept_with kept b = elim (is pseg b) [ true ↦ elim (beside kept b) [ refused n ↦ kept | given s ↦ kept ++ (s ∷ []) ] | false ↦ kept ]

  -- those that are kept of some boxes, in order
  unfoldable pub kept_from : List Segment → List Box → List Segment
  kept_from kept [] = kept
  kept_from kept (b ∷ bs) = kept_from (kept_with kept b) bs

  -- all that are kept of the file
  unfoldable pub kept_of : List Segment
  kept_of = kept_from [] (drop 2 h.boxes)

  -- whether a box stays that is no `ftyp`, `pfil` or `pseg`: a `pdat`, and in a mixed file one that a kept chunk lies in
  unfoldable pub stays : Box → Bool
  stays b = is pdat b || (h.mixed && some_of (lies_in b) (chunks_of kept_of))

  -- what becomes of a box behind the first two, beside the segments kept before it
  unfoldable pub fate_of : List Segment → Box → Fate
  fate_of kept b =
      elim (is pseg b) [
        | true ↦ elim (beside kept b) [ refused n ↦ dropped n | given s ↦ of_pseg s ]
        | false ↦
            elim (hold 7 (not (is ftyp b)) >>= λ _. hold 9 (not (is pfil b)) >>= λ _. hold 0 (stays b)) [
              | refused n ↦ dropped n
              | given _ ↦ whole
            ]
      ]

-- a top-level box, and what becomes of it
pub record Fated : Type 0 where
  pub box : Box
  pub fate : Fate

module _ (limit : ℕ) (f : List ℕ) (h : Heading) where
  -- each of some boxes behind the first two
  unfoldable pub fates_from : List Segment → List Box → List Fated
  fates_from kept [] = []
  fates_from kept (b ∷ bs) = record { box = b; fate = fate_of limit f h kept b } ∷ fates_from (kept_with limit f h kept b) bs

  -- all boxes: `ftyp`, `pfil` and those behind them
  unfoldable pub fates : List Fated
  fates =
      record { box = box_at 0 h.boxes; fate = whole }
      ∷ record { box = box_at 1 h.boxes; fate = of_pfil h.inner }
      ∷ fates_from [] (drop 2 h.boxes)
