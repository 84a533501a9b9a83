-- Document 02, [9]: the bytes of the copy, and what the call answers that writes it.
use Rattle.std.specs.Prelude.{ℕ, ◌+◌, ◌-◌, ◌/◌, ◌%◌, true, false, List, [], ◌∷◌, ◌++◌, map, length, leb, eqb}
use Rattle.boxes.specs.Answer.{Answer, given, ◌>>=◌, hold}
use Rattle.boxes.specs.Framing.{Box, front}
use Rattle.boxes.specs.Kinds.{fidx, ploc, is}
use Rattle.numerals.specs.Numbers.{number, bytes_of}
use Rattle.numerals.specs.declared.numbers.Offset.{Offset}
use Rattle.numerals.specs.declared.numbers.Offset.TheVariants.{Ahead, Back}
use Rattle.partial.specs.BoxList.{each}
use Rattle.partial.specs.Heading.{bytes_in}
use Rattle.partial.specs.Memory.{fits}
use Rattle.partial.specs.Segments.{Chunk, Segment, has_place}
use Rattle.additions.specs.Append.{Placed, entry_bytes}
use Rattle.rescue.specs.Kept.{dropped, whole, of_pfil, of_pseg, Fated, framed, opening, fates}

-- the bytes of a box as they are
unfoldable pub box_bytes : List ℕ → Box → List ℕ
box_bytes f b = bytes_in f (record { place = b.at; size = b.end - b.at })

-- the boxes of a container without its index
unfoldable pub unindexed : List Box → List Box
unindexed [] = []
unindexed (b ∷ bs) = elim (is fidx b) [ true ↦ unindexed bs | false ↦ b ∷ unindexed bs ]

-- how many bytes boxes have
unfoldable pub size_of : List Box → ℕ
size_of [] = 0
size_of (b ∷ bs) = b.end - b.at + size_of bs

-- a container with another body keeps its header form: the 64-bit size behind the type, or the 32-bit size before it
unfoldable pub reheaded : Box → List ℕ → List ℕ
reheaded b body =
    elim (eqb b.body (b.at + 16)) [
      | true ↦ bytes_of 4 1 ++ (bytes_of 4 b.kind ++ (bytes_of 8 (16 + length body) ++ body))
      | false ↦ front b.kind (length body) ++ body
    ]

-- how many bytes of a box are in the copy
unfoldable pub copy_size : Fated → ℕ
copy_size x =
    elim x.fate [
      | dropped n ↦ 0
      | whole ↦ x.box.end - x.box.at
      | of_pfil inner ↦ x.box.body - x.box.at + size_of (unindexed inner)
      | of_pseg s ↦ x.box.body - x.box.at + size_of (unindexed s.inner)
    ]

-- where a place of a file is in the copy whose part for these boxes starts there: behind the copies of the boxes that
-- end before it, and as far into its own box as it was. It is asked of the first bytes of boxes and of data
unfoldable pub new_place : ℕ → List Fated → ℕ → ℕ
new_place start [] place = start
new_place start (x ∷ xs) place =
    elim (leb x.box.end place) [ true ↦ new_place (start + copy_size x) xs place | false ↦ start + (place - x.box.at) ]

-- the offset from one place to another
unfoldable pub offset_to : ℕ → ℕ → Offset
offset_to from to = elim (leb from to) [ true ↦ Ahead (to - from) | false ↦ Back (from - to) ]

-- a chunk of a `pseg` with the offset between their new places, 0 for an empty chunk
unfoldable pub placed_anew : (ℕ → ℕ) → ℕ → Chunk → Placed
placed_anew new pseg c =
    record {
      size = c.size;
      state = c.state;
      offset = elim (has_place c.state c.size) [ true ↦ offset_to (new pseg) (new c.place) | false ↦ Ahead 0 ];
    }

-- the `ploc` of a segment: its head as it is, its entries in their old widths with the new offsets
unfoldable pub ploc_bytes : List ℕ → (ℕ → ℕ) → Segment → Box → List ℕ
ploc_bytes f new s b =
    let widths = number f (b.body + 4) 1 in
    bytes_in f (record { place = b.at; size = b.body + 9 - b.at })
    ++ entry_bytes (widths / 16) (widths % 16) (map (placed_anew new s.place) s.chunks)

-- a box inside a `pseg`
unfoldable pub inner_bytes : List ℕ → (ℕ → ℕ) → Segment → Box → List ℕ
inner_bytes f new s b = elim (is ploc b) [ true ↦ ploc_bytes f new s b | false ↦ box_bytes f b ]

-- what stands in the copy for a box
unfoldable pub copy_of : List ℕ → (ℕ → ℕ) → Fated → List ℕ
copy_of f new x =
    elim x.fate [
      | dropped n ↦ []
      | whole ↦ box_bytes f x.box
      | of_pfil inner ↦ reheaded x.box (each (box_bytes f) (unindexed inner))
      | of_pseg s ↦ reheaded x.box (each (inner_bytes f new s) (unindexed s.inner))
    ]

-- the copy of a file whose boxes have these fates
unfoldable pub copied : List ℕ → List Fated → List ℕ
copied f xs = each (copy_of f (new_place 0 xs)) xs

-- the copy of a file, of its whole boxes before the first framing error; or its refusal
unfoldable pub salvage : ℕ → List ℕ → Answer (List ℕ)
salvage limit f = do
  h ← opening f
  given (copied (framed f) (fates limit (framed f) h))

-- what the call gives that writes it into a lent buffer, which is filled with it
unfoldable pub salvaged : ℕ → List ℕ → List ℕ → Answer (List ℕ)
salvaged limit f buffer = do
  copy ← salvage limit f
  _ ← hold 33 (fits copy buffer)
  given copy
