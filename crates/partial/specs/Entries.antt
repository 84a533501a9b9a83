-- Document 01, the `ploc` paragraph and refusals 17 to 24, with document 02, [4]: the entries of a `ploc`, and the
-- chunks that they tell of.
use Rattle.std.specs.Prelude.{ℕ, zero, suc, ◌+◌, ◌-◌, ◌/◌, ◌%◌, Bool, true, false, ◌&&◌, ◌||◌, List, [], ◌∷◌, get_or, leb, ltb, eqb}
use Rattle.std.specs.Prelude.{Option, None, Some}
use Rattle.boxes.specs.Answer.{Answer, refused, given, ◌>>=◌, hold}
use Rattle.numerals.specs.Numbers.{number, signed}
use Rattle.boxes.specs.Framing.{Box}
use Rattle.boxes.specs.Kinds.{pdat, is}
use Rattle.numerals.specs.declared.numbers.Offset.{Offset}
use Rattle.numerals.specs.declared.numbers.Offset.TheVariants.{Ahead, Back}
use Rattle.partial.specs.Sequences.{some_of}
use Rattle.partial.specs.Segments.{Chunk, good, damaged, lost, elsewhere, present, has_place}
use Rattle.partial.specs.Heading.{Heading}
use Rattle.partial.specs.Mixed.{whole_boxes}

-- the head of a `ploc`: its two widths, its `chunk_count`, and the places of its first entry and of its end
pub record Ploc : Type 0 where
  pub length_size : ℕ
  pub offset_size : ℕ
  pub count : ℕ
  pub first : ℕ
  pub end : ℕ

-- version 0, flags 0; 4 bits `length_size`, 4 bits `offset_size`, 16 bits data reference index, 16 bits `chunk_count`
unfoldable pub ploc_head : List ℕ → Box → Answer Ploc
ploc_head f b = do
  _ ← hold 17 (leb (b.body + 9) b.end && eqb (number f b.body 4) 0)
  let widths = number f (b.body + 4) 1
  _ ← hold 18 (leb (widths / 16) 8 && leb (widths % 16) 8)
  _ ← hold 19 (eqb (number f (b.body + 5) 2) 0)
  given
      (record {
        length_size = widths / 16;
        offset_size = widths % 16;
        count = number f (b.body + 7) 2;
        first = b.body + 9;
        end = b.end;
      })

-- the state of a chunk by its bits corrupted and present
unfoldable pub state : Bool → Bool → ℕ
state false true = good
state true true = damaged
state true false = lost
state false false = elsewhere

-- bit corrupted, bit present, six zero bits
unfoldable pub state_of : ℕ → Answer ℕ
state_of flag_byte = do
  _ ← hold 20 (eqb (flag_byte % 64) 0)
  given (state (eqb (flag_byte / 128) 1) (eqb (flag_byte / 64 % 2) 1))

-- what an entry says, and the place after it
pub record Entry : Type 0 where
  pub state : ℕ
  pub size : ℕ
  pub offset : Offset
  pub next : ℕ

-- flags, `length_size` bytes of size and, where present, `offset_size` bytes of signed offset
unfoldable pub entry : List ℕ → Ploc → ℕ → Answer Entry
entry f l at = do
  _ ← hold 17 (ltb at l.end)
  s ← state_of (get_or f at 0)
  let width : ℕ = elim (present s) [ true ↦ l.offset_size | false ↦ 0 ]
  let rest = at + 1 + l.length_size
  _ ← hold 17 (leb (rest + width) l.end)
  given (record { state = s; size = number f (at + 1) l.length_size; offset = signed width (number f rest width); next = rest + width })

-- whether so many bytes at a place lie wholly in one `pdat` body
unfoldable pub in_data : List Box → ℕ → ℕ → Bool
in_data bs place size = some_of (λ b. is pdat b && leb b.body place && leb (place + size) b.end) bs

-- where a chunk of a state may lie: in one `pdat` body; a good one of a mixed file also as whole boxes outside
unfoldable pub may_lie : Heading → ℕ → ℕ → ℕ → Bool
may_lie h state place size = in_data h.boxes place size || (h.mixed && eqb state good && whole_boxes h.boxes place (place + size))

-- the place that an offset gives, counted from the first byte of the `pseg` box; none before the file's first byte
unfoldable pub offset_place : ℕ → Offset → Option ℕ
offset_place pseg (Ahead n) = Some (pseg + n)
offset_place pseg (Back n) = elim (leb n pseg) [ true ↦ Some (pseg - n) | false ↦ None ]

-- 24, and the place of an entry's chunk: 0 if not present or empty, and then it is not checked
unfoldable pub place_of : Heading → ℕ → Entry → Answer ℕ
place_of h pseg e =
    elim (has_place e.state e.size) [
      | true ↦
          elim (offset_place pseg e.offset) [
            | None ↦ refused 24
            | Some place ↦ hold 24 (may_lie h e.state place e.size) >>= λ _. given place
          ]
      | false ↦ given 0
    ]

-- a cursor over entries: the place of the next one, and where its chunk starts in the source
pub record Cursor : Type 0 where
  pub at : ℕ
  pub start : ℕ

-- what a cursor meets: the chunk of its entry, after which it stands behind that entry, at the chunk's end in the
-- source
unfoldable pub chunk_step : ℕ → List ℕ → Heading → ℕ → Ploc → Cursor → Answer (Chunk × Cursor)
chunk_step limit f h pseg l c = do
  e ← entry f l c.at
  _ ← hold 23 (leb (c.start + e.size) limit)
  place ← place_of h pseg e
  given
      (record { start = c.start; size = e.size; state = e.state; place = place }, record { at = e.next; start = c.start + e.size })

-- the chunks of so many entries from a cursor on; no byte may be left over
unfoldable pub chunks_from : ℕ → List ℕ → Heading → ℕ → Ploc → ℕ → Cursor → Answer (List Chunk)
chunks_from limit f h pseg l zero c = do
  _ ← hold 17 (eqb c.at l.end)
  given []
chunks_from limit f h pseg l (suc more) c = do
  step ← chunk_step limit f h pseg l c
  rest ← chunks_from limit f h pseg l more step.1
  given (step.0 ∷ rest)
