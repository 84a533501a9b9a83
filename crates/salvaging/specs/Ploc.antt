-- Document 02, [9], "Offsets are rewritten to the new places": what is known of a `ploc` whose entries are put anew.
use Rattle.std.specs.Prelude.{ℕ, ◌+◌, ◌-◌, ◌^◌, ◌≤◌, min, List, ◌≡◌}
use Rattle.boxes.specs.Answer.{given}
use Rattle.numerals.specs.declared.numbers.Offset.{Offset}
use Rattle.numerals.specs.declared.numbers.Offset.TheVariants.{Ahead, Back}
use Rattle.fields.specs.Location.{ploc_of}
use Rattle.fields.specs.declared.location.Location.{Location}
use Rattle.partial.specs.Entries.{Entry, chunks_from}
use Rattle.partial.specs.Heading.{Heading}
use Rattle.partial.specs.Limits.{source_limit}
use Rattle.partial.specs.Segments.{Chunk, Segment}

-- the place that an offset gives, as far as 64 bits go
unfoldable pub offset_for : ℕ → Offset → ℕ
offset_for pseg (Ahead n) = min (pseg + n) (2 ^ 64 - 1)
offset_for pseg (Back n) = pseg - n

-- the chunk of an entry, which starts there in the source and has a place in the file
abbrev pub chunk_by : ℕ → Entry → ℕ → Chunk
chunk_by start e place = record { start = start; size = e.size; state = e.state; place = place }

-- its entries were read as the chunks of a segment, whose `pseg` is there
pub record PlocRead (f : List ℕ) (h : Heading) (l : Location) (pseg : ℕ) (s : Segment) : Type 0 where
  pub start : ℕ
  pub low : start ≤ source_limit
  pub place : s.place ≡ pseg
  pub chunks : chunks_from source_limit f h pseg (ploc_of l) l.count (record { at = l.first.0; start = start }) ≡ given s.chunks
