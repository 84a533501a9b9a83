-- Document 01, "Chunks follow each other in the source from `source_byte_offset`": what is told of a cursor's step.
use Rattle.std.specs.Prelude.{ℕ, Bool, List, Result, Ok, ◌≡◌}
use Rattle.refusals.specs.declared.Refusal.{Refusal}
use Rattle.boxes.specs.Answer.{Answer, told_as}
use Rattle.partial.specs.Entries.{Ploc, Cursor, chunk_step}
use Rattle.partial.specs.Heading.{Heading}
use Rattle.partial.specs.Limits.{source_limit}
use Rattle.partial.specs.Segments.{Chunk, has_place}
use Rattle.fields.specs.State.{state_no}
use Rattle.segment.specs.Data.{Onward}
use Rattle.segment.specs.Placed.{Ready}
use Rattle.segment.specs.declared.chunk.Chunk.{Chunk as CodeChunk}
use Rattle.segment.specs.declared.chunk.Cursor.{Cursor as CodeCursor}

-- what a chunk that was read says
abbrev pub chunk_of : CodeChunk → Chunk
chunk_of c = record { start = c.start.0; size = c.size; state = state_no c.state; place = c.place.0 }

-- where a cursor stands
abbrev pub cursor_of : CodeCursor → Cursor
cursor_of c = record { at = c.at.0; start = c.start.0 }

-- what a step that met a chunk says
abbrev pub step_of : CodeChunk × CodeCursor → Chunk × Cursor
step_of p = (chunk_of p.0, cursor_of p.1)

abbrev pub chunk_answer : Result (CodeChunk × CodeCursor) Refusal → Answer (Chunk × Cursor)
chunk_answer = told_as step_of

-- a cursor's step in a file that is mixed or not, and the box to be looked at first in the next one
pub record Steps (f tops : List ℕ) (mixed : Bool) (pseg : ℕ) (l : Ploc) (c : CodeCursor) (r : Result (CodeChunk × CodeCursor) Refusal) : Type 0 where
  pub answer : (h : Heading) → Ready f tops mixed c.last h → chunk_answer r ≡ chunk_step source_limit f h pseg l (cursor_of c)
  pub onward : (h : Heading) → Ready f tops mixed c.last h → {chunk : CodeChunk} {next : CodeCursor} → r ≡ Ok (chunk, next)
      → Onward f c.last h.boxes (has_place (state_no chunk.state) chunk.size) chunk.place.0 chunk.size next.last
