-- Document 01, "Chunks follow each other in the source from `source_byte_offset`": what is told of the chunks of a
-- `ploc`.
use Rattle.std.specs.Prelude.{ℕ, ◌+◌, ◌*◌, ◌≤◌, Bool, List, Result, Ok, Err, map, ◌≡◌, length, take}
use Rattle.boxes.specs.Answer.{Answer, refused, given}
use Rattle.boxes.specs.Framing.{Box}
use Rattle.refusals.specs.Refusals.{refusal_no}
use Rattle.refusals.specs.declared.Refusal.{Refusal}
use Rattle.partial.specs.Entries.{chunks_from}
use Rattle.partial.specs.Heading.{Heading}
use Rattle.partial.specs.Limits.{chunk_limit, source_limit}
use Rattle.partial.specs.Segments.{Chunk}
use Rattle.partial.specs.Sequences.{sum}
use Rattle.fields.specs.Location.{ploc_of}
use Rattle.fields.specs.declared.location.Location.{Location}
use Rattle.segment.specs.Chunk.{cursor_of}
use Rattle.segment.specs.Data.{Searched}
use Rattle.segment.specs.declared.chunk.Cursor.{Cursor}
use Rattle.filling.specs.Rows.{Put}
use Rattle.gathering.specs.Forms.{form_length, puts_of}
use Rattle.gathering.specs.declared.gathered.Gathered.{Gathered}

-- the chunks of all entries of a `ploc`, from a cursor on
abbrev pub chunks_by : List ℕ → Heading → ℕ → Location → Cursor → Answer (List Chunk)
chunks_by f h pseg l c = chunks_from source_limit f h pseg (ploc_of l) l.count (cursor_of c)

-- chunks were read from a cursor on: where they end in the source, the box to be looked at first after them, and their
-- numbers or rows, put behind those of the segments before
pub record Ran (f : List ℕ) (bs : List Box) (first : Cursor) (before : Gathered) (numbered : Bool) (t₀ : List ℕ) (cs : List Chunk) (c : Cursor) (t : List ℕ) : Type 0 where
  pub ends : c.start.0 ≡ first.start.0 + sum (map (λ c. c.size) cs)
  pub known : Searched f c.last bs
  pub rows : Put t₀ (form_length numbered * before.chunks) (puts_of numbered before.segments cs) t

-- where a table has room for all chunks of a file, those before so many are as they were
abbrev pub Behind : Bool → ℕ → List ℕ → List ℕ → Type 0
Behind numbered many t₀ t = form_length numbered * chunk_limit ≤ length t₀ → take (form_length numbered * many) t ≡ take (form_length numbered * many) t₀

-- what an answer about them says: their refusal, which leaves those of the segments before, or that they were read
unfoldable pub Chunked : List ℕ → Heading → ℕ → Location → Cursor → Gathered → Bool → List ℕ → List ℕ → Result Cursor Refusal → Type 0
Chunked f h pseg l first before numbered t₀ t (Err n) =
    (chunks_by f h pseg l first ≡ refused (refusal_no n)) × Behind numbered before.chunks t₀ t
Chunked f h pseg l first before numbered t₀ t (Ok c) =
    (cs : List Chunk) × (chunks_by f h pseg l first ≡ given cs) × (length cs ≡ l.count) × Ran f h.boxes first before numbered t₀ cs c t
