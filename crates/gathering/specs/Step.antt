-- Document 01, "In one `pseg`: framing, 14, 15, 16, then 17 (head), 18, 19, 22, 23 (offset), entries", and document 02,
-- [8], 41 after 16: what is told of one segment.
use Rattle.std.specs.Prelude.{ℕ, ◌+◌, ◌*◌, ◌<◌, ◌≤◌, Bool, true, false, List, [], ◌∷◌, ◌++◌, Option, Result, Ok, Err, ◌≡◌, length}
use Rattle.refusals.specs.Refusals.{refusal_no}
use Rattle.refusals.specs.declared.Refusal.{Refusal}
use Rattle.boxes.specs.Answer.{refused, given}
use Rattle.boxes.specs.Bodies.{body_of}
use Rattle.boxes.specs.Framing.{Box, box_of}
use Rattle.boxes.specs.declared.framing.Framed.{Framed}
use Rattle.boxes.specs.declared.kinds.Container.TheVariants.{Pseg}
use Rattle.partial.specs.Heading.{Heading}
use Rattle.partial.specs.Index.{has_index}
use Rattle.partial.specs.Limits.{segment_limit, chunk_limit, source_limit}
use Rattle.partial.specs.Reading.{segment}
use Rattle.partial.specs.ReadingDemands.{Numbered}
use Rattle.partial.specs.Segments.{Chunk, Segment, chunks_of, end_of}
use Rattle.partial.specs.Tables.{segment_row_length, segment_row}
use Rattle.boxes.specs.declared.body.Body.{Body}
use Rattle.sources.specs.Held.{Joins}
use Rattle.ends.specs.Table.{sources, Holds}
use Rattle.segment.specs.Data.{Searched}
use Rattle.segment.specs.declared.chunk.Cursor.{Cursor}
use Rattle.filling.specs.Rows.{Put}
use Rattle.gathering.specs.Chunks.{chunks_by, Behind, Ran}
use Rattle.gathering.specs.Forms.{form_length, puts_of}
use Rattle.gathering.specs.Gathered.{gathered_of}
use Rattle.gathering.specs.Noted.{Noted}
use Rattle.gathering.specs.Parts.{parts_in, parts_of}
use Rattle.gathering.specs.Rows.{row_by}
use Rattle.gathering.specs.declared.gathered.Gathered.{Gathered}
use Rattle.gathering.specs.declared.tables.SourceTables.{SourceTables}
use Rattle.gathering.specs.declared.parts.Parts.{Parts}

-- the chunks of a box that was read are not too many, and its `pshd` ends behind the start of its body
unfoldable pub Fitting : Gathered → Result (Parts × Cursor) Refusal → Type 0
Fitting before (Err n) = Unit {0}
Fitting before (Ok (p, c)) = (before.chunks + p.location.count ≤ chunk_limit) × (p.header.body.0 ≤ p.header.end.0)

-- the cursor at the first entry of a `ploc`
abbrev pub first_entry : Parts → Framed → Cursor
first_entry p last = record { at = p.location.first; start = p.fields.offset; last = last }

-- the box of a segment was read: its parts, and its chunks, put behind those of the segments before
pub record PsegOf (f : List ℕ) (h : Heading) (b : Framed) (in_pfil : Bool) (before : Gathered) (last : Framed) (numbered : Bool) (u₀ u : List ℕ) (p : Parts) (c : Cursor) : Type 0 where
  pub parts : parts_in f in_pfil (box_of b) ≡ given (parts_of p)
  pub near : p.fields.offset.0 ≤ source_limit
  pub chunks : List Chunk
  pub read : chunks_by f h b.at.0 p.location (first_entry p last) ≡ given chunks
  pub many : length chunks ≡ p.location.count
  pub ran : Ran f h.boxes (first_entry p last) before numbered u₀ chunks c u

-- what an answer about it says: the refusal of its segment, which leaves the chunks of those before, or that it was read
unfoldable pub PsegTold : List ℕ → Heading → List Segment → Framed → Bool → Gathered → Framed → Bool → List ℕ → List ℕ → Result (Parts × Cursor) Refusal → Type 0
PsegTold f h ss b in_pfil before last numbered u₀ u (Err n) =
    (segment source_limit f h ss (box_of b) ≡ refused (refusal_no n)) × Behind numbered before.chunks u₀ u
PsegTold f h ss b in_pfil before last numbered u₀ u (Ok (p, c)) = PsegOf f h b in_pfil before last numbered u₀ u p c

-- with one segment more the numbers stay within the limits
unfoldable pub Counted : Gathered → Result (Gathered × Framed) Refusal → Type 0
Counted before (Err n) = Unit {0}
Counted before (Ok (g, last)) = (g.segments ≡ before.segments + 1) × (g.chunks ≤ chunk_limit)

-- where the list of URLs of a segment stands: in its own box, or in `pfil`
abbrev pub chosen_list : Framed → Bool → Body → Body
chosen_list b own in_pfil = elim own [ true ↦ body_of Pseg b | false ↦ in_pfil ]

-- the segments before are those of which that was gathered and is noted; one more is not too many
pub record Beside (f : List ℕ) (h : Heading) (before : Gathered) (n : SourceTables) (ss : List Segment) : Type 0 where
  pub gathered : before ≡ gathered_of ss
  pub few : length ss < segment_limit
  pub numbered : Numbered ss
  pub noted : Noted f h n ss

-- the row, the source and the end of a segment of these parts were put, and it was gathered
pub record Entered (f : List ℕ) (list : Body) (before : Gathered) (place : ℕ) (p : Parts) (end : ℕ) (t₀ t : List ℕ) (n₀ n : SourceTables) (r : Gathered) : Type 0 where
  pub source : ℕ
  pub row : Put t₀ (segment_row_length * before.segments) (row_by place p.fields p.location.count (box_of p.header) source) t
  pub joins : Joins f list before.segments before.sources n₀.sources n₀.lists source n.sources n.lists
  pub sizes : (ss : List Segment) (s : Segment) → source ≡ s.source → s.source < sources → Holds n₀.sizes ss → p.fields.flags ≡ s.flags → p.location.count ≡ length s.chunks
      → end ≡ end_of s
      → end_of s ≤ source_limit
      → Holds n.sizes (ss ++ (s ∷ []))
  pub segments : r.segments ≡ before.segments + 1
  pub chunks : r.chunks ≡ before.chunks + p.location.count
  pub gathers : (ss : List Segment) (s : Segment) → before ≡ gathered_of ss → p.location.count ≡ length s.chunks → source ≡ s.source → source ≤ length ss → p.indexed ≡ has_index s.inner
      → r ≡ gathered_of (ss ++ (s ∷ []))

-- what an answer about a segment says: its refusal, or that it was read, with its row and its chunks behind
-- those of the segments before it, and noted with them
unfoldable pub Segmented : List ℕ → Heading → List Segment → Box → Bool → List ℕ → List ℕ → List ℕ → List ℕ → SourceTables → Result (Gathered × Framed) Refusal → Type 0
Segmented f h ss b numbered t₀ t u₀ u n (Err m) = segment source_limit f h ss b ≡ refused (refusal_no m)
Segmented f h ss b numbered t₀ t u₀ u n (Ok (g, last)) =
    (s : Segment)
    × (segment source_limit f h ss b ≡ given s)
    × (g ≡ gathered_of (ss ++ (s ∷ [])))
    × Searched f last h.boxes
    × Put t₀ (segment_row_length * length ss) (segment_row s) t
    × Put u₀ (form_length numbered * length (chunks_of ss)) (puts_of numbered (length ss) s.chunks) u
    × Noted f h n (ss ++ (s ∷ []))
