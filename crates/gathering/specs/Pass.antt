-- Document 01, refusals 14 to 24, and document 02, [8], 41: what is told of all segments of a file.
use Rattle.std.specs.Prelude.{ℕ, ◌≤◌, Bool, List, [], Result, Ok, Err, ◌≡◌, length}
use Rattle.refusals.specs.Refusals.{refusal_no}
use Rattle.refusals.specs.declared.Refusal.{Refusal}
use Rattle.boxes.specs.Answer.{Answer, refused, given}
use Rattle.boxes.specs.Framing.{boxes_in}
use Rattle.boxes.specs.Kinds.{pseg, those}
use Rattle.boxes.specs.declared.kinds.Container.TheVariants.{File}
use Rattle.partial.specs.Heading.{Heading}
use Rattle.partial.specs.Limits.{segment_limit, source_limit}
use Rattle.partial.specs.Reading.{segments_from}
use Rattle.partial.specs.Segments.{Segment}
use Rattle.partial.specs.Tables.{segment_rows}
use Rattle.filling.specs.Rows.{Put}
use Rattle.boxes.specs.declared.body.Body.{Body}
use Rattle.sources.specs.Held.{PfilList}
use Rattle.gathering.specs.Forms.{all_puts}
use Rattle.gathering.specs.Gathered.{gathered_of}
use Rattle.gathering.specs.Noted.{Noted}
use Rattle.gathering.specs.declared.gathered.Gathered.{Gathered}
use Rattle.gathering.specs.declared.tables.SourceTables.{SourceTables}

-- the segments of a file with that heading
abbrev pub segments_by : List ℕ → Heading → Answer (List Segment)
segments_by f h = segments_from source_limit f h [] (those pseg h.boxes)

-- a file with the boxes of a heading, of which no more are `pseg` than may be; it is mixed as the heading says, and the
-- list in its `pfil` stands in that container
pub record Opened (f : List ℕ) (mixed : Bool) (list : Body) (h : Heading) : Type 0 where
  pub boxes : boxes_in File f 0 (length f) ≡ given h.boxes
  pub few : length (those pseg h.boxes) ≤ segment_limit
  pub mix : mixed ≡ h.mixed
  pub in_pfil : PfilList f h list

-- what an answer about them says: the first refusal, or what is gathered of them, with their rows, their chunks by
-- numbers or rows, and what is noted of their ends and sources
unfoldable pub Gathers : List ℕ → Heading → Bool → List ℕ → List ℕ → List ℕ → List ℕ → SourceTables → Result Gathered Refusal → Type 0
Gathers f h numbered t₀ t u₀ u n (Err m) = segments_by f h ≡ refused (refusal_no m)
Gathers f h numbered t₀ t u₀ u n (Ok g) =
    (ss : List Segment)
    × (segments_by f h ≡ given ss)
    × (g ≡ gathered_of ss)
    × Put t₀ 0 (segment_rows ss) t
    × Put u₀ 0 (all_puts numbered ss) u
    × Noted f h n ss
