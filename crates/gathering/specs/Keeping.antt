-- Document 02, [9], "Salvage after a pulled plug": what is told of the segments that are kept of a file, and of its boxes.
use Rattle.std.specs.Prelude.{ℕ, ◌<◌, ◌≤◌, Bool, true, List, [], ◌∷◌, ◌++◌, Option, Result, Ok, Err, ◌≡◌, leb, length, take}
use Rattle.refusals.specs.Refusals.{refusal_no}
use Rattle.refusals.specs.declared.Refusal.{Refusal}
use Rattle.boxes.specs.Answer.{Answer, refused, given, ◌>>=◌, hold, told_as}
use Rattle.boxes.specs.Framing.{Box, boxes_in}
use Rattle.boxes.specs.declared.framing.Framed.{Framed}
use Rattle.boxes.specs.Kinds.{ftyp, pfil, pseg, is, box_at}
use Rattle.boxes.specs.declared.kinds.Container.TheVariants.{File}
use Rattle.partial.specs.Heading.{Heading}
use Rattle.partial.specs.Limits.{layer_limit, source_limit}
use Rattle.partial.specs.ReadingDemands.{Numbered}
use Rattle.partial.specs.Segments.{Segment, chunks_of, end_of}
use Rattle.partial.specs.Sources.{source_count, agreed}
use Rattle.rescue.specs.Kept.{beside, kept_of}
use Rattle.rescue.specs.Table.{code_for, told_at}
use Rattle.rescue.specs.declared.table.Fate.{Fate}
use Rattle.ends.specs.Table.{Holds}
use Rattle.segment.specs.Data.{Searched}
use Rattle.boxes.specs.declared.body.Body.{Body}
use Rattle.sources.specs.Held.{PfilList}
use Rattle.gathering.specs.Gathered.{gathered_of}
use Rattle.gathering.specs.Numbers.{numbers_of}
use Rattle.gathering.specs.Noted.{Noted}
use Rattle.gathering.specs.declared.tables.SourceTables.{SourceTables}
use Rattle.gathering.specs.declared.gathered.Gathered.{Gathered}

-- 25 and 40 of segments
unfoldable pub late_held : List Segment → Answer (Unit {0})
late_held ss = do
  _ ← hold 25 (agreed ss)
  hold 40 (leb (source_count ss) layer_limit)

-- what they say of segments that pass both, with one more, by what a table holds of its source
abbrev pub LateTold : List ℕ → ℕ → ℕ → ℕ → ℕ → Result (Unit {0}) Refusal → Type 0
LateTold z source flags count end r =
    (ss : List Segment) (s : Segment) → source ≡ s.source → Holds z ss → flags ≡ s.flags → count ≡ length s.chunks → end ≡ end_of s → agreed ss ≡ true
    → source_count ss ≤ layer_limit
    → told_as (λ x. x) r ≡ late_held (ss ++ (s ∷ []))

-- what stands of the segments kept so far: what was gathered and is noted of them, and the numbers of their chunks. They
-- pass 25 and 40
pub record SoFar (f : List ℕ) (h : Heading) (g : Gathered) (u : List ℕ) (n : SourceTables) (kept : List Segment) : Type 0 where
  pub gathered : g ≡ gathered_of kept
  pub numbers : take (length (chunks_of kept)) u ≡ numbers_of kept
  pub numbered : Numbered kept
  pub noted : Noted f h n kept
  pub agrees : agreed kept ≡ true
  pub few : source_count kept ≤ layer_limit

-- what an answer about a `pseg` beside them says: its refusal, and then they are those kept so far; or that it was kept
-- with them
unfoldable pub Tried : List ℕ → Heading → List Segment → Box → Gathered → List ℕ → SourceTables → Result (Gathered × Framed) Refusal → Type 0
Tried f h kept b before u n (Err m) = (beside source_limit f h kept b ≡ refused (refusal_no m)) × SoFar f h before u n kept
Tried f h kept b before u n (Ok (g, last)) =
    (s : Segment) × (beside source_limit f h kept b ≡ given s) × SoFar f h g u n (kept ++ (s ∷ [])) × Searched f last h.boxes

-- a file with the boxes of a heading, of which the first two are `ftyp` and `pfil`; it is mixed as the heading says, and
-- the list in its `pfil` stands in that container
pub record Boxed (f : List ℕ) (mixed : Bool) (list : Body) (h : Heading) : Type 0 where
  pub boxes : boxes_in File f 0 (length f) ≡ given h.boxes
  pub mix : mixed ≡ h.mixed
  pub in_pfil : PfilList f h list
  pub two : 2 ≤ length h.boxes
  pub first : is ftyp (box_at 0 h.boxes) ≡ true
  pub second : is pfil (box_at 1 h.boxes) ≡ true

-- what is gathered of the segments that are kept of it, with the numbers of their chunks in one table, and the fate of
-- each `pseg` at its number in the other
pub record Keeps (f : List ℕ) (h : Heading) (t : List Fate) (u : List ℕ) (g : Gathered) : Type 0 where
  pub gathered : g ≡ gathered_of (kept_of source_limit f h)
  pub numbers : take (length (chunks_of (kept_of source_limit f h))) u ≡ numbers_of (kept_of source_limit f h)
  pub long : length t ≡ 512
  pub psegs : (k : ℕ) → k < length h.boxes → is pseg (box_at k h.boxes) ≡ true → told_at t k ≡ code_for f h k
