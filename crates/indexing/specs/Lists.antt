-- Document 02, [7]: what is told of an index list and of an indexed box on a level.
use Rattle.std.specs.Prelude.{ℕ, ◌+◌, ◌-◌, ◌*◌, ◌≤◌, Bool, List, ◌≡◌, length}
use Rattle.std.specs.Prelude.{Option, None, Some, Result, Ok, Err}
use Rattle.refusals.specs.Refusals.{refusal_no}
use Rattle.refusals.specs.declared.Refusal.{Refusal}
use Rattle.boxes.specs.Answer.{Answer, refused, given}
use Rattle.boxes.specs.Bodies.{boxes_of}
use Rattle.boxes.specs.Framing.{Box}
use Rattle.boxes.specs.Kinds.{bidx, those}
use Rattle.boxes.specs.declared.body.Body.{Body}
use Rattle.boxes.specs.declared.framing.Framed.{Framed}
use Rattle.partial.specs.Index.{Told, index_list, indexed_box, level_limit}
use Rattle.partial.specs.Limits.{file_limit, source_limit}
use Rattle.partial.specs.declared.position.Position.{Position}
use Rattle.indexing.specs.Ends.{end_of}
use Rattle.indexing.specs.Marks.{Marked}
use Rattle.indexing.specs.declared.marks.Marks.{Marks}

-- the list and the box on a level, with the calls that the levels from there on take
abbrev pub list_on : List ℕ → ℕ → Option ℕ → ℕ → List Box → Answer Told
list_on f level = index_list source_limit f (2 * (9 - level)) level

abbrev pub box_on : List ℕ → ℕ → Option ℕ → Bool → ℕ → Box → Answer Told
box_on f level = indexed_box source_limit f (2 * (9 - level) - 1) level

-- where the next box of a list starts
abbrev pub place_after : ℕ → Option ℕ → ℕ
place_after place e = elim e [ Some end ↦ end | None ↦ place ]

-- a place on a level: a level takes less than 2 ^ 31 bytes of the file, and a known end is within the limit
abbrev pub Placed : ℕ → ℕ → Type 0
Placed level place = place ≤ source_limit + level * 2_147_483_648

-- what is known where a list is read: its framing, how many `bidx` it has, and that a row takes sixteen bytes of a file
pub record ListReady (f : List ℕ) (body : Body) (many level place count : ℕ) : Type 0 where
  pub deepest : level ≤ level_limit
  pub ordered : body.start.0 ≤ body.end.0
  pub short : body.end.0 ≤ file_limit
  pub placed : Placed level place
  pub rows : 16 * count ≤ body.start.0
  pub framed : (bs : List Box) × (boxes_of f body ≡ given bs) × (many ≡ length (those bidx bs))

-- what is known where a box is read
pub record BoxReady (b : Framed) (level place count : ℕ) : Type 0 where
  pub deepest : level ≤ level_limit
  pub header : b.at.0 + 8 ≤ b.body.0
  pub short : b.end.0 ≤ file_limit
  pub placed : Placed level place
  pub rows : 16 * count ≤ b.at.0

-- what is answered of boxes: what is marked with them, and where the last of them ends; or a refusal
abbrev pub Read : Type 0
Read = Result (Marks × Option Position) Refusal

-- a row takes sixteen bytes of what was read
unfoldable pub Counted : ℕ → Read → Type 0
Counted end (Err n) = Unit {0}
Counted end (Ok (m, e)) = 16 * m.count ≤ end

-- what an answer says: the refusal, or what is marked with the boxes told, and their end
unfoldable pub Listed : Answer Told → Marks → List ℕ → List ℕ → Read → Type 0
Listed x before t₀ t (Err n) = x ≡ refused (refusal_no n)
Listed x before t₀ t (Ok (m, e)) = (told : Told) × (x ≡ given told) × (end_of e ≡ told.end) × Marked before t₀ told.boxes m t
