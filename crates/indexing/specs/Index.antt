-- Document 02, [7], "Read it from `pfil` or from segments": what is told of the index in a container.
use Rattle.std.specs.Prelude.{ℕ, ◌*◌, ◌≤◌, List, ◌≡◌}
use Rattle.std.specs.Prelude.{Option, None, Some, Result, Ok, Err, is_some}
use Rattle.refusals.specs.Refusals.{refusal_no}
use Rattle.refusals.specs.declared.Refusal.{Refusal}
use Rattle.boxes.specs.Answer.{Answer, refused, given, ◌>>=◌}
use Rattle.boxes.specs.Bodies.{boxes_of}
use Rattle.boxes.specs.Framing.{Box, boxes_in}
use Rattle.boxes.specs.Kinds.{bidx, those}
use Rattle.boxes.specs.declared.body.Body.{Body}
use Rattle.boxes.specs.declared.framing.Framed.{Framed}
use Rattle.boxes.specs.declared.kinds.Container.{Container}
use Rattle.boxes.specs.declared.kinds.Container.TheVariants.{Fidx}
use Rattle.partial.specs.Index.{Indexed, Told, list_framed, index_in, has_index}
use Rattle.partial.specs.Limits.{file_limit, source_limit}
use Rattle.indexing.specs.Lists.{list_on}
use Rattle.indexing.specs.Marks.{Marked}
use Rattle.indexing.specs.declared.marks.Marks.{Marks}

-- what is told of the list of a `fidx`, whose boxes are of the first level
unfoldable pub list_in : List ℕ → Box → Option ℕ → ℕ → Answer Told
list_in f b size place = do
  inner ← list_framed (boxes_in Fidx f b.body b.end)
  list_on f 1 size place (those bidx inner)

-- where a list may be read: it lies in a file, its boxes start in a source, and a row takes sixteen bytes of the file
pub record Bounded (b : Framed) (place count : ℕ) : Type 0 where
  pub ordered : b.body.0 ≤ b.end.0
  pub short : b.end.0 ≤ file_limit
  pub placed : place ≤ source_limit
  pub rows : 16 * count ≤ b.body.0

-- the boxes of a container, which lies in a file whose rows before it take sixteen bytes each
pub record Contained (f : List ℕ) (body : Body) (place count : ℕ) (bs : List Box) : Type 0 where
  pub framed : boxes_of f body ≡ given bs
  pub ordered : body.start.0 ≤ body.end.0
  pub short : body.end.0 ≤ file_limit
  pub placed : place ≤ source_limit
  pub rows : 16 * count ≤ body.start.0

-- what is marked with an index behind what was before it, if there is one
abbrev pub marked_with : Marks → Option Marks → Marks
marked_with before None = before
marked_with before (Some m) = m

-- what an answer says: the refusal, or whether there is an index, and what is marked with its boxes
unfoldable pub Indexes : List ℕ → Container → List Box → Option ℕ → ℕ → Marks → List ℕ → List ℕ → Result (Option Marks) Refusal → Type 0
Indexes f c bs size place before t₀ t (Err n) = index_in source_limit f c bs size place ≡ refused (refusal_no n)
Indexes f c bs size place before t₀ t (Ok found) =
    (is : List Indexed) × (index_in source_limit f c bs size place ≡ given is) × (is_some found ≡ has_index bs)
    × Marked before t₀ is (marked_with before found) t

-- a row takes sixteen bytes of what was read
unfoldable pub CountedIn : ℕ → Marks → Result (Option Marks) Refusal → Type 0
CountedIn end before (Err n) = Unit {0}
CountedIn end before (Ok found) = 16 * (marked_with before found).count ≤ end
