-- Document 02, [7]: the list inside an indexed box, with its front part (5.2.6).
use Rattle.std.specs.Prelude.{ℕ, ◌≤◌, List, ◌≡◌, length}
use Rattle.boxes.specs.Answer.{Answer, given, ◌>>=◌, hold}
use Rattle.boxes.specs.Framing.{Box, boxes_in}
use Rattle.boxes.specs.Kinds.{bidx, frpa, right, those}
use Rattle.boxes.specs.declared.kinds.Container.TheVariants.{Bidx}
use Rattle.partial.specs.Index.{front_part, list_framed}
use Rattle.indexing.specs.declared.inner.InnerCounts.{InnerCounts}

-- its boxes
unfoldable pub inner_in : List ℕ → ℕ → ℕ → Answer (List Box)
inner_in f start end = do
  inner ← list_framed (boxes_in Bidx f start end)
  _ ← hold 36 (right Bidx frpa inner)
  given inner

-- how many of them are indexed boxes, and how many bytes the front part has
unfoldable pub inner_counts : List ℕ → ℕ → ℕ → Answer (ℕ × ℕ)
inner_counts f start end = do
  inner ← inner_in f start end
  given (length (those bidx inner), front_part inner)

-- the boxes of a list so far are counted; the bytes of its front part are known while there is one at most
pub record InnerCounted (bs : List Box) (c : InnerCounts) : Type 0 where
  pub many : c.many ≡ length (those bidx bs)
  pub parts : c.parts ≡ length (those frpa bs)
  pub size : length (those frpa bs) ≤ 1 → c.size ≡ front_part bs
