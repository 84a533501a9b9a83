-- Document 02, [2]: what bytes are, by the boxes from the first to the last.
use Rattle.std.specs.Prelude.{ℕ, true, false, List, Option, None, Some}
use Rattle.partial.specs.Mixed.{are_boxes, boxes_many}

-- whole allowed boxes, and how many, or not
unfoldable pub whole_of : List ℕ → Option ℕ
whole_of bytes = elim (are_boxes bytes) [ true ↦ Some (boxes_many bytes) | false ↦ None ]
