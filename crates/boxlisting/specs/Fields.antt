-- The last field of a box's line, with the tab before it.
use Rattle.std.specs.Prelude.{ℕ, true, false, List, [], ◌∷◌, eqb}
use Rattle.boxes.specs.Framing.{Box, uuid}
use Rattle.partial.specs.BoxList.{each, hex, user_bytes}

-- of a `uuid` box a tab and the user type, of another nothing
unfoldable pub user_field : List ℕ → Box → List ℕ
user_field f b = elim (eqb b.kind uuid) [ true ↦ 9 ∷ each hex (user_bytes f b) | false ↦ [] ]
