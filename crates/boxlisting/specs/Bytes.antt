-- The two ways in which the list shows a byte.
use Rattle.std.specs.Prelude.{ℕ, Bool, true, false, List}
use Rattle.partial.specs.BoxList.{hex, shown}

-- in hex digits, or as it is where it prints
abbrev pub byte_text : Bool → ℕ → List ℕ
byte_text inHex = elim inHex [ true ↦ hex | false ↦ shown ]
