-- Demand 3, "if the new segment carries it as good, with that value": the byte that an addition carries for a position.
use Rattle.std.specs.Prelude.{ℕ, ◌+◌, ◌-◌, true, false, ◌&&◌, List, [], ◌∷◌, get_or, drop, eqb}
use Rattle.std.specs.Prelude.{Option, None, Some}
use Rattle.partial.specs.Sequences.{within}
use Rattle.partial.specs.Segments.{good}
use Rattle.additions.specs.Addition.{Addition, Item, items, data_size}

-- the byte at a position that items from a position on carry as good, with their data from there on
unfoldable pub carried_by : ℕ → List Item → List ℕ → ℕ → Option ℕ
carried_by start [] bytes p = None
carried_by start (i ∷ is) bytes p =
    elim (eqb i.state good && within start i.size p) [
      | true ↦ Some (get_or bytes (p - start) 0)
      | false ↦ carried_by (start + i.size) is (drop (data_size (i ∷ [])) bytes) p
    ]

-- the byte at a position that an addition carries as good
unfoldable pub carried : Addition → ℕ → Option ℕ
carried a p = carried_by a.source_offset (items a.list) a.bytes p
