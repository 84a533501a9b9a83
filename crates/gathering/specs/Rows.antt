-- The row of a segment, as the code puts it.
use Rattle.std.specs.Prelude.{ℕ, ◌-◌, List, [], ◌∷◌}
use Rattle.boxes.specs.Framing.{Box}
use Rattle.fields.specs.declared.fields.Fields.{Fields}

-- the row of a segment by the place of its box, the fields of its `pshd`, the number of its chunks, its `pshd`, and the
-- number of its source
abbrev pub row_by : ℕ → Fields → ℕ → Box → ℕ → List ℕ
row_by place fields count header source =
    place ∷ fields.offset.0 ∷ fields.flags ∷ fields.repair ∷ count ∷ header.body ∷ (header.end - header.body) ∷ source ∷ []
