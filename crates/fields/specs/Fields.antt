-- Document 01, the `pshd` paragraph and refusal 14: the fields of a `pshd`.
use Rattle.std.specs.Prelude.{ℕ, List, eqb}
use Rattle.boxes.specs.Answer.{Answer, given, ◌>>=◌, hold}
use Rattle.boxes.specs.Framing.{Box}
use Rattle.partial.specs.Reading.{Pshd, pshd_fields}
use Rattle.fields.specs.declared.fields.Fields.{Fields}

-- the fields that change an answer
abbrev pub values_of : Pshd → Fields
values_of p = record { flags = p.flags; offset = record { 0 = p.source_offset }; repair = p.repair_time }

-- the fields of a `pshd`; 14 where they do not end where the box ends
unfoldable pub fields_of : List ℕ → Box → Answer Fields
fields_of f b = do
  _ ← hold 14 (eqb (pshd_fields f b).end b.end)
  given (values_of (pshd_fields f b))
