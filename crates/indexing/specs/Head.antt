-- Document 02, [7], refusal 36 of one indexed box: what its fields and its end in the source are.
use Rattle.std.specs.Prelude.{ℕ, Bool, List}
use Rattle.std.specs.Prelude.{Option}
use Rattle.boxes.specs.Answer.{Answer, given, ◌>>=◌, hold}
use Rattle.boxes.specs.Framing.{Box}
use Rattle.partial.specs.Index.{IndexFields, index_fields, end_from, end_right, last_or_sized}
use Rattle.partial.specs.Limits.{source_limit}
use Rattle.partial.specs.declared.position.Position.{Position}
use Rattle.indexing.specs.Ends.{end_of}
use Rattle.indexing.specs.Fields.{fields_of}
use Rattle.indexing.specs.declared.fields.IndexFields.{IndexFields as CodeFields}

-- the end of a box that starts at a place in what ends there
unfoldable pub judged_end : Option ℕ → ℕ → IndexFields → Answer (Option ℕ)
judged_end enclosing place x = do
  _ ← hold 36 (end_right source_limit place x (end_from enclosing place x))
  given (end_from enclosing place x)

-- the fields and the end of the last `bidx` of its list, or of another
unfoldable pub head_in : List ℕ → Box → Option ℕ → Bool → ℕ → Answer (IndexFields × Option ℕ)
head_in f b enclosing last place = do
  x ← index_fields f b
  _ ← hold 36 (last_or_sized last x)
  end ← judged_end enclosing place x
  given (x, end)

-- what fields and an end that were read say
abbrev pub head_told : CodeFields × Option Position → IndexFields × Option ℕ
head_told (x, end) = (fields_of x, end_of end)
