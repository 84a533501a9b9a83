-- Document 01, "The URL and the MIME text of the first `surl` are handed back as parts of the file", and document 02, [8],
-- those of a source: where they lie.
use Rattle.std.specs.Prelude.{ℕ, List}
use Rattle.boxes.specs.Answer.{Answer, refused, given, ◌>>=◌}
use Rattle.partial.specs.Heading.{Part}
use Rattle.partial.specs.Limits.{source_limit}
use Rattle.partial.specs.Reading.{reading}
use Rattle.partial.specs.Tables.{nowhere, text_of}
use Rattle.surls.specs.First.{text_in}
use Rattle.surls.specs.declared.first.Text.{Text}

-- where a text of the first `surl` in `pfil` lies, or the file's refusal
abbrev pub text_located : Text → List ℕ → Answer Part
text_located which f = reading source_limit f >>= λ ss. given (text_of (text_in which) source_limit f)

-- the part that an answer gives; empty after a refusal
unfoldable pub part_given : Answer Part → Part
part_given (refused n) = nowhere
part_given (given part) = part
