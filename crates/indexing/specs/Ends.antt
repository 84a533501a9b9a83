-- Document 02, [7], "where that is known": an end in the source, as the code has it.
use Rattle.std.specs.Prelude.{ℕ, Option, option_map}
use Rattle.partial.specs.declared.position.Position.{Position}

abbrev pub end_of : Option Position → Option ℕ
end_of = option_map (λ place. place.0)
