-- `sources::numbers::source_at` meets its contract: by whether the table has the entry.
use mathlib.Core.Path.{ap, ◌∙◌}
use native.Mathlib.Omega.{arith}
use Rattle.std.specs.Option.{unwrap_or}
use Rattle.sources.proofs.NumberLaws.{source_read}
use Rattle.sources.proofs.numbers.source_at.Goals as goal

pub returns : goal.returns
returns c =
    c.unwrap_or.ensures
    ∙ ap (λ found. unwrap_or found 0) c.copied.ensures
    ∙ c.get.ensures.lookup.4 (omega arith) 0
    ∙ source_read _ _ c.told-sources
