-- `going::source::source_for` meets its contract: by the list in `pfil` where there is no box to write, else by the
-- texts.
use mathlib.Core.Path.{sym, ap, ◌∙◌}
use native.Mathlib.Omega.{arith}
use Rattle.partial.specs.Sources.{source_beside}
use Rattle.going.proofs.SourceLaws.{few_urls, some_urls}
use Rattle.going.proofs.source.source_for.Goals as goal

pub returns-then-lengths-lt2 : goal.returns-then-lengths-lt2
returns-then-lengths-lt2 c =
    λ h ss bs count numbered held stands.
    c.source_of.ensures h ss bs count numbered held stands ∙ ap (source_beside ss) (sym (few_urls _ _ _ (omega (arith, c.if-lengths-lt2.true))))

pub returns : goal.returns
returns c =
    λ h ss bs count numbered held stands.
    c.source_with.ensures h ss count numbered held ∙ ap (source_beside ss) (sym (some_urls _ _ _ (omega (arith, c.if-lengths-lt2.false))))
