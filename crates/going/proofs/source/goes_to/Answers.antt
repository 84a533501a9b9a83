-- `going::source::goes_to` meets its contract: without a box to write it is the same list, else the texts decide.
use mathlib.Core.Path.{sym, ap, ◌∙◌}
use native.Mathlib.Omega.{arith}
use borrow.Author.Tests.{le-leb}
use Rattle.partial.specs.Heading.{urls_in}
use Rattle.partial.specs.Sources.{same_urls}
use Rattle.partial.proofs.Meaning.SameLaws.{urls_same}
use Rattle.going.proofs.SourceLaws.{few_urls, some_urls}
use Rattle.going.proofs.source.goes_to.Goals as goal

pub returns-then-lengths-le1 : goal.returns-then-lengths-le1
returns-then-lengths-le1 c =
    λ bs stands. le-leb _ 1 c.if-lengths-le1.true ∙ sym (urls_same _ _ (sym (few_urls _ _ _ (omega (arith, c.if-lengths-le1.true)))))

pub returns-else-lengths-le1 : goal.returns-else-lengths-le1
returns-else-lengths-le1 c =
    λ bs stands.
    c.same_texts.ensures bs stands.boxes stands.inside ∙ ap (same_urls (urls_in _ bs)) (sym (some_urls _ _ _ (omega (arith, c.if-lengths-le1.false))))
