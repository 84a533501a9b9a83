-- `going::source::has_list` meets its contract: a pair of lengths is a URL, and without one the container decides.
use mathlib.Core.Path.{sym, ap, ◌∙◌}
use native.Mathlib.Omega.{arith}
use borrow.Author.Tests.{le-leb, lt-ltb}
use lib.Dec.{ltb}
use lib.ListN.{length, length-map}
use Rattle.boxes.specs.Kinds.{surl, those}
use Rattle.partial.specs.Heading.{urls_in}
use Rattle.going.proofs.SourceLaws.{few_urls, any_urls}
use Rattle.going.proofs.source.has_list.Goals as goal

pub returns-then-lengths-ge2 : goal.returns-then-lengths-ge2
returns-then-lengths-ge2 c =
    λ texts bs stands. le-leb 2 _ c.if-lengths-ge2.true ∙ sym (lt-ltb 0 _ (any_urls _ _ _ (omega (arith, c.if-lengths-ge2.true))))

pub returns-else-lengths-ge2 : goal.returns-else-lengths-ge2
unfolding urls_in
returns-else-lengths-ge2 c =
    λ texts bs stands.
    c.has_surl.ensures bs stands.boxes
    ∙ ap (ltb 0) (sym (ap length (few_urls _ _ _ (omega (arith, c.if-lengths-ge2.false))) ∙ length-map (those surl bs) _))
