-- `adding::admission::end_beside` meets its contract: the end of a segment that is of that source and gives its size, and
-- else none.
use mathlib.Core.Path.{sym, ◌∙◌}
use Rattle.adding.proofs.BesideLaws.{size_own, size_other, new_end, no_end, end_within}
use Rattle.adding.proofs.admission.end_beside.Goals as goal

pub returns-then-not-in_pfil : goal.returns-then-not-in_pfil
returns-then-not-in_pfil c =
    (no_end, λ h s same gives ends. sym (size_other s h.urls (sym c.if-not-in_pfil.true ∙ same)))

pub returns : goal.returns
returns c = (
  end_within _ _ c.then_some.ensures,
  λ h s same gives ends. new_end s gives ends c.then_some.ensures ∙ sym (size_own s h.urls (sym c.if-not-in_pfil.false ∙ same)),
)
