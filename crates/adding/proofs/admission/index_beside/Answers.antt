-- `adding::admission::index_beside` meets its contract: an index that was told is told again, and else its stages
-- decide.
use mathlib.Core.List.{[]}
use mathlib.Core.Path.{refl, sym, ap, ◌∙◌}
use Rattle.boxes.specs.Answer.{given, ◌>>=◌}
use Rattle.boxes.proofs.ToldLaws.{handed_on}
use Rattle.partial.specs.Answers.{number_answer}
use Rattle.adding.proofs.BesideLaws.{told-again, end_put, begun_known, begun_has, begun_numbered, begun_beside}
use Rattle.adding.proofs.admission.index_beside.Goals as goal

pub returns-then-segments-ne0 : goal.returns-then-segments-ne0
returns-then-segments-ne0 c =
    λ h ss s file many lacks next ends low. told-again ss file s lacks next (λ none. c.if-segments-ne0.true (many ∙ none))

pub returns-in_err-index_stages : goal.returns-in_err-index_stages
returns-in_err-index_stages c =
    λ h ss s file many lacks next ends low.
    let none = sym many ∙ c.if-segments-ne0.false in
    let Ends-there = end_put _ _ _ refl low c.put_sizes.ensures ∙ ends in
    let told = c.index_stages.ensures h [] (λ _. 0) file.head (begun_known ss file s lacks none) (begun_numbered ss file s lacks none) (begun_has ss file s lacks none) in
    handed_on (λ x. x) _ _ c.from_residual.ensures.1
    ∙ ap (λ r. number_answer r >>= λ _. given tt) (sym c.in_err-index_stages.was)
    ∙ begun_beside ss file s lacks none _ Ends-there told

pub returns : goal.returns
returns c =
    λ h ss s file many lacks next ends low.
    let none = sym many ∙ c.if-segments-ne0.false in
    let Ends-there = end_put _ _ _ refl low c.put_sizes.ensures ∙ ends in
    let told = c.index_stages.ensures h [] (λ _. 0) file.head (begun_known ss file s lacks none) (begun_numbered ss file s lacks none) (begun_has ss file s lacks none) in
    ap (λ r. number_answer r >>= λ _. given tt) (sym c.in_ok-index_stages.was) ∙ begun_beside ss file s lacks none _ Ends-there told
