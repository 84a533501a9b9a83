-- `segment::data::found_at` meets its contract: the box that starts last before the chunk holds it, or none does.
use mathlib.Core.Bool.{false≢true}
use mathlib.Core.Path.{sym, ap, ◌∙◌}
use Rattle.boxes.proofs.AnswerLaws.{not_both, given_same}
use Rattle.boxes.specs.Framing.{box_of}
use Rattle.boxes.proofs.ToldLaws.{told-ok, told-err}
use Rattle.segment.specs.Data.{holds_chunk}
use Rattle.segment.proofs.DataLaws.{finds_box, finds_none}
use Rattle.segment.proofs.TopsLaws.{last_among, last_other}
use Rattle.segment.proofs.data.found_at.Goals as goal

pub returns-in_default : goal.returns-in_default
returns-in_default c =
    λ last.
    let fault = told-err box_of c.header_at.ensures c.in_default.is in
    finds_none (λ bs p t. last_other _ p.boxes t c.top_before-number.ensures c.top_at-top.ensures _
    (λ j there here holds. not_both (sym fault ∙ here)))

pub returns-then-holds : goal.returns-then-holds
returns-then-holds c =
    λ last.
    let read_at = told-ok box_of c.header_at.ensures c.in-Ok.is in
    finds_box _ (sym c.holds.ensures ∙ c.if-holds.true) (λ bs p t. last_among _ p.boxes t c.top_before-number.ensures c.top_at-top.ensures read_at)

pub returns-else-holds : goal.returns-else-holds
returns-else-holds c =
    λ last.
    let read_at = told-ok box_of c.header_at.ensures c.in-Ok.is in
    let other = sym c.holds.ensures ∙ c.if-holds.false in
    finds_none (λ bs p t. last_other _ p.boxes t c.top_before-number.ensures c.top_at-top.ensures _
    (λ j there here holds. false≢true (sym other ∙ ap (holds_chunk _ _) (given_same (sym read_at ∙ here)) ∙ holds)))
