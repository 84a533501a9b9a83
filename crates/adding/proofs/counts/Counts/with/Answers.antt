-- `adding::counts::Counts::with` meets its contract: by whether its number is that of a state, and it is present.
use mathlib.Core.Path.{◌≡◌, sym, ap, ◌∙◌}
use Rattle.std.proofs.lemmas.Result.{IfOk-at_ok}
use Rattle.fields.specs.State.{state_no}
use Rattle.partial.specs.Segments.{present}
use Rattle.fields.proofs.StateLaws.{no_state}
use Rattle.adding.proofs.CountLaws.{right_other, right_known, with_present, with_lost}
use Rattle.adding.proofs.counts.Counts.with.Goals as goal

pub returns-in_default : goal.returns-in_default
returns-in_default c =
    λ is e.
    let a = c.args in
    let said = c.try_from.ensures in
    let was = c.in_default.is in
    with_lost is (record { size = a.size; state = a.number }) e (right_other a.self.right a.size was said.1.1) c.max.ensures c.saturating_add.ensures
    (no_state was said.1.1)

pub returns-then-not-is_present : goal.returns-then-not-is_present
returns-then-not-is_present c =
    λ is e.
    let a = c.args in
    let said = c.try_from.ensures in
    let was = c.in-Ok.is in
    let same = IfOk-at_ok (λ known. state_no known ≡ a.number) was said.0 in
    with_lost is (record { size = a.size; state = a.number }) e (right_known a.self.right a.size was said.1.0 c.right_with.ensures) c.max.ensures c.saturating_add.ensures
    (ap present (sym same) ∙ sym c.is_present.ensures ∙ c.if-not-is_present.true)

pub returns : goal.returns
returns c =
    λ is e.
    let a = c.args in
    let said = c.try_from.ensures in
    let was = c.in-Ok.is in
    let same = IfOk-at_ok (λ known. state_no known ≡ a.number) was said.0 in
    with_present is (record { size = a.size; state = a.number }) e (right_known a.self.right a.size was said.1.0 c.right_with.ensures) c.max.ensures c.saturating_add.ensures
    (ap present (sym same) ∙ sym c.is_present.ensures ∙ c.if-not-is_present.false) c.saturating_add-2.ensures
