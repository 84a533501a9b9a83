-- `fields::state::present` meets its contract: by the state of the number, if it is of one.
use mathlib.Core.Path.{◌≡◌, sym, ap, ◌∙◌}
use Rattle.std.proofs.lemmas.Result.{IfOk-at_ok}
use Rattle.fields.specs.State.{state_no}
use Rattle.partial.specs.Segments.{present}
use Rattle.fields.proofs.StateLaws.{no_state}
use Rattle.fields.proofs.state.present.Goals as goal

pub returns-in-Ok : goal.returns-in-Ok
returns-in-Ok c = c.is_present.ensures ∙ ap present (IfOk-at_ok (λ state. state_no state ≡ c.args.state) c.in-Ok.is c.try_from.ensures.0)

pub returns-in-Err : goal.returns-in-Err
returns-in-Err c = sym (no_state c.in-Err.is c.try_from.ensures.1.1)
