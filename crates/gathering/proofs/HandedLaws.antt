-- A refusal that is handed on, as a result.
use Rattle.std.specs.Prelude.{Result, Err, IsErrAnd}
use mathlib.Core.Path.{◌≡◌, ap, ◌∙◌}
use Rattle.std.proofs.lemmas.Result.{err_from_is_err_and}

pub handed_err : {T E : Type 0} (r : Result T E) {n : E} → IsErrAnd r (λ e. e ≡ n) → r ≡ Err n
handed_err r handed =
    let (e, is, same) = err_from_is_err_and r handed in
    is ∙ ap Err same
