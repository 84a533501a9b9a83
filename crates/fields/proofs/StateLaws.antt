-- Laws of the numbers of states: no two states have the same, and a number of none is that of no present chunk.
use mathlib.Core.Bool.{false≢true}
use native.Mathlib.Decide.{dec_le}
use borrow.Author.Tests.{ne_eqb}
use Rattle.std.proofs.Common.{◌≡◌, ◌≤◌, ◌<◌, arith, ℕ, [], ◌∷◌, refl, sym, ap, ◌∙◌}
use Rattle.std.specs.Prelude.{slice_index_or, false, Result, Err, IsOk}
use Rattle.partial.specs.Segments.{present}
use Rattle.refusals.specs.declared.Refusal.{Refusal}
use Rattle.fields.specs.State.{state_no}
use Rattle.fields.specs.declared.state.State.{State}
use Rattle.fields.specs.declared.state.State.TheVariants.{Lost, Damaged, Good, Elsewhere}

by_number : ℕ → State
by_number k = slice_index_or (Lost ∷ Damaged ∷ Good ∷ Elsewhere ∷ []) k Lost

back : (state : State) → by_number (state_no state) ≡ state
unfolding by_number
back Lost = refl
back Damaged = refl
back Good = refl
back Elsewhere = refl

pub state_told : (s t : State) → state_no s ≡ state_no t → s ≡ t
state_told s t e = sym (back s) ∙ ap by_number e ∙ back t

-- none has one above 3
pub state-low : (state : State) → state_no state < 4
state-low Lost = omega arith
state-low Damaged = omega arith
state-low Good = omega arith
state-low Elsewhere = omega arith

-- a number that was read as no state is that of no present chunk
pub no_state : {r : Result State Refusal} {e : Refusal} {n : ℕ} → r ≡ Err e → (n ≤ 3 → IsOk r) → present n ≡ false
unfolding present
no_state {n = n} was known =
    elim (dec_le n 3) [
      | yes low ↦ absurd (false≢true (rw was at known low))
      | no over ↦ rw (ne_eqb n 1 (λ e. omega arith), ne_eqb n 2 (λ e. omega arith))
    ]
