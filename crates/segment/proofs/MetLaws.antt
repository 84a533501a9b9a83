-- What a walk meets over boxes whose framing is known to be right, where a fault counts as the end.
use Rattle.std.specs.Prelude.{Option, None, Some, Result, Ok, Err, ◌⊎◌}
use Rattle.std.specs.Result.{result_unwrap_or}
use mathlib.Core.Logic.{inl, inr}
use mathlib.Core.Path.{◌≡◌, refl, sym, ap, ◌∙◌}

module _ {T E : Type 0} {r : Result (Option T) E} {o : Option T} (left : o ≡ result_unwrap_or r None) where
  pub met_one : {x : T} → o ≡ Some x → r ≡ Ok (Some x)
  met_one {x} there = go r (sym left ∙ there)
    where
      go : (r : Result (Option T) E) → result_unwrap_or r None ≡ Some x → r ≡ Ok (Some x)
      go (Ok y) e = ap Ok e
      go (Err n) e = cc

  pub met_none : o ≡ None → (r ≡ Ok None) ⊎ ((n : E) × (r ≡ Err n))
  met_none none = go r (sym left ∙ none)
    where
      go : (r : Result (Option T) E) → result_unwrap_or r None ≡ None → (r ≡ Ok None) ⊎ ((n : E) × (r ≡ Err n))
      go (Ok y) e = inl (ap Ok e)
      go (Err n) e = inr (n, refl)
