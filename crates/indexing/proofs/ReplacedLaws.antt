-- Laws of a result in which one refusal stands for all others.
use mathlib.Core.Path.{◌≡◌, refl, sym, ap, ◌∙◌}
use native.Mathlib.Omega.{arith}
use Rattle.std.specs.Prelude.{ℕ, Result, Ok, Err}
use Rattle.std.specs.Result.{result_or}

module _ {T E D : Type 0} {r : Result T E} {r' : Result T D} (k : D) (replaced : r' ≡ result_or r (Err k)) where
  pub ok-before : {x : T} → r' ≡ Ok x → r ≡ Ok x
  ok-before {x} e = go r (sym replaced ∙ e)
    where
      go : (r : Result T E) → result_or r (Err k) ≡ Ok x → r ≡ Ok x
      go (Ok y) e = ap Ok (cc)
      go (Err n) e = cc

  pub err-before : {d : D} → r' ≡ Err d → (n : E) × (r ≡ Err n) × (d ≡ k)
  err-before {d} e = go r (sym replaced ∙ e)
    where
      go : (r : Result T E) → result_or r (Err k) ≡ Err d → (n : E) × (r ≡ Err n) × (d ≡ k)
      go (Ok y) e = let z : ◌≡◌ {A = ℕ} 0 1 = cc in absurd (omega arith)
      go (Err n) e = (n, refl, (cc))
