-- Laws of rows: none that are stored into a table, and those that are put behind others.
use Prim.Native.Nat.{ℕ, ◌+◌, ◌≤◌}
use mathlib.Core.List.{List, [], ◌++◌}
use mathlib.Core.Path.{◌≡◌, refl, sym, ap, subst, ◌∙◌}
use native.Mathlib.Decide.{dec_le}
use native.Mathlib.Nat.{add-zero}
use native.Mathlib.Omega.{arith}
use lib.ListN.{length, drop, take-append-drop, length-append}
use Rattle.numerals.specs.Stored.{stored}
use Rattle.numerals.proofs.StoredLaws.{stored-room, stored_none, stored-append, length-stored}
use Rattle.filling.specs.Rows.{Put}

-- of none the table stays as it is
pub row_none : (table : List ℕ) (at : ℕ) → at ≤ length table → stored table at [] ≡ table
row_none table at h = stored-room table at [] (omega arith) ∙ rw add-zero (take-append-drop at table)

-- ---- rows that are put

-- numbers that are stored if there is room for them are put
pub put_stored : (t₀ : List ℕ) (at : ℕ) (rows : List ℕ) {t : List ℕ} → t ≡ stored t₀ at rows → Put t₀ at rows t
put_stored t₀ at rows e =
    elim (dec_le (at + length rows) (length t₀)) [
      | yes room ↦ record { long = ap length e ∙ length-stored t₀ at rows room; held = λ h. e }
      | no short ↦ record { long = ap length (e ∙ stored_none t₀ at rows (omega arith)); held = λ h. e }
    ]

-- from the front of a table that they fit they fill it
pub put_fills : {t₀ t : List ℕ} (rows : List ℕ) → Put t₀ 0 rows t → length rows ≤ length t₀ → t ≡ rows ++ drop (length rows) t₀
put_fills {t₀} rows p fits =
    let front : 0 + length rows ≡ length rows = omega arith in
    p.held (omega arith) ∙ stored-room t₀ 0 rows (omega arith) ∙ ap (λ (n : ℕ). rows ++ drop n t₀) front

pub put_none : (t : List ℕ) (at : ℕ) → Put t at [] t
put_none t at = record { long = refl; held = λ h. sym (row_none t at (omega arith)) }

-- the same rows at the same number
pub put_same : {t₀ t : List ℕ} {at at' : ℕ} {rows rows' : List ℕ} → at ≡ at' → rows ≡ rows' → Put t₀ at rows t → Put t₀ at' rows' t
put_same {t₀} {t} here same p = subst (λ (x : ℕ × List ℕ). Put t₀ x.0 x.1 t) (λ i. (here i, same i)) p

-- rows that are put behind others are put with them
pub put_more : {t₀ t t' : List ℕ} (at : ℕ) (a b : List ℕ) → Put t₀ at a t → Put t (at + length a) b t' → Put t₀ at (a ++ b) t'
put_more {t₀} {t} {t'} at a b p q =
    record {
      long = q.long ∙ p.long;
      held = λ h.
          let both = length-append a b in
          q.held (omega (arith, p.long))
          ∙ ap (λ (x : List ℕ). stored x (at + length a) b) (p.held (omega arith))
          ∙ stored-append t₀ at a b (omega arith);
    }
