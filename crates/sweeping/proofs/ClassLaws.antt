-- Laws of the classes of positions: what a test whether it is one tells of it, and that no two have the same number.
use Prim.Native.Nat.{ℕ, ◌≤◌}
use mathlib.Core.Bool.{true, false, false≢true}
use mathlib.Core.List.{[], ◌∷◌}
use mathlib.Core.Path.{◌≡◌, refl, sym, ap, ◌∙◌}
use native.Mathlib.Omega.{arith}
use denote.Enum.Bare.{sameb}
use Rattle.partial.specs.Naming.{held}
use Rattle.partial.specs.Ranges.{missing, had}
use Rattle.std.specs.Prelude.{slice_index_or}
use Rattle.sweeping.specs.Classes.{class_no, run_of}
use Rattle.sweeping.specs.contracts.ranges.Class.{the_type}
use Rattle.sweeping.specs.declared.ranges.Class.{Class}
use Rattle.sweeping.specs.declared.ranges.Class.TheVariants.{Missing, Had, Held}
use Rattle.sweeping.specs.declared.ranges.Range.{Range}

pub is_had : (c : Class) → sameb the_type c Had ≡ true → class_no c ≡ had
is_had Missing e = absurd (false≢true e)
is_had Had e = refl
is_had Held e = absurd (false≢true e)

pub not_had : (c : Class) → sameb the_type c Had ≡ false → class_no c ≡ had → ⊥
not_had Missing e f = omega arith
not_had Had e f = absurd (false≢true (sym e))
not_had Held e f = omega arith

pub is_held : (c : Class) → sameb the_type c Held ≡ true → class_no c ≡ held
is_held Missing e = absurd (false≢true e)
is_held Had e = absurd (false≢true e)
is_held Held e = refl

pub not_held : (c : Class) → sameb the_type c Held ≡ false → class_no c ≡ held → ⊥
not_held Missing e f = omega arith
not_held Had e f = omega arith
not_held Held e f = absurd (false≢true (sym e))

pub is_missing : (c : Class) → (class_no c ≡ had → ⊥) → class_no c ≤ had → class_no c ≡ missing
is_missing c other low = omega (arith, other)

by_number : ℕ → Class
by_number k = slice_index_or (Missing ∷ Had ∷ Held ∷ []) k Missing

back : (c : Class) → by_number (class_no c) ≡ c
unfolding by_number
back Missing = refl
back Had = refl
back Held = refl

pub class_told : (c d : Class) → class_no c ≡ class_no d → c ≡ d
class_told c d e = sym (back c) ∙ ap by_number e ∙ back d

-- ranges that say the same are the same
pub range_told : (r s : Range) → run_of r ≡ run_of s → r ≡ s
range_told r s e =
    λ i. record { class = class_told r.class s.class (λ j. (e j).class) i; length = (e i).length }
