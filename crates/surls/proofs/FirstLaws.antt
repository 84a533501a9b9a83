-- The text of the first `surl` of a container, by what is found where one is looked for.
use Prim.Native.Nat.{ℕ}
use mathlib.Core.List.{List, [], ◌∷◌}
use mathlib.Core.Path.{◌≡◌, refl, sym}
use native.Mathlib.Omega.{arith}
use borrow.Author.Tests.{lt-ltb}
use lib.Dec.{ltb}
use lib.ListN.{length}
use Rattle.std.specs.Prelude.{Option, None, Some}
use Rattle.std.specs.Option.{is_some}
use Rattle.boxes.specs.Framing.{Box}
use Rattle.boxes.specs.Kinds.{surl, those}
use Rattle.boxes.specs.declared.framing.Framed.{Framed}
use Rattle.partial.specs.Heading.{Part}
use Rattle.partial.specs.Tables.{nowhere, first_text}
use Rattle.tallying.specs.Found.{found_of, first_in}

-- whether one is found
pub first_any : (found : Option Framed) (cs : List Box) → found_of found ≡ first_in cs → is_some found ≡ ltb 0 (length cs)
first_any None [] e = refl
first_any None (c ∷ cs) e = cc
first_any (Some b) [] e = cc
first_any (Some b) (c ∷ cs) e = sym (lt-ltb 0 (length (c ∷ cs)) (omega arith))

module _ (which : List ℕ → Box → Part) (f : List ℕ) (bs : List Box) where
  pub first_found : {b : Box} → Some b ≡ first_in (those surl bs) → first_text which f bs ≡ which f b
  unfolding first_text
  first_found {b} there = go (those surl bs) refl there
    where
      go : (cs : List Box) → those surl bs ≡ cs → Some b ≡ first_in cs → first_text which f bs ≡ which f b
      go [] e none = cc
      go (c ∷ cs) e one =
          let same : b ≡ c = cc in
          rw (first_text, e, same)

  pub first_none : None ≡ first_in (those surl bs) → first_text which f bs ≡ nowhere
  unfolding first_text
  first_none none = go (those surl bs) refl none
    where
      go : (cs : List Box) → those surl bs ≡ cs → None ≡ first_in cs → first_text which f bs ≡ nowhere
      go [] e none = rw (first_text, e)
      go (c ∷ cs) e one = cc
