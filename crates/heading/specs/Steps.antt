-- What a step of reading a heading takes from those before it.
use Rattle.std.specs.Prelude.{ℕ, Bool, true, List, ◌≡◌}
use Rattle.boxes.specs.Framing.{Box}
use Rattle.partial.specs.Heading.{ftyp_right, branded, pmff, brand_right, pfil_right}

-- stages 7 to 9 are passed, and whether the file is mixed is known
pub record Fronted (f : List ℕ) (mixed : Bool) (bs : List Box) : Type 0 where
  pub ftyp : ftyp_right bs ≡ true
  pub brand : brand_right f bs ≡ true
  pub pfil : pfil_right bs ≡ true
  pub brands : mixed ≡ branded pmff f bs
