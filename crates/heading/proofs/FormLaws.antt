-- Laws of the forms of `ftyp`, `pfil` and `pfhd`, as they are tested on a box that was read.
use Prim.Native.Nat.{ℕ, ◌+◌, ◌-◌, ◌%◌}
use mathlib.Core.Bool.{◌&&◌}
use mathlib.Core.List.{List}
use mathlib.Core.Path.{◌≡◌}
use lib.Dec.{leb, eqb}
use Rattle.boxes.specs.Framing.{Box, box_of}
use Rattle.boxes.specs.Kinds.{ftyp, pfil, is, right, box_at}
use Rattle.numerals.specs.Numbers.{number}
use Rattle.boxes.specs.declared.framing.Framed.{Framed}
use Rattle.boxes.specs.declared.kinds.Container.TheVariants.{File}
use Rattle.boxes.proofs.ToldLaws.{box_fields}
use Rattle.partial.specs.Heading.{ftyp_right, pfil_right, pfhd_formed}

module _ (b : Framed) (bs : List Box) where
  pub ftyp_tests : box_of b ≡ box_at 0 bs
      → ftyp_right bs ≡ (is ftyp (box_of b) && leb (b.body.0 + 8) b.end.0 && eqb ((b.end.0 - b.body.0) % 4) 0 && right File ftyp bs)
  unfolding ftyp_right
  ftyp_tests same = rw (← same, box_fields b)

  pub pfil_tests : box_of b ≡ box_at 1 bs → pfil_right bs ≡ (is pfil (box_of b) && right File pfil bs)
  unfolding pfil_right
  pfil_tests same = rw (← same)

module _ (f : List ℕ) (b : Framed) where
  pub pfhd_tests : pfhd_formed f (box_of b) ≡ (eqb (b.body.0 + 4) b.end.0 && eqb (number f b.body.0 1) 0)
  unfolding pfhd_formed
  pfhd_tests = rw (box_fields b)
