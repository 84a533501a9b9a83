-- Which boxes are allowed outside `pdat`, by their types.
use mathlib.Core.Bool.{not, ◌||◌}
use mathlib.Core.Path.{◌≡◌}
use lib.Dec.{eqb}
use Rattle.boxes.specs.Framing.{box_of}
use Rattle.boxes.specs.Kinds.{ftyp, pfil, pseg, pdat, is}
use Rattle.boxes.specs.declared.framing.Framed.{Framed}
use Rattle.boxes.proofs.ToldLaws.{box_fields}
use Rattle.partial.specs.Mixed.{allowed}

pub allowed_tests : (b : Framed) → allowed (box_of b) ≡ not (eqb b.kind.code ftyp.code || eqb b.kind.code pfil.code || eqb b.kind.code pseg.code || eqb b.kind.code pdat.code)
unfolding allowed is
allowed_tests b = rw box_fields
