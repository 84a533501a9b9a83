-- `heading::ftyp::has_brand` meets its contract. The loop's invariant: no brand passed is the one, so those left
-- decide.
use Prim.Native.Nat.{◌+◌, ◌*◌, ◌-◌}
use mathlib.Core.Path.{◌≡◌}
use Rattle.heading.proofs.BrandLaws.{branded_from}
use Rattle.heading.proofs.ftyp.has_brand.Given as goal

abbrev pub invariant-loop-i : goal.invariant-loop-i
invariant-loop-i l = branded_from l.brand l.file l.brands l.from ≡ branded_from l.brand l.file (l.brands - l.i) (l.from + 4 * l.i)
