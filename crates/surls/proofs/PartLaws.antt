-- Laws of the bytes of a part.
use Prim.Native.Nat.{ℕ, ◌+◌, ◌-◌, min, zero-le}
use mathlib.Core.List.{List, []}
use mathlib.Core.Path.{◌≡◌, sym}
use native.Mathlib.Omega.{arith}
use lib.ListN.{length, take, drop, length-drop}
use Rattle.std.proofs.lemmas.List.{take_min, take_all}
use Rattle.std.proofs.Math.ListN.{drop_of_length-le}
use native.Mathlib.Decide.{dec_le}
use Rattle.partial.specs.Heading.{Part, bytes_in}

-- as far as the file has them, they are read where both ends are cut to the file's
pub part_read : (f : List ℕ) (p : Part) {from size : ℕ} → from ≡ min p.place (length f) → size ≡ min p.size (length f - from)
    → take (from + size - from) (drop from f) ≡ bytes_in f p
unfolding bytes_in
part_read f p {from} {size} start most =
    elim (dec_le p.place (length f)) [
      | yes inside ↦
          let same : from ≡ p.place = omega arith in
          let cut : from + size - from ≡ min p.size (length (drop p.place f)) = rw (length-drop) (omega arith) in
          rw (cut, same) (take_min p.size (drop p.place f))
      | no past ↦
          let cut : from + size - from ≡ 0 = omega arith in
          rw (cut, drop_of_length-le f {i = p.place} (omega arith)) (sym (take_all p.size [] zero-le))
    ]
