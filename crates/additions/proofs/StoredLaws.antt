-- Laws of the data that an addition stores before its `pseg`: the bytes of each present item stand where it is placed.
use Prim.Native.Nat.{ℕ, ◌+◌, ◌-◌, ◌≤◌, ◌<◌}
use mathlib.Core.Bool.{Bool, true, false, true≢false}
use mathlib.Core.List.{List, [], ◌∷◌, ◌++◌}
use mathlib.Core.Logic.{inl, inr}
use mathlib.Core.Path.{◌≡◌, sym, ap, subst, ◌∙◌}
use native.Mathlib.Nat.{add-zero}
use native.Mathlib.Omega.{arith}
use lib.ListN.{length, get_or, take, drop, length-append, length-drop}
use lib.Seq.{length-take-le, get_or-take}
use Rattle.partial.specs.Segments.{present}
use Rattle.additions.specs.Addition.{Item, items, Addition, size_of, data_size, data_right, goes_out, goes_in, data_for}
use Rattle.additions.specs.Append.{inside_data, outside_data, stored, back, pseg_place}
use Rattle.partial.proofs.Meaning.SequenceLaws.{which}
use Rattle.additions.proofs.StandsLaws.{Stands, stands_behind, stands_left, stands_right, part_stands}
use Rattle.additions.proofs.DataLaws.{outside, inside, nowhere, goes, out_present, in-present, size_on, size_past, size_less}
use Rattle.additions.proofs.DataLaws.{data_here, data_cons, data_one, data_length, length_inside, length_outside, stored_last}
use Rattle.additions.proofs.PlacedLaws.{back_out, back_in, back_most}

-- the data of the items that pass a test, from the first on
module _ (test : Item → Bool) (i : Item) (is : List Item) (bytes : List ℕ) where
  for_on : test i ≡ true → data_for test (i ∷ is) bytes ≡ take (data_size (i ∷ [])) bytes ++ data_for test is (drop (data_size (i ∷ [])) bytes)
  unfolding data_for
  for_on e = rw e

  for_past : test i ≡ false → data_for test (i ∷ is) bytes ≡ data_for test is (drop (data_size (i ∷ [])) bytes)
  unfolding data_for
  for_past e = rw e

-- where it ends so many bytes before a place
module _ (g : List ℕ) (at behind : ℕ) (test : Item → Bool) (only : (i : Item) → test i ≡ true → present i.state ≡ true)
    (i : Item) (is : List Item) (bytes : List ℕ) (stand : Stands g (at - (size_of test (i ∷ is) + behind)) (data_for test (i ∷ is) bytes)) where
  abbrev from : ℕ
  from = at - (size_of test (i ∷ is) + behind)

  abbrev many : ℕ
  many = data_size (i ∷ [])

  parts : test i ≡ true → Stands g from (take many bytes ++ data_for test is (drop many bytes))
  parts e = subst (λ (s : List ℕ). Stands g from s) (for_on test i is bytes e) stand

  -- that of the first
  ends_first : test i ≡ true → Stands g from (take i.size bytes)
  ends_first e = subst (λ (n : ℕ). Stands g from (take n bytes)) (data_one i (only i e)) (stands_left g from (take many bytes) _ (parts e))

  -- that of the others
  ends_rest : size_of test (i ∷ is) + behind ≤ at → data_size (i ∷ is) ≤ length bytes → Stands g (at - (size_of test is + behind)) (data_for test is (drop many bytes))
  ends_rest low enough =
      let rest : List ℕ = data_for test is (drop many bytes) in
      elim (which (test i)) [
        | inl e ↦
            let long = length-take-le many bytes (omega (arith, data_cons i is)) in
            let place : from + length (take many bytes) ≡ at - (size_of test is + behind) = omega (arith, size_on test i is e, data_one i (only i e)) in
            subst (λ (q : ℕ). Stands g q rest) place (stands_right g from (take many bytes) rest (parts e))
        | inr e ↦
            let place : from ≡ at - (size_of test is + behind) = omega (arith, size_past test i is e) in
            subst (λ (q : ℕ). Stands g q rest) place (subst (λ (s : List ℕ). Stands g from s) (for_past test i is bytes e) stand)
      ]

-- items whose data stands in a file before a place, that which goes outside behind the rest
pub record Stored (g : List ℕ) (at : ℕ) (o : Bool) (out : ℕ) (is : List Item) (bytes : List ℕ) : Type 0 where
  pub enough : data_size is ≤ length bytes
  pub low_in : size_of (goes_in o) is + out ≤ at
  pub low_out : size_of (goes_out o) is + 0 ≤ at
  pub ins : Stands g (at - (size_of (goes_in o) is + out)) (data_for (goes_in o) is bytes)
  pub outs : Stands g (at - (size_of (goes_out o) is + 0)) (data_for (goes_out o) is bytes)

module _ (g : List ℕ) (at : ℕ) (o : Bool) (out : ℕ) (i : Item) (is : List Item) (bytes : List ℕ) (s : Stored g at o out (i ∷ is) bytes) where
  -- the first lies within
  pub stored-within : back o out i is ≤ at
  stored-within = back_most o out i is at s.low_in (omega (arith, s.low_out))

  -- and has its bytes there
  module _ (there : present i.state ≡ true) where
    long_enough : i.size ≤ length bytes
    long_enough = omega (arith, data_here i is there, s.enough)

    stored_first : (i.size ≤ back o out i is) × Stands g (at - back o out i is) (take i.size bytes)
    stored_first =
        elim (goes o i) [
          | outside e into _ ↦
              let far : back o out i is ≡ size_of (goes_out o) (i ∷ is) + 0 = back_out o out i is e ∙ sym (add-zero _) in (
                omega (arith, size_on (goes_out o) i is e),
                subst (λ (n : ℕ). Stands g (at - n) (take i.size bytes)) (sym far) (ends_first g at 0 (goes_out o) (out_present o) i is bytes s.outs e),
              )
          | inside e into _ ↦
              let far = back_in o out i is into in (
                omega (arith, size_on (goes_in o) i is into),
                subst (λ (n : ℕ). Stands g (at - n) (take i.size bytes)) (sym far) (ends_first g at out (goes_in o) (in-present o) i is bytes s.ins into),
              )
          | nowhere e into none ↦ absurd (true≢false (sym there ∙ none))
        ]

    pub stored_byte : (j : ℕ) → j < i.size → get_or g (at - back o out i is + j) 0 ≡ get_or bytes j 0
    stored_byte j less =
        stored_first.1 j (omega (arith, length-take-le i.size bytes long_enough)) ∙ get_or-take i.size bytes j 0 less

    pub stored_part : at ≤ length g → take i.size (drop (at - back o out i is) g) ≡ take i.size bytes
    stored_part low =
        let long = length-take-le i.size bytes long_enough in
        let (less, stand) = stored_first in
        let within = stored-within in
        rw long at (part_stands g (at - back o out i is) (take i.size bytes) stand (omega arith))

  -- the others are stored as all were
  pub stored_rest : Stored g at o out is (drop (data_size (i ∷ [])) bytes)
  stored_rest =
      let less-in = size_less (goes_in o) i is in
      let less-out = size_less (goes_out o) i is in
      record {
        enough = rw length-drop (omega (arith, data_cons i is));
        low_in = omega arith;
        low_out = omega arith;
        ins = ends_rest g at out (goes_in o) (in-present o) i is bytes s.ins s.low_in s.enough;
        outs = ends_rest g at 0 (goes_out o) (out_present o) i is bytes s.outs s.low_out s.enough;
      }

-- so does the data of an addition, whatever stands behind it
pub stored-added : (f rest : List ℕ) (a : Addition) → data_right a ≡ true
    → Stored (f ++ (stored a ++ rest)) (pseg_place (length f) a) a.outside (size_of (goes_out a.outside) (items a.list)) (items a.list) a.bytes
unfolding pseg_place inside_data outside_data
stored-added f rest a right =
    let is = items a.list in
    let g : List ℕ = f ++ (stored a ++ rest) in
    let at = length f in
    let (head, parts) = stored_last a right in
    let ins = inside_data a in
    let outs = outside_data a in
    let long-in = length_inside a right in
    let long-out = length_outside a right in
    let long : length (stored a) ≡ length head + (length ins + length outs) = ap length parts ∙ simp length-append in
    let whole : Stands g at (head ++ (ins ++ outs)) = subst (λ (s : List ℕ). Stands g at s) parts (stands_left g at (stored a) rest (stands_behind f (stored a ++ rest))) in
    let both-parts = stands_right g at head (ins ++ outs) whole in
    let place_in : at + length head ≡ at + length (stored a) - (size_of (goes_in a.outside) is + size_of (goes_out a.outside) is) = omega arith in
    let place_out : at + length head + length ins ≡ at + length (stored a) - (size_of (goes_out a.outside) is + 0) = omega arith in
    record {
      enough = omega (arith, data_length a right);
      low_in = omega arith;
      low_out = omega arith;
      ins = subst (λ (q : ℕ). Stands g q ins) place_in (stands_left g (at + length head) ins outs both-parts);
      outs = subst (λ (q : ℕ). Stands g q outs) place_out (stands_right g (at + length head) ins outs both-parts);
    }
