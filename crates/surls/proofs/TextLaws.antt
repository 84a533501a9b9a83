-- Laws of a text in the file: how long it is, by the first zero byte.
use Prim.Native.Nat.{ℕ, ◌+◌, ◌-◌, ◌≤◌, ◌<◌, min}
use mathlib.Core.Bool.{false, not}
use mathlib.Core.List.{List}
use mathlib.Core.Path.{◌≡◌, ap}
use native.Mathlib.Decide.{dec_le}
use native.Mathlib.Omega.{arith}
use lib.Dec.{eqb}
use lib.ListN.{length, get_or, get_or-eq_default, take, drop, length-take, length-drop}
use lib.Seq.{get_or-take, get_or-drop}
use Rattle.std.specs.List.{position_or_len}
use Rattle.std.proofs.lemmas.List.Sums.{prefix_len-le-length, prefix_len_passes, prefix_len_stops}
use Rattle.partial.specs.Heading.{text, bytes_in}
use Rattle.partial.proofs.Meaning.StretchLaws.{stretch_first, first_one}

module _ (f : List ℕ) (at end : ℕ) where
  -- of the bytes from there to the end, as far as the file has them, it is those before the first zero byte
  pub text-found : (n : ℕ) → n ≡ position_or_len (λ byte. eqb byte 0) (bytes_in f (record { place = at; size = end - at })) → record { place = at; size = n } ≡ text f at end
  unfolding text bytes_in
  text-found n found =
      let bytes = take (end - at) (drop at f) in
      let long : length bytes ≡ min (end - at) (length f - at) = simp (length-take, length-drop) in
      let few : n ≤ length bytes = rw found (prefix_len-le-length (λ byte. not (eqb byte 0)) bytes) in
      let there : (k : ℕ) → k < end - at → get_or bytes k 0 ≡ get_or f (at + k) 0 = λ k h. rw (get_or-take, get_or-drop) in
      ap (λ (n : ℕ). record { place = at; size = n })
      (first_one {value = false}
      (record {
        most = omega arith;
        before = λ k h. rw (← there k (omega arith)) (prefix_len_passes (λ byte. not (eqb byte 0)) bytes k 0 (omega arith));
        there = λ h.
            elim (dec_le (length f) (at + n)) [
              | yes past ↦ rw (get_or-eq_default f 0 past)
              | no inside ↦
                  let stops = prefix_len_stops (λ byte. not (eqb byte 0)) bytes 0 (rw (← found) (omega arith)) in
                  rw (← there n h) (rw (← found) at stops)
            ];
      })
      (stretch_first (λ i. not (eqb (get_or f i 0) 0)) (end - at) at))

  -- it ends by the end
  pub text_most : (text f at end).size ≤ end - at
  unfolding text
  text_most = (stretch_first (λ i. not (eqb (get_or f i 0) 0)) (end - at) at).most
