-- Laws of bytes as text: two hex digits hold a byte, which bytes are shown as they are, and bytes whose texts are put
-- one behind the other.
use Prim.Native.Nat.{ℕ, suc, ◌+◌, ◌-◌, ◌^◌, ◌≤◌, ◌<◌}
use mathlib.Core.Bool.{Bool, true, false}
use mathlib.Core.List.{List, [], ◌∷◌, ◌++◌, append-nil, append_assoc}
use mathlib.Core.Path.{◌≡◌, sym, ap, ◌∙◌}
use native.Mathlib.Decide.{dec_le}
use native.Mathlib.Nat.{pow-le-pow_right, zero-lt-suc, le_trans}
use native.Mathlib.Omega.{arith}
use lib.ListN.{length, take, get_or}
use lib.Seq.{take-suc, take-length}
use Rattle.filling.specs.Rows.{Puts}
use Rattle.filling.proofs.RowLaws.{put_none}
use Rattle.filling.proofs.PutsLaws.{puts_same, puts_more}
use Rattle.io.specs.Digits.{last_digits, IsDigitCount}
use Rattle.partial.specs.BoxList.{hex, prints, shown, each}
use Rattle.partial.specs.Map.{ascii}
use Rattle.boxlisting.specs.Bytes.{byte_text}

-- the fewest digits, two at least, that hold a byte are two
module _ (b k : ℕ) (byte : b < 256) (few : IsDigitCount 16 2 b k) where
  pub hex_two : k ≡ 2
  hex_two =
      elim (dec_le k 2) [
        | yes low ↦ omega (arith, few.0)
        | no more ↦
            let over : 2 ≤ k - 1 = omega arith in
            let above : 16 ^ 2 ≤ b = le_trans (pow-le-pow_right (zero-lt-suc 15) over) (few.2 (omega arith)) in
            absurd (omega arith)
      ]

  pub hex_by : last_digits 16 k b ≡ hex b
  unfolding hex
  hex_by = ap (λ (k : ℕ). last_digits 16 k b) hex_two

module _ (b : ℕ) where
  pub shown_plain : true ≡ prints b → b ∷ [] ≡ shown b
  unfolding shown
  shown_plain e = simp (shown, ← e)

  pub shown_coded : false ≡ prints b → (92 ∷ 120 ∷ []) ++ hex b ≡ shown b
  unfolding shown ascii
  shown_coded e = simp (shown, ← e)

  -- in one of the two ways
  pub in-digits : {way : Bool} → way ≡ true → hex b ≡ byte_text way b
  in-digits e = rw e

  pub as_shown : {way : Bool} → way ≡ false → shown b ≡ byte_text way b
  as_shown e = rw e

-- with one more
each_last : (text : ℕ → List ℕ) (bs : List ℕ) (b : ℕ) → each text (bs ++ (b ∷ [])) ≡ each text bs ++ text b
unfolding each
each_last text [] b = append-nil (text b)
each_last text (x ∷ bs) b = ap (text x ++◌) (each_last text bs b) ∙ sym (append_assoc (text x) (each text bs) (text b))

-- the texts of the first so many bytes are put
module _ (text : ℕ → List ℕ) (bytes s : List ℕ) (at : ℕ) where
  pub each_none : Puts s at (each text (take 0 bytes)) s at
  unfolding each
  each_none = record { put = put_none s at; end = omega arith }

  pub each_more : {t t' : List ℕ} {next next' : ℕ} (i : ℕ) → i < length bytes → Puts s at (each text (take i bytes)) t next → Puts t next (text (get_or bytes i 0)) t' next'
      → Puts s at (each text (take (i + 1) bytes)) t' next'
  each_more i less p q =
      let one : i + 1 ≡ suc i = omega arith in
      let more = ap (λ (n : ℕ). each text (take n bytes)) one ∙ ap (each text) (take-suc bytes i 0 less) ∙ each_last text (take i bytes) (get_or bytes i 0) in
      puts_same (sym more) (puts_more p q)

  pub each_all : {t : List ℕ} {next : ℕ} (i : ℕ) → i ≡ length bytes → Puts s at (each text (take i bytes)) t next → Puts s at (each text bytes) t next
  each_all i e p = puts_same (ap (λ (n : ℕ). each text (take n bytes)) e ∙ ap (each text) (take-length bytes)) p
