-- Laws of the texts of `surl` boxes: each with the zero byte that closes it, and those that a list of lengths cuts.
use Prim.Native.Nat.{ℕ, suc, ◌+◌, ◌-◌, ◌*◌, ◌/◌, ◌≤◌, ◌<◌, min}
use mathlib.Core.List.{List, [], ◌∷◌, ◌++◌, append_assoc}
use mathlib.Core.Path.{◌≡◌, refl, sym, ap, ◌∙◌}
use native.Mathlib.Omega.{arith}
use lib.ListN.{length, take, drop, get_or, length-drop, length-append}
use lib.Seq.{drop-cons}
use Rattle.numerals.specs.Numbers.{bytes_of}
use Rattle.additions.specs.Addition.{surls_of}
use Rattle.additions.specs.Append.{surl_boxes}
use Rattle.additions.specs.Begin.{surl_box}
use Rattle.outside.proofs.ItemLaws.{data-part, data-behind}
use Rattle.puts.proofs.PieceLaws.{Partly}

-- two texts, each with its zero byte
pub texts_closed : (url mime : List ℕ) → (url ++ (0 ∷ [])) ++ (mime ++ (0 ∷ [])) ≡ url ++ (0 ∷ (mime ++ (0 ∷ [])))
texts_closed url mime = append_assoc url (0 ∷ []) (mime ++ (0 ∷ []))

-- the zero byte that closes a text
pub closing : bytes_of 1 0 ≡ 0 ∷ []
unfolding bytes_of
closing = refl

-- ---- the loop

-- two lengths and those behind them
lengths_from : (lengths : List ℕ) (i : ℕ) → i < length lengths / 2
    → drop (2 * i) lengths ≡ get_or lengths (2 * i) 0 ∷ get_or lengths (2 * i + 1) 0 ∷ drop (2 * (i + 1)) lengths
lengths_from lengths i less =
    let next : suc (2 * i) ≡ 2 * i + 1 = omega arith in
    let last : suc (2 * i + 1) ≡ 2 * (i + 1) = omega arith in
    drop-cons lengths (2 * i) 0 (omega arith)
    ∙ ap (λ (n : ℕ). get_or lengths (2 * i) 0 ∷ drop n lengths) next
    ∙ ap (λ (rest : List ℕ). get_or lengths (2 * i) 0 ∷ rest) (drop-cons lengths (2 * i + 1) 0 (omega arith) ∙ ap (λ (n : ℕ). get_or lengths (2 * i + 1) 0 ∷ drop n lengths) last)

-- the boxes of the texts from a byte on, by the lengths from a pair on
abbrev pub boxes_from : List ℕ → List ℕ → ℕ → ℕ → List ℕ
boxes_from texts lengths from i = surl_boxes (surls_of (drop from texts) (drop (2 * i) lengths))

module _ (texts lengths : List ℕ) where
  module _ (i from : ℕ) (less : i < length lengths / 2) {middle end : ℕ}
      (first : middle ≡ min (from + get_or lengths (2 * i) 0) (length texts)) (second : end ≡ min (middle + get_or lengths (2 * i + 1) 0) (length texts)) where
    abbrev pub box : List ℕ
    box = surl_box (take (middle - from) (drop from texts)) (take (end - middle) (drop middle texts))

    pub boxes_step : boxes_from texts lengths from i ≡ box ++ boxes_from texts lengths end (i + 1)
    unfolding surls_of surl_boxes
    boxes_step =
        let u = get_or lengths (2 * i) 0 in
        let m = get_or lengths (2 * i + 1) 0 in
        rw (
          lengths_from lengths i less,
          data-part texts from u first,
          ← data-behind texts from u first,
          data-part texts middle m second,
          ← data-behind texts middle m second,
        )

  pub boxes_done : (i from : ℕ) → length lengths / 2 ≤ i → boxes_from texts lengths from i ≡ []
  unfolding surls_of surl_boxes
  boxes_done i from past = short (drop (2 * i) lengths) (omega (arith, length-drop (2 * i) lengths))
    where
      short : (rest : List ℕ) → length rest ≤ 1 → surl_boxes (surls_of (drop from texts) rest) ≡ []
      short [] few = refl
      short (n ∷ []) few = refl
      short (n ∷ m ∷ rest) few = absurd (omega arith)

  -- before a pair: the boxes of those before it are put
  abbrev pub Midway : List ℕ → ℕ → List ℕ → ℕ → ℕ → ℕ → Type 0
  Midway buffer₀ at buffer next from i = Partly (surl_boxes (surls_of texts lengths)) buffer₀ at buffer next (boxes_from texts lengths from i)

  -- what is left is no longer than all
  pub left_small : (from i : ℕ) {buffer₀ buffer : List ℕ} {at next : ℕ} → Midway buffer₀ at buffer next from i
      → length (boxes_from texts lengths from i) ≤ length (surl_boxes (surls_of texts lengths))
  left_small from i m = omega (arith, sym (ap length m.whole) ∙ length-append m.done (boxes_from texts lengths from i))
