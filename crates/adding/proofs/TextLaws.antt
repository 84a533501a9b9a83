-- Laws of texts: whether one has a zero byte, how many `surl` boxes they are for, and how long these are.
use Prim.Native.Nat.{ℕ, suc, ◌+◌, ◌-◌, ◌*◌, ◌/◌, ◌%◌, ◌^◌, ◌≤◌, ◌<◌, min}
use mathlib.Core.Bool.{Bool, true, false, not, ◌&&◌, ◌||◌}
use Rattle.std.specs.List.{list_any}
use mathlib.Core.List.{List, [], ◌∷◌, ◌++◌}
use mathlib.Core.Logic.{inl, inr}
use mathlib.Core.Path.{◌≡◌, refl, sym, ap, ◌∙◌}
use native.Mathlib.Omega.{arith}
use borrow.Author.Tests.{eq-eqb, ne_eqb, eqb-true, eqb-false}
use lib.Dec.{eqb}
use lib.ListN.{length, drop, get_or, length-append, drop_of_length-le}
use lib.Seq.{drop-cons}
use Rattle.boxes.proofs.BoxedLaws.{front-size, length-boxed}
use Rattle.boxes.specs.Kinds.{surl}
use Rattle.additions.specs.Addition.{Addition, lengths_right, texts_right, surls_of, surls}
use Rattle.partial.specs.Texts.{Surl, texts_for}
use Rattle.additions.specs.Append.{surl_boxes}
use Rattle.additions.proofs.SurlLaws.{surl_long, cut-joined}
use Rattle.additions.specs.Begin.{is_text, surl_body, surl_box}
use Rattle.partial.specs.Sequences.{all_of, sum}
use Rattle.partial.proofs.Meaning.SequenceLaws.{which}

-- no byte is zero where none is found
pub text_none : (s : List ℕ) → not (list_any (λ b. eqb b 0) s) ≡ is_text s
unfolding is_text all_of
text_none [] = refl
text_none (b ∷ bs) = go (eqb b 0) _ (text_none bs)
  where
    go : (zero : Bool) (rest : Bool) {all : Bool} → not rest ≡ all → not (zero || rest) ≡ (not zero && all)
    go true rest e = refl
    go false rest e = e

-- ---- the sum of the lengths

-- with one more, cut where 64 bits end
pub sum_more : (lengths : List ℕ) (i n top : ℕ) → i < length lengths
    → min (min (n + get_or lengths i 0) top + sum (drop (i + 1) lengths)) top ≡ min (n + sum (drop i lengths)) top
unfolding sum
sum_more lengths i n top inside =
    let next : suc i ≡ i + 1 = omega arith in
    let here = drop-cons lengths i 0 inside ∙ ap (λ (k : ℕ). get_or lengths i 0 ∷ drop k lengths) next in
    omega (arith, ap sum here)

-- of all
pub sum_done : (lengths : List ℕ) (i : ℕ) → length lengths ≤ i → sum (drop i lengths) ≡ 0
unfolding sum
sum_done lengths i past = ap sum (drop_of_length-le lengths {i = i} past)

-- a number below the cut is the sum or not, cut or whole
pub whole_cut : (n m : ℕ) → n < 2 ^ 64 - 1 → eqb n (min m (2 ^ 64 - 1)) ≡ eqb n m
whole_cut n m low =
    elim (which (eqb n m)) [
      | inl e ↦ eq-eqb n (min m (2 ^ 64 - 1)) (omega (arith, eqb-true n m e)) ∙ sym e
      | inr e ↦
          let other = eqb-false n m e in
          ne_eqb n (min m (2 ^ 64 - 1)) (λ same. other (omega arith)) ∙ sym e
    ]

-- ---- the boxes

-- there is one for each two lengths
pub surls_half : (texts lengths : List ℕ) → length (surls_of texts lengths) ≡ length lengths / 2
unfolding surls_of
surls_half texts [] = refl
surls_half texts (urlLength ∷ []) = refl
surls_half texts (urlLength ∷ mimeLength ∷ rest) = omega (arith, surls_half (drop mimeLength (drop urlLength texts)) rest)

-- each has fourteen bytes and its two texts
boxes_long : (ss : List Surl) → length (surl_boxes ss) ≡ 14 * length ss + length (texts_for ss)
unfolding surl_boxes texts_for
boxes_long [] = refl
boxes_long (s ∷ ss) =
    omega (
      arith,
      length-append (surl_box s.url s.mime) (surl_boxes ss),
      length-boxed surl.code (surl_body s.url s.mime),
      front-size,
      surl_long s.url s.mime,
      length-append s.url (s.mime ++ texts_for ss),
      length-append s.mime (texts_for ss),
      boxes_long ss,
    )

pub surls_long : (a : Addition) → lengths_right a.lengths ≡ true → texts_right a ≡ true → length (surl_boxes (surls a)) ≡ 14 * length (surls a) + length a.texts
unfolding lengths_right texts_right surls
surls_long a even whole =
    let joined = cut-joined a.texts a.lengths (eqb-true (length a.lengths % 2) 0 even) (eqb-true (length a.texts) (sum a.lengths) whole) in
    omega (arith, boxes_long (surls_of a.texts a.lengths), ap length joined.0)
