-- Laws of the URLs of a container, held against texts.
use Prim.Native.Nat.{ℕ, suc, ◌+◌, ◌-◌, ◌*◌, ◌/◌, ◌≤◌, ◌<◌, min}
use mathlib.Core.Bool.{true, false}
use mathlib.Core.List.{List, [], ◌∷◌, map}
use mathlib.Core.Logic.{inl, inr}
use Rattle.std.specs.Prelude.{Option, None, Some}
use mathlib.Core.Path.{◌≡◌, refl, sym, ap, subst, ◌∙◌}
use native.Mathlib.Omega.{arith}
use borrow.Author.Tests.{leb-true, leb-false}
use lib.Dec.{leb, eqb}
use lib.Pointwise.{pointwise}
use lib.ListN.{length, take, drop, get_or, length-drop}
use lib.Seq.{drop-cons}
use Rattle.boxes.specs.Framing.{Box, box_of}
use Rattle.boxes.specs.Kinds.{surl, is}
use Rattle.boxes.specs.declared.framing.Framed.{Framed}
use Rattle.boxes.proofs.KindLaws.{those-nil, those_one, those_other}
use Rattle.additions.specs.Addition.{surls_of}
use Rattle.partial.specs.Heading.{url, bytes_in, urls_in}
use Rattle.surls.specs.Parts.{part_of, Within}
use Rattle.surls.specs.declared.part.Part.{Part}
use Rattle.surls.proofs.UrlLaws.{text_compared}
use Rattle.partial.specs.Sources.{same_list, same_text, same_urls}
use Rattle.partial.proofs.Meaning.SequenceLaws.{which}
use Rattle.outside.proofs.ItemLaws.{data-part, data-behind}
use Rattle.going.specs.Texts.{urls_from, left_same, Passes}
use Rattle.going.specs.declared.texts.Cut.{Cut}

-- the URL of a box against a text
pub url_compared : (f : List ℕ) (b : Framed) (p : Part) {xs : List ℕ} (ys : List ℕ) → Within (length f) b → (Within (length f) b → part_of p ≡ url f (box_of b))
    → xs ≡ bytes_in f (part_of p)
    → pointwise eqb xs ys ≡ same_text (bytes_in f (url f (box_of b))) ys
url_compared f b p ys within told bytes =
    text_compared _ ys ∙ ap (λ (xs : List ℕ). same_text xs ys) (bytes ∙ ap (bytes_in f) (told within))

-- ---- a box against the texts that are left

-- two lengths and those behind them
lengths_from : (lengths : List ℕ) (i : ℕ) → i < length lengths / 2
    → drop (2 * i) lengths ≡ get_or lengths (2 * i) 0 ∷ get_or lengths (2 * i + 1) 0 ∷ drop (2 * (i + 1)) lengths
lengths_from lengths i less =
    let next : suc (2 * i) ≡ 2 * i + 1 = omega arith in
    let last : suc (2 * i + 1) ≡ 2 * (i + 1) = omega arith in
    drop-cons lengths (2 * i) 0 (omega arith)
    ∙ ap (λ (n : ℕ). get_or lengths (2 * i) 0 ∷ drop n lengths) next
    ∙ ap (λ (rest : List ℕ). get_or lengths (2 * i) 0 ∷ rest) (drop-cons lengths (2 * i + 1) 0 (omega arith) ∙ ap (λ (n : ℕ). get_or lengths (2 * i + 1) 0 ∷ drop n lengths) last)

urls_short : (texts rest : List ℕ) → length rest ≤ 1 → map (λ s. s.url) (surls_of texts rest) ≡ []
unfolding surls_of
urls_short texts [] few = refl
urls_short texts (n ∷ []) few = refl
urls_short texts (n ∷ m ∷ rest) few = absurd (omega arith)

module _ (f texts lengths : List ℕ) (cut : Cut) where
  -- none are left
  pub urls_none : length lengths / 2 ≤ cut.pair → urls_from texts lengths cut ≡ []
  urls_none past = urls_short (drop cut.from texts) (drop (2 * cut.pair) lengths) (omega (arith, length-drop (2 * cut.pair) lengths))

  -- one and those behind it
  pub urls_more : cut.pair < length lengths / 2 → {middle end : ℕ} → middle ≡ min (cut.from + get_or lengths (2 * cut.pair) 0) (length texts)
      → end ≡ min (middle + get_or lengths (2 * cut.pair + 1) 0) (length texts)
      → urls_from texts lengths cut
      ≡ take (middle - cut.from) (drop cut.from texts) ∷ urls_from texts lengths (record { from = end; pair = cut.pair + 1 })
  unfolding surls_of
  urls_more less {middle} first second =
      let u = get_or lengths (2 * cut.pair) 0 in
      let m = get_or lengths (2 * cut.pair + 1) 0 in
      rw (
        lengths_from lengths cut.pair less,
        data-part texts cut.from u first,
        ← data-behind texts cut.from u first,
        ← data-behind texts middle m second,
      )

  module _ (b : Framed) where
    -- any other box is passed
    pub past_other : is surl (box_of b) ≡ false → (rest : List Box) → left_same f texts lengths cut (box_of b ∷ rest) ≡ left_same f texts lengths cut rest
    unfolding urls_in
    past_other other rest = rw (those_other surl (box_of b) rest other)

    module _ (one : is surl (box_of b) ≡ true) (rest : List Box) where
      pub past_none : length lengths / 2 ≤ cut.pair → left_same f texts lengths cut (box_of b ∷ rest) ≡ false
      unfolding urls_in same_urls same_list
      past_none none = rw (those_one surl (box_of b) rest one, urls_none none)

      module _ {u : List ℕ} (left : Cut) (more : urls_from texts lengths cut ≡ u ∷ urls_from texts lengths left) where
        pub past_differs : same_text (bytes_in f (url f (box_of b))) u ≡ false → left_same f texts lengths cut (box_of b ∷ rest) ≡ false
        unfolding urls_in same_urls same_list
        past_differs differs = rw (those_one surl (box_of b) rest one, more, differs)

        pub past_same : same_text (bytes_in f (url f (box_of b))) u ≡ true → left_same f texts lengths cut (box_of b ∷ rest) ≡ left_same f texts lengths left rest
        unfolding urls_in same_urls same_list
        past_same same = rw (those_one surl (box_of b) rest one, more, same)

  -- at the end of the container both lists end, or they are not the same
  end_same : length lengths / 2 ≤ cut.pair → left_same f texts lengths cut [] ≡ true
  unfolding urls_in same_urls same_list
  end_same past = rw (those-nil surl, urls_none past)

  end_differs : cut.pair < length lengths / 2 → left_same f texts lengths cut [] ≡ false
  unfolding urls_in same_urls same_list
  end_differs less = rw (those-nil surl, urls_more less refl refl)

  pub end_told : leb (length lengths / 2) cut.pair ≡ left_same f texts lengths cut []
  end_told =
      elim (which (leb (length lengths / 2) cut.pair)) [
        | inl e ↦ e ∙ sym (end_same (leb-true (length lengths / 2) cut.pair e))
        | inr e ↦ e ∙ sym (end_differs (leb-false (length lengths / 2) cut.pair e))
      ]

-- what each answer about a box says
module _ (f texts lengths : List ℕ) (b : Framed) (cut : Cut) (r : Option Cut) (passes : Passes f b texts lengths cut r) where
  pub passed_on : {left : Cut} → r ≡ Some left → Passes f b texts lengths cut (Some left)
  passed_on e = subst (Passes f b texts lengths cut) e passes

  pub passed_off : r ≡ None → Passes f b texts lengths cut None
  passed_off e = subst (Passes f b texts lengths cut) e passes
