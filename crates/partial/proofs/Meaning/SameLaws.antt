-- Laws of lists that are held against each other: the test says that they are equal exactly if they are.
use Prim.Native.Nat.{ℕ}
use mathlib.Core.Bool.{Bool, true, false, false≢true}
use mathlib.Core.List.{List, [], ◌∷◌}
use mathlib.Core.Path.{◌≡◌, refl, sym, ap, ap₂, subst, ◌∙◌}
use borrow.Author.Tests.{eq-eqb, eqb-true}
use Rattle.partial.proofs.Meaning.SequenceLaws.{both}
use Rattle.partial.specs.Sources.{same_list, same_text, same_urls}

-- a test passes exactly two that are equal
pub record Exact {A : Type 0} (same : A → A → Bool) : Type 0 where
  pub equal : (x y : A) → same x y ≡ true → x ≡ y
  pub alike : (x : A) → same x x ≡ true

module _ {A : Type 0} {same : A → A → Bool} (e : Exact same) where
  -- two that are not equal do not pass
  pub unequal : (x y : A) → (x ≡ y → ⊥) → same x y ≡ false
  unequal x y other = go (same x y) refl
    where
      go : (t : Bool) → same x y ≡ t → t ≡ false
      go true h = absurd (other (e.equal x y h))
      go false h = refl

  -- which of the two stands first does not count
  pub turned : (x y : A) → same x y ≡ same y x
  turned x y = go (same x y) refl
    where
      go : (t : Bool) → same x y ≡ t → t ≡ same y x
      go true h = sym (ap (λ (z : A). same z x) (sym (e.equal x y h)) ∙ e.alike x)
      go false h = sym (unequal y x (λ (back : y ≡ x). false≢true (sym h ∙ ap (same x) back ∙ e.alike x)))

  -- lists of them
  pub lists_exact : Exact (same_list same)
  unfolding same_list
  lists_exact = record { equal = equal; alike = alike }
    where
      equal : (xs ys : List A) → same_list same xs ys ≡ true → xs ≡ ys
      equal [] [] h = refl
      equal [] (y ∷ ys) h = absurd (false≢true h)
      equal (x ∷ xs) [] h = absurd (false≢true h)
      equal (x ∷ xs) (y ∷ ys) h =
          let (first, rest) = both (same x y) (same_list same xs ys) h in
          ap₂ ◌∷◌ (e.equal x y first) (equal xs ys rest)

      alike : (xs : List A) → same_list same xs xs ≡ true
      alike [] = refl
      alike (x ∷ xs) = rw (e.alike x) (alike xs)

-- texts, and lists of URLs
pub text_exact : Exact same_text
unfolding same_text
text_exact = lists_exact (record { equal = eqb-true; alike = λ n. eq-eqb n n refl })

pub urls_exact : Exact same_urls
unfolding same_urls
urls_exact = lists_exact text_exact

module _ (us vs : List (List ℕ)) where
  pub urls_equal : same_urls us vs ≡ true → us ≡ vs
  urls_equal = urls_exact.equal us vs

  pub urls_same : us ≡ vs → same_urls us vs ≡ true
  urls_same e = subst (λ (ws : List (List ℕ)). same_urls us ws ≡ true) e (urls_exact.alike us)

  pub urls_turned : same_urls us vs ≡ same_urls vs us
  urls_turned = turned urls_exact us vs
