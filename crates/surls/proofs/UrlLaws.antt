-- Laws of the URLs of containers, as two walks meet them.
use Prim.Native.Nat.{ℕ, ◌≤◌}
use mathlib.Core.Bool.{Bool, true, false, ◌&&◌}
use mathlib.Core.List.{List, [], ◌∷◌}
use mathlib.Core.Path.{◌≡◌, refl, ap, ap₂, ◌∙◌}
use lib.Dec.{eqb}
use lib.ListN.{length}
use lib.Pointwise.{pointwise}
use Rattle.boxes.specs.Framing.{Box, box_of}
use Rattle.boxes.specs.Kinds.{surl, those}
use Rattle.boxes.specs.declared.framing.Framed.{Framed}
use Rattle.partial.specs.Heading.{url}
use Rattle.partial.specs.Heading.{bytes_in}
use Rattle.boxes.specs.declared.walk.Walk.{Walk}
use Rattle.surls.specs.Next.{Meets}
use Rattle.surls.specs.Parts.{part_of, Within}
use Rattle.surls.proofs.WithinLaws.{further_within}
use Rattle.partial.specs.Heading.{urls_in}
use Rattle.partial.specs.Sources.{same_list, same_text, same_urls}
use Rattle.surls.specs.declared.part.Part as Stated

-- ---- texts held against each other byte by byte

pub text_compared : (xs ys : List ℕ) → pointwise eqb xs ys ≡ same_text xs ys
unfolding same_text same_list
text_compared [] [] = refl
text_compared [] (y ∷ ys) = refl
text_compared (x ∷ xs) [] = refl
text_compared (x ∷ xs) (y ∷ ys) = ap (λ (rest : Bool). eqb x y && rest) (text_compared xs ys)

-- ---- the URLs of two boxes

-- those of the boxes that two walks met, each in its container, held against each other by their bytes
pub urls_told : {f : List ℕ} {v w v' w' : Walk} {a b : Framed} {p q : Stated.Part} {xs ys : List ℕ} {same : Bool} → (v.end.0 ≤ length f) × (w.end.0 ≤ length f) → Meets f v a v'
    → Meets f w b w'
    → (Within (length f) a → part_of p ≡ url f (box_of a))
    → (Within (length f) b → part_of q ≡ url f (box_of b))
    → xs ≡ bytes_in f (part_of p)
    → ys ≡ bytes_in f (part_of q)
    → same ≡ pointwise eqb xs ys
    → same ≡ same_text (bytes_in f (url f (box_of a))) (bytes_in f (url f (box_of b)))
urls_told {f} {xs = xs} {ys = ys} (inside, inside') a b url-a url-b first second told =
    told
    ∙ text_compared xs ys
    ∙ ap₂ same_text (first ∙ ap (bytes_in f) (url-a (further_within inside a.within))) (second ∙ ap (bytes_in f) (url-b (further_within inside' b.within)))

-- ---- the lists of two containers, by their first `surl` boxes

module _ (f : List ℕ) (bs cs : List Box) where
  pub both_none : those surl bs ≡ [] → those surl cs ≡ [] → same_urls (urls_in f bs) (urls_in f cs) ≡ true
  unfolding urls_in same_urls same_list
  both_none none none' = rw (none, none')

  pub first_none : {c : Box} {more : List Box} → those surl bs ≡ [] → those surl cs ≡ c ∷ more → same_urls (urls_in f bs) (urls_in f cs) ≡ false
  unfolding urls_in same_urls same_list
  first_none none one = rw (none, one)

  pub second_none : {b : Box} {more : List Box} → those surl bs ≡ b ∷ more → those surl cs ≡ [] → same_urls (urls_in f bs) (urls_in f cs) ≡ false
  unfolding urls_in same_urls same_list
  second_none one none = rw (one, none)

  module _ {b c : Box} (bs' cs' : List Box) (one : those surl bs ≡ b ∷ those surl bs') (other : those surl cs ≡ c ∷ those surl cs') where
    pub first_differs : same_text (bytes_in f (url f b)) (bytes_in f (url f c)) ≡ false → same_urls (urls_in f bs) (urls_in f cs) ≡ false
    unfolding urls_in same_urls same_list
    first_differs differs = rw (one, other, differs)

    pub first_same : same_text (bytes_in f (url f b)) (bytes_in f (url f c)) ≡ true → same_urls (urls_in f bs) (urls_in f cs) ≡ same_urls (urls_in f bs') (urls_in f cs')
    unfolding urls_in same_urls same_list
    first_same same = rw (one, other, same)
