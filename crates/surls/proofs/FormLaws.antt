-- Laws of the form of `surl` boxes and of their texts, as they are tested on boxes that were read.
use Prim.Native.Nat.{ℕ, ◌+◌, ◌≤◌}
use mathlib.Core.Bool.{Bool, true, false, ◌&&◌}
use mathlib.Core.List.{List, [], ◌∷◌}
use mathlib.Core.Path.{◌≡◌, ap}
use native.Mathlib.Omega.{arith}
use lib.Dec.{leb, eqb}
use Rattle.numerals.specs.Numbers.{number}
use Rattle.boxes.specs.Framing.{Box, box_of}
use Rattle.boxes.specs.Kinds.{surl, is, those}
use Rattle.boxes.specs.declared.framing.Framed.{Framed}
use Rattle.boxes.proofs.KindLaws.{those-nil, those_one, those_other}
use Rattle.boxes.proofs.ToldLaws.{box_fields}
use Rattle.partial.specs.Heading.{text, url, mime, surl_formed}
use Rattle.partial.specs.Sequences.{all_of}
use Rattle.surls.specs.Parts.{part_of}
use Rattle.surls.specs.declared.part.Part as Stated
use Rattle.surls.proofs.TextLaws.{text_most}

module _ (f : List ℕ) (b : Framed) where
  pub url-text : url f (box_of b) ≡ text f (b.body.0 + 4) b.end.0
  unfolding url
  url-text = rw (box_fields b)

  pub mime-text : mime f (box_of b) ≡ text f ((url f (box_of b)).place + (url f (box_of b)).size + 1) b.end.0
  unfolding mime
  mime-text = rw (box_fields b)

  pub surl_tests : surl_formed f (box_of b)
      ≡ (leb (b.body.0 + 4) b.end.0 && eqb (number f b.body.0 4) 0 && eqb ((mime f (box_of b)).place + (mime f (box_of b)).size + 1) b.end.0)
  unfolding surl_formed
  surl_tests = rw (box_fields b)

  -- the texts end by the box's end, or at their own start if that is further on
  module _ (whole : b.body.0 ≤ b.end.0) where
    pub url_ends : (url f (box_of b)).place + (url f (box_of b)).size ≤ b.end.0 + 4
    unfolding text
    url_ends = rw url-text (omega (arith, text_most f (b.body.0 + 4) b.end.0))

    pub mime_ends : (mime f (box_of b)).place + (mime f (box_of b)).size ≤ b.end.0 + 5
    unfolding text
    mime_ends = rw mime-text (omega (arith, url_ends, text_most f ((url f (box_of b)).place + (url f (box_of b)).size + 1) b.end.0))

-- the same of a part that was found to be its MIME text
pub mime_part_ends : (f : List ℕ) (b : Framed) (p : Stated.Part) → b.body.0 ≤ b.end.0 → part_of p ≡ mime f (box_of b) → p.place.0 + p.size ≤ b.end.0 + 5
mime_part_ends f b p whole same = omega (arith, mime_ends f b whole, ap (λ p. p.place) same, ap (λ p. p.size) same)

-- whether each `surl` among the boxes is well-formed
abbrev pub all_formed : List ℕ → List Box → Bool
all_formed f bs = all_of (surl_formed f) (those surl bs)

module _ (f : List ℕ) where
  pub formed_none : all_formed f [] ≡ true
  unfolding all_of
  formed_none = rw (those-nil surl)

  module _ (b : Box) (rest : List Box) where
    pub formed_other : is surl b ≡ false → all_formed f (b ∷ rest) ≡ all_formed f rest
    formed_other other = rw (those_other surl b rest other)

    module _ (one : is surl b ≡ true) where
      pub formed_one : surl_formed f b ≡ true → all_formed f (b ∷ rest) ≡ all_formed f rest
      unfolding all_of
      formed_one formed = rw (those_one surl b rest one, formed)

      pub formed_ill : surl_formed f b ≡ false → all_formed f (b ∷ rest) ≡ false
      unfolding all_of
      formed_ill ill = rw (those_one surl b rest one, ill)
