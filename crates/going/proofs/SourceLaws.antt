-- Laws of the source of texts, by the lists that are known.
use Prim.Native.Nat.{ℕ, ◌≤◌, ◌<◌}
use mathlib.Core.Bool.{Bool, true, false, true≢false}
use mathlib.Core.List.{List, [], ◌∷◌, Memᴰ}
use mathlib.Core.Path.{◌≡◌, refl, sym, ap, subst, ◌∙◌}
use native.Mathlib.Omega.{arith}
use lib.ListN.{length}
use Rattle.boxes.specs.Answer.{given}
use Rattle.boxes.specs.Bodies.{boxes_of}
use Rattle.boxes.specs.Framing.{Box}
use Rattle.additions.specs.Addition.{surls_of}
use Rattle.partial.specs.Heading.{Heading, urls_in}
use Rattle.partial.specs.ReadingDemands.{Numbered}
use Rattle.partial.specs.Segments.{Segment}
use Rattle.partial.specs.Sources.{urls_for, same_urls, source_beside, of_source, of_urls}
use Rattle.partial.specs.Texts.{list_boxes}
use Rattle.partial.proofs.Meaning.SameLaws.{urls_equal, urls_same}
use Rattle.partial.proofs.Meaning.SourceLaws.{member_of, beside_there, of_urls_member}
use Rattle.boxes.specs.declared.body.Body.{Body}
use Rattle.sources.specs.Held.{Stands, ListHeld}
use Rattle.going.specs.Texts.{urls_of}

module _ (f : List ℕ) (h : Heading) (ss : List Segment) (numbered : Numbered ss) (us : List (List ℕ)) {n : ℕ} {list : Body} (held : ListHeld f h ss n list) {one : Body} {r : Bool}
    (is : one ≡ list) (told : (bs : List Box) → boxes_of f one ≡ given bs → one.end.0 ≤ length f → r ≡ same_urls (urls_in f bs) us) where
  said : r ≡ same_urls (urls_in f (list_boxes h held.first)) us
  said =
      let stands = subst (λ (b : Body). Stands f b (list_boxes h held.first)) (sym is) held.stands in
      told _ stands.boxes stands.inside

  first_there : Memᴰ held.first (of_source n ss)
  first_there = rw held.leads (Memᴰ.head refl)

  pub text_same : r ≡ true → n ≡ source_beside ss us
  text_same same =
      let (there, number) = member_of n ss held.first first_there in
      let urls : held.first.urls ≡ us = sym held.urls ∙ urls_equal _ _ (sym said ∙ same) in
      sym number ∙ sym (beside_there ss numbered held.first there) ∙ ap (source_beside ss) urls

  pub text_other : r ≡ false → source_beside ss us ≡ n → ⊥
  unfolding of_urls
  text_other differs here =
      let (_, urls) = (of_urls_member ss numbered us held.first).0 (rw here first_there) in
      true≢false (sym (urls_same _ _ (held.urls ∙ urls)) ∙ sym said ∙ differs)

-- with a list of lengths or without
pub few_urls : (texts lengths : List ℕ) (us : List (List ℕ)) → length lengths < 2 → urls_for (urls_of texts lengths) us ≡ us
unfolding urls_for surls_of
few_urls texts [] us few = refl
few_urls texts (n ∷ []) us few = refl
few_urls texts (n ∷ m ∷ rest) us few = absurd (omega arith)

pub some_urls : (texts lengths : List ℕ) (us : List (List ℕ)) → 2 ≤ length lengths → urls_for (urls_of texts lengths) us ≡ urls_of texts lengths
unfolding urls_for surls_of
some_urls texts [] us some = absurd (omega arith)
some_urls texts (n ∷ []) us some = absurd (omega arith)
some_urls texts (n ∷ m ∷ rest) us some = refl

pub any_urls : (texts lengths : List ℕ) (us : List (List ℕ)) → 2 ≤ length lengths → 0 < length (urls_for (urls_of texts lengths) us)
unfolding urls_for surls_of
any_urls texts [] us some = absurd (omega arith)
any_urls texts (n ∷ []) us some = absurd (omega arith)
any_urls texts (n ∷ m ∷ rest) us some = omega arith
