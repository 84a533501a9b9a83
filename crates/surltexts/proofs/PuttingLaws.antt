-- Laws of the texts of `surl` boxes that are put one behind the other: those of a box, and those that a walk has passed.
use Prim.Native.Nat.{ℕ, ◌+◌, ◌-◌, ◌^◌, ◌≤◌, ◌<◌, min}
use mathlib.Core.Bool.{true, false}
use mathlib.Core.List.{List, [], ◌∷◌, ◌++◌, append_assoc, append-nil}
use Rattle.std.specs.Prelude.{None, Some}
use mathlib.Core.Path.{◌≡◌, refl, sym, ap, subst, ◌∙◌}
use native.Mathlib.Omega.{arith}
use lib.ListN.{length, length-take, length-drop}
use Rattle.numerals.specs.Stored.{stored}
use Rattle.boxes.specs.Answer.{given}
use Rattle.boxes.specs.Framing.{Box, boxes_in, box_of}
use Rattle.boxes.specs.Kinds.{surl, is}
use Rattle.boxes.specs.Walk.{walk_over, stepped}
use Rattle.boxes.specs.declared.framing.Framed.{Framed}
use Rattle.boxes.specs.declared.kinds.Container.{Container}
use Rattle.numerals.specs.declared.place.Place.{Place}
use Rattle.boxes.specs.declared.walk.Walk.{Walk}
use Rattle.boxes.proofs.KindLaws.{those-nil, those_one, those_other}
use Rattle.boxes.proofs.ToldLaws.{box_fields}
use Rattle.boxes.proofs.WalkLaws.{met}
use Rattle.filling.proofs.RowLaws.{put_none}
use Rattle.filling.proofs.PutsLaws.{puts_stored, puts_same, puts_more}
use Rattle.partial.specs.Heading.{Part, bytes_in, text, url, mime}
use Rattle.partial.specs.Texts.{Surl, surls_in, texts_for, lengths_for}
use Rattle.tallying.proofs.FoundLaws.{Asked, asked_none, asked_more, asked_end}
use Rattle.surls.specs.Parts.{part_of, Within}
use Rattle.surls.specs.declared.part.Part as Stated
use Rattle.surls.proofs.FormLaws.{url-text, mime-text}
use Rattle.surls.proofs.TextLaws.{text_most}
use Rattle.surls.proofs.WithinLaws.{met_within, further_within, end_kept}
use Rattle.texts.specs.Pieces.{PutsPiece}
use Rattle.texts.proofs.TextLaws.{piece_puts}
use Rattle.surltexts.specs.Putting.{surl_of, PutsSurls, Behind, nothing}
use Rattle.surltexts.specs.declared.answers.Texts.{Texts}

-- ---- a part of the file

module _ (f : List ℕ) (p : Part) where
  part_long : p.size ≤ length f - p.place → length (bytes_in f p) ≡ p.size
  unfolding bytes_in
  part_long inside = simp (length-take, length-drop) (omega arith)

-- ---- the two texts of a box that was read

module _ (f : List ℕ) (b : Framed) {p q : Stated.Part} (within : Within (length f) b) (one : part_of p ≡ url f (box_of b)) (two : part_of q ≡ mime f (box_of b)) where
  url-found : (p.place.0 ≡ b.body.0 + 4) × (p.size ≤ b.end.0 - (b.body.0 + 4))
  unfolding text
  url-found =
      let same = one ∙ url-text f b in
      (ap (λ p. p.place) same, omega (arith, ap (λ p. p.size) same, text_most f (b.body.0 + 4) b.end.0))

  mime-found : (q.place.0 ≡ p.place.0 + p.size + 1) × (q.size ≤ b.end.0 - (p.place.0 + p.size + 1))
  unfolding text
  mime-found =
      let same = two ∙ mime-text f b ∙ ap (λ (u : Part). text f (u.place + u.size + 1) b.end.0) (sym one) in
      (ap (λ p. p.place) same, omega (arith, ap (λ p. p.size) same, text_most f (p.place.0 + p.size + 1) b.end.0))

  url_inside : p.size ≤ length f - p.place.0
  url_inside = omega (arith, url-found.0, url-found.1, within.ends)

  mime_inside : q.size ≤ length f - q.place.0
  mime_inside = omega (arith, mime-found.0, mime-found.1, within.ends)

  both_fit : p.size + q.size ≤ b.end.0 - b.body.0
  both_fit = omega (arith, url-found.0, url-found.1, mime-found.1)

  -- both are put, and their lengths
  pub surl_put : {before after : Texts} {t t₁ t₂ l l₁ : List ℕ} {middle : ℕ} → length f < 2 ^ 64 → Behind b.body.0 before
      → PutsPiece t before.bytes (bytes_in f (part_of p)) t₁ middle
      → PutsPiece t₁ middle (bytes_in f (part_of q)) t₂ after.bytes
      → l₁ ≡ stored l before.lengths (p.size ∷ q.size ∷ [])
      → after.lengths ≡ min (before.lengths + 2) (2 ^ 64 - 1)
      → PutsSurls (surl_of f (box_of b) ∷ []) before t t₂ l l₁ after × (after.bytes ≤ b.end.0) × (after.lengths ≤ b.end.0)
  unfolding texts_for lengths_for
  surl_put {before} {after} small behind first second row count =
      let long = part_long f (part_of p) url_inside in
      let long' = part_long f (part_of q) mime_inside in
      let low : before.bytes + (p.size + q.size) + 8 ≤ b.end.0 = omega (arith, both_fit, behind.bytes, within.whole) in
      let ends = within.ends in
      let fits = behind.lengths in
      let whole = within.whole in
      let end₁ = first.end in
      let end₂ = second.end in
      let all = puts_more (piece_puts (omega arith) first) (piece_puts (omega arith) second) in
      let texts : bytes_in f (part_of p) ++ bytes_in f (part_of q) ≡ texts_for (surl_of f (box_of b) ∷ []) =
      (λ i. bytes_in f (one i) ++ bytes_in f (two i)) ∙ ap (λ (m : List ℕ). bytes_in f (url f (box_of b)) ++ m) (sym (append-nil (bytes_in f (mime f (box_of b))))) in
      let lengths : (p.size ∷ q.size ∷ []) ≡ lengths_for (surl_of f (box_of b) ∷ []) =
      (λ i. sym long i ∷ sym long' i ∷ []) ∙ (λ i. length (bytes_in f (one i)) ∷ length (bytes_in f (two i)) ∷ []) in (
        record { bytes = puts_same texts all; sizes = puts_same lengths (puts_stored (p.size ∷ q.size ∷ []) row (omega arith)) },
        omega arith,
        omega arith,
      )

-- ---- one behind the other

texts_append : (a b : List Surl) → texts_for (a ++ b) ≡ texts_for a ++ texts_for b
unfolding texts_for
texts_append [] b = refl
texts_append (s ∷ a) b = rw (texts_append a b, append_assoc, append_assoc)

lengths_append : (a b : List Surl) → lengths_for (a ++ b) ≡ lengths_for a ++ lengths_for b
unfolding lengths_for
lengths_append [] b = refl
lengths_append (s ∷ a) b = rw (lengths_append a b)

puts_none : (t l : List ℕ) → PutsSurls [] nothing t t l l nothing
unfolding texts_for lengths_for
puts_none t l = record { bytes = record { put = put_none t 0; end = omega arith }; sizes = record { put = put_none l 0; end = omega arith } }

puts_behind : {a b : List Surl} {x y z : Texts} {t t₁ t₂ l l₁ l₂ : List ℕ} → PutsSurls a x t t₁ l l₁ y → PutsSurls b y t₁ t₂ l₁ l₂ z → PutsSurls (a ++ b) x t t₂ l l₂ z
puts_behind {a} {b} p q =
    record {
      bytes = puts_same (sym (texts_append a b)) (puts_more p.bytes q.bytes);
      sizes = puts_same (sym (lengths_append a b)) (puts_more p.sizes q.sizes);
    }

-- ---- along a walk

module _ (f : List ℕ) where
  surls-nil : surls_in f [] ≡ []
  unfolding surls_in
  surls-nil = rw (those-nil surl)

  module _ (b : Box) (rest : List Box) where
    surls_other : is surl b ≡ false → surls_in f (b ∷ rest) ≡ surls_in f rest
    unfolding surls_in
    surls_other other = rw (those_other surl b rest other)

    surls_one : is surl b ≡ true → surls_in f (b ∷ rest) ≡ surl_of f b ∷ surls_in f rest
    unfolding surls_in
    surls_one one = rw (those_one surl b rest one)

-- a walk that began as w₀ and stands at w has put the texts of the `surl` boxes that it passed, no more than it passed
pub record Putting (f : List ℕ) (w₀ w : Walk) (t₀ t l₀ l : List ℕ) (amount : Texts) : Type 0 where
  pub told : List Surl
  pub put : PutsSurls told nothing t₀ t l₀ l amount
  pub asked : Asked f (surls_in f) w₀ (λ bs. told ++ surls_in f bs) w
  pub ends : w.end ≡ w₀.end
  pub bytes : amount.bytes ≤ w.at.0
  pub lengths : amount.lengths ≤ w.at.0

pub putting_none : (f : List ℕ) (w : Walk) (t l : List ℕ) {none : Texts} → (none.bytes ≡ 0) × (none.lengths ≡ 0) → Putting f w w t t l l none
putting_none f w t l {none} (bytes, lengths) =
    let same : nothing ≡ none = λ i. record { bytes = sym bytes i; lengths = sym lengths i } in
    record { told = []; put = subst (PutsSurls [] nothing t t l l) same (puts_none t l); asked = asked_none f (surls_in f) w; ends = refl; bytes = omega arith; lengths = omega arith }

module _ {f : List ℕ} {w₀ w : Walk} {t₀ t l₀ l : List ℕ} {amount : Texts} (p : Putting f w₀ w t₀ t l₀ l amount) where
  module _ (b : Framed) {next : Walk} (step : stepped f w ≡ given (Some (box_of b, next))) where
    abbrev place : next.at.0 ≡ b.end.0
    place = ap (λ w. w.at.0) (met f w step).onward ∙ ap (λ b. b.end) (box_fields b)

    starts : w.at.0 + 8 ≤ b.body.0
    starts =
        let inside = rw (box_fields b) at (met f w step).inside in
        omega (arith, inside.front, inside.typed)

    pub putting_within : w₀.end.0 ≤ length f → Within (length f) b
    putting_within room = further_within (omega (arith, ap (λ p. p.0) p.ends)) (met_within f w b step)

    pub putting_behind : Behind b.body.0 amount
    putting_behind = record { bytes = omega (arith, starts, p.bytes); lengths = omega (arith, starts, p.lengths) }

    pub putting_other : is surl (box_of b) ≡ false → Putting f w₀ next t₀ t l₀ l amount
    putting_other other =
        let whole = (met_within f w b step).whole in
        record {
          told = p.told;
          put = p.put;
          asked = asked_more (λ bs. p.told ++ surls_in f bs) p.asked step (λ rest. ap (λ (ss : List Surl). p.told ++ ss) (surls_other f (box_of b) rest other));
          ends = end_kept f w b step ∙ p.ends;
          bytes = omega (arith, place, starts, p.bytes);
          lengths = omega (arith, place, starts, p.lengths);
        }

    pub putting_more : {t' l' : List ℕ} {more : Texts} → is surl (box_of b) ≡ true
        → PutsSurls (surl_of f (box_of b) ∷ []) amount t t' l l' more × (more.bytes ≤ b.end.0) × (more.lengths ≤ b.end.0)
        → Putting f w₀ next t₀ t' l₀ l' more
    putting_more one (put, bytes, lengths) =
        record {
          told = p.told ++ (surl_of f (box_of b) ∷ []);
          put = puts_behind p.put put;
          asked = asked_more (λ bs. (p.told ++ (surl_of f (box_of b) ∷ [])) ++ surls_in f bs) p.asked step
              (λ rest. ap (λ (ss : List Surl). p.told ++ ss) (surls_one f (box_of b) rest one) ∙ sym (append_assoc p.told (surl_of f (box_of b) ∷ []) (surls_in f rest)));
          ends = end_kept f w b step ∙ p.ends;
          bytes = omega (arith, place);
          lengths = omega (arith, place);
        }

  pub putting_end : {c : Container} {start end : Place} → w₀ ≡ walk_over c start end → {bs : List Box} → boxes_in c f start.0 end.0 ≡ given bs → stepped f w ≡ given None
      → PutsSurls (surls_in f bs) nothing t₀ t l₀ l amount
  putting_end new known step =
      let all = asked_end new p.asked known step ∙ ap (λ (ss : List Surl). p.told ++ ss) (surls-nil f) ∙ append-nil p.told in
      subst (λ (ss : List Surl). PutsSurls ss nothing t₀ t l₀ l amount) (sym all) p.put
