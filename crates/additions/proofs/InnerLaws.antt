-- Laws of the boxes inside a new `pseg`: which they are and of which kinds, that they are the boxes of its body
-- wherever that stands, and what their texts say there.
use Prim.Native.Nat.{ℕ, ◌+◌, ◌≤◌, ◌<◌, ◌^◌}
use mathlib.Core.Bool.{true}
use mathlib.Core.List.{List, [], ◌∷◌, ◌++◌, map, map-map, append-nil}
use mathlib.Core.Path.{◌≡◌, refl, sym, ap, subst, ◌∙◌}
use native.Mathlib.Nat.{add-zero, add_assoc}
use native.Mathlib.Omega.{arith}
use lib.Dec.{lit<}
use lib.ListN.{length, length-append}
use Rattle.boxes.specs.Answer.{given}
use Rattle.boxes.specs.Framing.{Box, front_size, boxed, boxed_at, boxes_in, box_limit}
use Rattle.boxes.specs.Kinds.{pseg, pshd, ploc, surl, fidx, those}
use Rattle.boxes.specs.declared.kinds.Container.TheVariants.{Pseg}
use Rattle.boxes.proofs.HeaderLaws.{moved}
use Rattle.boxes.proofs.ContainerLaws.{Filled, filled-appended, filled_moved, filled_boxes}
use Rattle.boxes.proofs.BoxedLaws.{length-boxed, boxed_alone, moved_boxed_at}
use Rattle.boxes.proofs.KindLaws.{those_one, those_other, is-eqb}
use Rattle.partial.specs.Heading.{surl_right, urls_in}
use Rattle.partial.specs.Texts.{Surl, surls_in}
use Rattle.additions.specs.Begin.{is_text}
use Rattle.additions.specs.Addition.{Addition, items, surls_of, surls}
use Rattle.additions.specs.Append.{stored, placed, ploc_body, pshd_body, surl_boxes, pseg_body, inner_boxes, added, pseg_place, surls_at}
use Rattle.additions.proofs.StandsLaws.{Stands, stands_behind, stands_longer, stands_left, stands_right}
use Rattle.additions.proofs.BoxesStandLaws.{stands_body}
use Rattle.additions.proofs.AddedBoxesLaws.{length-added}
use Rattle.additions.proofs.SurlLaws.{surls-many, surls_moved, surls-filled, those-surls, those_but_surls, surls-formed, surls_read, cut_textual}

-- the body of its `ploc`
abbrev pub location : Addition → List ℕ
location a = ploc_body (placed a.outside (items a.list))

-- the boxes of a body that starts at a place
module _ (at : ℕ) (a : Addition) where
  abbrev pub header_box : Box
  header_box = boxed_at at pshd.code (length (pshd_body a))

  abbrev pub location_place : ℕ
  location_place = at + (front_size + length (pshd_body a))

  abbrev pub location_box : Box
  location_box = boxed_at location_place ploc.code (length (location a))

  abbrev surls_place : ℕ
  surls_place = location_place + (front_size + length (location a))

  abbrev pub inners : List Box
  inners = header_box ∷ location_box ∷ surls_at surls_place (surls a)

  -- of each kind
  pub only_header : those pshd inners ≡ header_box ∷ []
  only_header =
      those_one pshd header_box _ (is-eqb pshd header_box)
      ∙ ap (λ (bs : List Box). header_box ∷ bs) (those_other pshd location_box _ (is-eqb pshd location_box) ∙ those_but_surls pshd refl surls_place (surls a))

  pub only_location : those ploc inners ≡ location_box ∷ []
  only_location =
      those_other ploc header_box _ (is-eqb ploc header_box)
      ∙ those_one ploc location_box _ (is-eqb ploc location_box)
      ∙ ap (λ (bs : List Box). location_box ∷ bs) (those_but_surls ploc refl surls_place (surls a))

  pub only_surls : those surl inners ≡ surls_at surls_place (surls a)
  only_surls =
      those_other surl header_box _ (is-eqb surl header_box) ∙ those_other surl location_box _ (is-eqb surl location_box) ∙ those-surls surls_place (surls a)

  pub no_index_lem : those fidx inners ≡ []
  no_index_lem =
      those_other fidx header_box _ (is-eqb fidx header_box)
      ∙ those_other fidx location_box _ (is-eqb fidx location_box)
      ∙ those_but_surls fidx refl surls_place (surls a)

  inners_many : length inners ≡ inner_boxes a
  unfolding inner_boxes
  inners_many = omega (arith, surls-many surls_place (surls a))

-- so many bytes further on
inners_moved : (n at : ℕ) (a : Addition) → map (moved n) (inners at a) ≡ inners (n + at) a
inners_moved n at a =
    let one = front_size + length (pshd_body a) in
    let two = front_size + length (location a) in
    let second : n + (at + one) ≡ n + at + one = sym (add_assoc n at one) in
    let third : n + (at + one + two) ≡ n + at + one + two = omega arith in
    rw (moved_boxed_at n at pshd.code (length (pshd_body a)), moved_boxed_at n (at + one) ploc.code (length (location a)), surls_moved n (at + one + two) (surls a), second, third)

module _ (a : Addition) where
  pub length_body : length (pseg_body a) ≡ front_size + length (pshd_body a) + (front_size + length (location a)) + length (surl_boxes (surls a))
  unfolding pseg_body
  length_body = simp (length-append, length-boxed) (omega arith)

  -- they are the boxes of the body by itself
  inners_filled : length (pseg_body a) < 2 ^ 32 → Filled Pseg (pseg_body a) (length (pseg_body a)) 0 (inners 0 a)
  unfolding pseg_body
  inners_filled fits =
      let long = length_body in
      let one = length-boxed pshd.code (pshd_body a) in
      let two = length-boxed ploc.code (location a) in
      let header = boxed_alone {c = Pseg} pshd.code (pshd_body a) (lit< tt) refl (omega arith) in
      let place = boxed_alone {c = Pseg} ploc.code (location a) (lit< tt) refl (omega arith) in
      let all = filled-appended header (filled-appended place (surls-filled (surls a) (omega arith))) in
      let second : length (boxed pshd.code (pshd_body a)) + 0 ≡ 0 + (front_size + length (pshd_body a)) = omega arith in
      let third : length (boxed pshd.code (pshd_body a)) + (length (boxed ploc.code (location a)) + 0) ≡ 0 + (front_size + length (pshd_body a)) + (front_size + length (location a)) = omega arith in
      rw (
        moved_boxed_at (length (boxed pshd.code (pshd_body a))) 0 ploc.code (length (location a)),
        surls_moved (length (boxed ploc.code (location a))) 0 (surls a),
        surls_moved (length (boxed pshd.code (pshd_body a))) (length (boxed ploc.code (location a)) + 0) (surls a),
        third,
        second,
      ) at all

-- where the body stands in a file
module _ (g : List ℕ) (at : ℕ) (a : Addition) (stands : Stands g at (pseg_body a)) where
  pub header_stands : Stands g (at + front_size) (pshd_body a)
  unfolding pseg_body
  header_stands = stands_body g at pshd.code (pshd_body a) (stands_left g at (boxed pshd.code (pshd_body a)) _ stands)

  behind-header : Stands g (location_place at a) (boxed ploc.code (location a) ++ surl_boxes (surls a))
  unfolding pseg_body
  behind-header = rw length-boxed at (stands_right g at (boxed pshd.code (pshd_body a)) _ stands)

  pub location_stands : Stands g (location_place at a + front_size) (location a)
  location_stands = stands_body g (location_place at a) ploc.code (location a) (stands_left g (location_place at a) (boxed ploc.code (location a)) _ behind-header)

  surls_stand : Stands g (surls_place at a) (surl_boxes (surls a))
  surls_stand = rw length-boxed at (stands_right g (location_place at a) (boxed ploc.code (location a)) _ behind-header)

  -- they are the boxes there
  pub inners_framed : inner_boxes a ≤ box_limit → length (pseg_body a) < 2 ^ 32 → boxes_in Pseg g at (at + length (pseg_body a)) ≡ given (inners at a)
  inners_framed few fits =
      let there = filled_moved (pseg_body a) g at (length (pseg_body a)) stands (inners_filled a fits) in
      let named = subst (λ (bs : List Box). Filled Pseg g (at + length (pseg_body a)) (at + 0) bs) (inners_moved at 0 a) there in
      filled_boxes Pseg (rw add-zero at named) (rw inners_many few)

  -- their `surl` boxes are well-formed, and say the texts
  module _ (plain : is_text a.texts ≡ true) where
    pub inners_formed : surl_right g (inners at a) ≡ true
    unfolding surl_right surls
    inners_formed = rw only_surls (surls-formed g (surls_place at a) (surls a) (cut_textual a.texts a.lengths plain) surls_stand)

    pub surls-told : at + length (pseg_body a) ≤ length g → surls_in g (inners at a) ≡ surls a
    unfolding surls_in surls
    surls-told inside =
        rw only_surls (surls_read g (surls_place at a) (surls a) (cut_textual a.texts a.lengths plain) surls_stand (omega (arith, length_body a)))

    pub urls_told : at + length (pseg_body a) ≤ length g → urls_in g (inners at a) ≡ map (λ s. s.url) (surls a)
    unfolding urls_in surls_in
    urls_told inside = sym (map-map (λ (s : Surl). s.url) _ (those surl (inners at a))) ∙ ap (map (λ (s : Surl). s.url)) (surls-told inside)

-- it stands in a file that the addition was put behind, and in any that goes on from there
module _ (f more : List ℕ) (a : Addition) where
  body_whole : pseg_place (length f) a + front_size + length (pseg_body a) ≡ length (f ++ added a)
  unfolding pseg_place
  body_whole = omega (arith, length-append f (added a), length-added a)

  pub body_inside : pseg_place (length f) a + front_size + length (pseg_body a) ≤ length ((f ++ added a) ++ more)
  body_inside = omega (arith, body_whole, length-append (f ++ added a) more)

  pub body_stands : Stands ((f ++ added a) ++ more) (pseg_place (length f) a + front_size) (pseg_body a)
  unfolding added pseg_place
  body_stands =
      let g = f ++ added a in
      let at : ℕ = length f + length (stored a) in
      let behind = stands_right g (length f) (stored a) (boxed pseg.code (pseg_body a)) (stands_behind f (added a)) in
      stands_longer g more (at + front_size) (pseg_body a) (stands_body g at pseg.code (pseg_body a) behind) (omega (arith, body_whole))

-- with an empty list of texts the segment is `pshd` and `ploc` alone
pub plain_body : (a : Addition) → a.lengths ≡ [] → pseg_body a ≡ boxed pshd.code (pshd_body a) ++ boxed ploc.code (location a)
unfolding pseg_body surls surls_of surl_boxes
plain_body a none = rw (none, append-nil)
