-- Laws of the stages of a heading: which refusal comes where, and what is told where none does.
use Prim.Native.Nat.{ℕ, ◌≤◌, ◌<◌}
use mathlib.Core.Bool.{Bool, true, false}
use mathlib.Core.List.{List}
use mathlib.Core.Path.{◌≡◌, sym, ap, ◌∙◌}
use borrow.Author.Tests.{le-leb, lt-leb}
use lib.ListN.{length}
use Rattle.boxes.specs.Answer.{refused, given}
use Rattle.boxes.specs.Bodies.{boxes_of, body_of}
use Rattle.boxes.specs.declared.body.Body.{Body}
use Rattle.boxes.specs.Framing.{Box, boxes_in, box_of}
use Rattle.boxes.specs.Kinds.{pseg, those, box_at}
use Rattle.boxes.specs.declared.framing.Framed.{Framed}
use Rattle.boxes.specs.declared.kinds.Container.TheVariants.{File, Pfil}
use Rattle.boxes.proofs.ToldLaws.{box_fields}
use Rattle.partial.specs.Limits.{file_limit}
use Rattle.partial.specs.Heading.{ftyp_right, brand_right, pfil_right, pfhd_right, surl_right, url, mime, urls_in, file_boxes, judged, heading}
use Rattle.partial.specs.Index.{has_index}
use Rattle.partial.specs.Tables.{first_text}
use Rattle.surls.specs.Parts.{part_of}
use Rattle.heading.specs.declared.answers.Head.{Head}
use Rattle.heading.specs.Facts.{pfil_body, facts_of, facts_by}
use Rattle.heading.specs.Steps.{Fronted}

module _ (f : List ℕ) where
  pub too_long : file_limit < length f → heading f ≡ refused 1
  unfolding heading file_boxes
  too_long h = simp (lt-leb (length f) file_limit h)

  module _ (small : length f ≤ file_limit) where
    pub ill_framed : {n : ℕ} → boxes_in File f 0 (length f) ≡ refused n → heading f ≡ refused n
    unfolding heading file_boxes
    ill_framed e = simp (le-leb (length f) file_limit small, e)

    pub framed : {bs : List Box} → boxes_in File f 0 (length f) ≡ given bs → heading f ≡ judged f bs
    unfolding heading file_boxes
    framed e = simp (le-leb (length f) file_limit small, e)

  module _ (bs : List Box) where
    pub ftyp_refused : ftyp_right bs ≡ false → judged f bs ≡ refused 7
    unfolding judged
    ftyp_refused wrong = rw wrong

    pub brand_refused : ftyp_right bs ≡ true → brand_right f bs ≡ false → judged f bs ≡ refused 8
    unfolding judged
    brand_refused ftyp wrong = rw (ftyp, wrong)

    pub pfil_refused : ftyp_right bs ≡ true → brand_right f bs ≡ true → pfil_right bs ≡ false → judged f bs ≡ refused 9
    unfolding judged
    pfil_refused ftyp brand wrong = rw (ftyp, brand, wrong)

    -- after stage 9, with the box that is second
    module _ {mixed : Bool} (t : Fronted f mixed bs) (b : Framed) (same : box_of b ≡ box_at 1 bs) {list : Body} (body : list ≡ body_of Pfil b) where
      pub inner_refused : {n : ℕ} → boxes_of f list ≡ refused n → judged f bs ≡ refused n
      unfolding judged
      inner_refused e = rw (t.ftyp, t.brand, t.pfil, ← same, box_fields b, rw body at e)

      module _ {is : List Box} (inner : boxes_of f list ≡ given is) where
        pub pfhd_refused : pfhd_right f is ≡ false → judged f bs ≡ refused 10
        unfolding judged
        pfhd_refused wrong = rw (t.ftyp, t.brand, t.pfil, ← same, box_fields b, rw body at inner, wrong)

        pub surl_refused : pfhd_right f is ≡ true → surl_right f is ≡ false → judged f bs ≡ refused 11
        unfolding judged
        surl_refused pfhd wrong = rw (t.ftyp, t.brand, t.pfil, ← same, box_fields b, rw body at inner, pfhd, wrong)

        pub all_right : pfhd_right f is ≡ true → surl_right f is ≡ true → judged f bs ≡ given (record { boxes = bs; inner = is; urls = urls_in f is; mixed = mixed })
        unfolding judged
        all_right pfhd surl = rw (t.ftyp, t.brand, t.pfil, ← same, box_fields b, rw body at inner, pfhd, surl, ← t.brands)

  -- where the second box has its body
  pub body_told : (bs : List Box) (b : Framed) → box_of b ≡ box_at 1 bs → body_of Pfil b ≡ pfil_body bs
  body_told bs b same =
      let body : b.body.0 ≡ (box_at 1 bs).body = sym (ap (λ x. x.body) (box_fields b)) ∙ ap (λ x. x.body) same in
      let end : b.end.0 ≡ (box_at 1 bs).end = sym (ap (λ x. x.end) (box_fields b)) ∙ ap (λ x. x.end) same in
      λ i. record { container = Pfil; start = record { 0 = body i }; end = record { 0 = end i } }

  -- what is told where there is no refusal
  pub found-told : (bs is : List Box) (h : Head) → h.boxes ≡ length bs → h.segments ≡ length (those pseg bs)
      → h.indexed ≡ has_index is
      → h.list ≡ pfil_body bs
      → part_of h.url ≡ first_text url f is
      → part_of h.mime ≡ first_text mime f is
      → given (facts_by h) ≡ given (facts_of f (record { boxes = bs; inner = is; urls = urls_in f is; mixed = h.mixed }))
  unfolding facts_of
  found-told bs is h boxes segments indexed list url mime =
      λ i. given (record { boxes = boxes i; segments = segments i; mixed = h.mixed; indexed = indexed i; list = list i; url = url i; mime = mime i })
