-- Laws of the parts of a segment's box: what the tests of its `pshd` decide, and what follows.
use Prim.Native.Nat.{ℕ, ◌<◌}
use mathlib.Core.Bool.{Bool, true, false, not, ◌||◌, and-false}
use mathlib.Core.List.{List, [], ◌∷◌}
use mathlib.Core.Path.{◌≡◌, refl, sym, ap, ◌∙◌}
use native.Mathlib.Decide.{dec_le}
use native.Mathlib.Omega.{arith}
use lib.Dec.{eqb, lit<}
use lib.ListN.{length, drop_of_length-le}
use Rattle.std.specs.Prelude.{None}
use Rattle.tallying.specs.Found.{first_in}
use Rattle.boxes.specs.Answer.{refused, given, ◌>>=◌, hold}
use Rattle.boxes.specs.Framing.{Box, boxes_in, header, box_of}
use Rattle.boxes.specs.Kinds.{pshd, is, right, those, box_at, first_of, ploc, surl}
use Rattle.boxes.specs.declared.kinds.Container.TheVariants.{Pseg}
use Rattle.boxes.proofs.KindLaws.{first_is, right_one, those_few, is-eqb}
use Rattle.partial.specs.Entries.{ploc_head}
use Rattle.partial.specs.Heading.{surl_right}
use Rattle.partial.specs.Index.{has_index}
use Rattle.partial.specs.Reading.{pshd_right, pshd_fields}
use Rattle.partial.specs.Sequences.{all_of}
use Rattle.fields.specs.Fields.{values_of, fields_of}
use Rattle.fields.specs.declared.fields.Fields.{Fields}
use Rattle.gathering.specs.Parts.{header_in, has_surl, list_held, parts_in}
use Rattle.boxes.specs.declared.framing.Framed.{Framed}
use Rattle.boxes.proofs.ContainerLaws.{boxes_first}
use Rattle.boxes.proofs.AnswerLaws.{not_both, given_same, then-then}
use borrow.Author.Tests.{not-true, not-false, lt-ltb, le-ltb, ltb-false, ne_eqb, eq-eqb}
use Rattle.boxes.proofs.ToldLaws.{box_fields}

module _ (f : List ℕ) (bs : List Box) where
  -- `pshd` not single
  pub header_lone : right Pseg pshd bs ≡ false → header_in f bs ≡ refused 14
  unfolding header_in pshd_right
  header_lone lacks = rw (lacks, and-false)

  -- not first
  pub header_other : is pshd (box_at 0 bs) ≡ false → header_in f bs ≡ refused 14
  unfolding header_in pshd_right
  header_other lacks = rw lacks

  module _ (single : right Pseg pshd bs ≡ true) where
    pub header_there : 0 < length bs
    header_there = omega (arith, right_one Pseg pshd bs refl single, those_few pshd bs)

    -- else it goes by the fields of the first box
    pub header_by : is pshd (box_at 0 bs) ≡ true → header_in f bs ≡ ◌>>=◌ {B = Box × Fields} (fields_of f (box_at 0 bs)) (λ x. given (box_at 0 bs, x))
    unfolding header_in pshd_right fields_of
    header_by kind = rw (single, kind, first_is pshd (lit< tt) bs kind) (go (eqb (pshd_fields f (box_at 0 bs)).end (box_at 0 bs).end))
      where
        go : (t : Bool)
            → ◌>>=◌ {B = Box × Fields} (hold 14 t) (λ _. given (box_at 0 bs, values_of (pshd_fields f (box_at 0 bs))))
            ≡ ◌>>=◌ {B = Box × Fields} (hold 14 t >>= λ _. given (values_of (pshd_fields f (box_at 0 bs)))) (λ x. given (box_at 0 bs, x))
        go true = refl
        go false = refl

-- the first box of a segment's box that has one `pshd`, as it is read where the body starts
module _ (f : List ℕ) (start end : ℕ) (bs : List Box) (known : boxes_in Pseg f start end ≡ given bs) (single : right Pseg pshd bs ≡ true) where
  first_read : header Pseg f start end ≡ given (box_at 0 bs)
  first_read = boxes_first Pseg f start end known (header_there f bs single)

  pub first_sound : {n : ℕ} → header Pseg f start end ≡ refused n → ⊥
  first_sound e = not_both (sym e ∙ first_read)

  module _ (b : Framed) (found : header Pseg f start end ≡ given (box_of b)) where
    first_same : box_of b ≡ box_at 0 bs
    first_same = given_same (sym found ∙ first_read)

    first_kind : is pshd (box_at 0 bs) ≡ eqb b.kind.code pshd.code
    first_kind = rw (← first_same) (is-eqb pshd (box_of b) ∙ ap (λ (x : Box). eqb x.kind pshd.code) (box_fields b))

    pub first_other : true ≡ not (eqb b.kind.code pshd.code) → header_in f bs ≡ refused 14
    first_other differ = header_other f bs (first_kind ∙ not-true (eqb b.kind.code pshd.code) (sym differ))

    pub first_by : false ≡ not (eqb b.kind.code pshd.code) → header_in f bs ≡ ◌>>=◌ {B = Box × Fields} (fields_of f (box_of b)) (λ x. given (box_of b, x))
    first_by same = rw first_same (header_by f bs single (first_kind ∙ not-false (eqb b.kind.code pshd.code) (sym same)))

-- no box is a `surl`
pub surl_none : (bs : List Box) → has_surl bs ≡ false → those surl bs ≡ []
surl_none bs none = drop_of_length-le (those surl bs) {i = 0} (ltb-false 0 (length (those surl bs)) none)

-- whether one is, by their number
pub surl_counted : (bs : List Box) {n : ℕ} → n ≡ length (those surl bs) → not (eqb n 0) ≡ has_surl bs
surl_counted bs {n} many =
    elim (dec_le 1 n) [
      | yes some ↦ rw (ne_eqb n 0 (λ e. omega arith)) (sym (lt-ltb 0 (length (those surl bs)) (omega arith)))
      | no few ↦ rw (eq-eqb n 0 (omega arith)) (sym (le-ltb 0 (length (those surl bs)) (omega arith)))
    ]

-- the stages of the parts of a box that was read
module _ (f : List ℕ) (in_pfil : Bool) (b : Framed) where
  pub parts_fault : {n : ℕ} → boxes_in Pseg f b.body.0 b.end.0 ≡ refused n → parts_in f in_pfil (box_of b) ≡ refused n
  unfolding parts_in
  parts_fault e = rw (box_fields b, e)

  module _ {bs : List Box} (known : boxes_in Pseg f b.body.0 b.end.0 ≡ given bs) where
    pub parts_header : {n : ℕ} → header_in f bs ≡ refused n → parts_in f in_pfil (box_of b) ≡ refused n
    unfolding parts_in
    parts_header e = rw (box_fields b, known, e)

    module _ {x : Box × Fields} (header-given : header_in f bs ≡ given x) where
      pub parts_lone : right Pseg ploc bs ≡ false → parts_in f in_pfil (box_of b) ≡ refused 15
      unfolding parts_in
      parts_lone lacks = rw (box_fields b, known, header-given, lacks)

      module _ (single : right Pseg ploc bs ≡ true) where
        -- then it goes by the list of URLs, and by the head of the `ploc`
        by_list : parts_in f in_pfil (box_of b)
            ≡ (list_held f in_pfil bs
            >>= λ _. ploc_head f (first_of ploc bs)
            >>= λ l. given (record { header = x.0; fields = x.1; location = l; indexed = has_index bs; listed = has_surl bs }))
        unfolding parts_in list_held
        by_list = rw (box_fields b, known, header-given, single) (sym (then-then (hold 16 (surl_right f bs)) (λ _. hold 41 (has_surl bs || in_pfil)) _))

        pub parts_listless : {n : ℕ} → list_held f in_pfil bs ≡ refused n → parts_in f in_pfil (box_of b) ≡ refused n
        parts_listless e = by_list ∙ rw e

        pub parts_by : list_held f in_pfil bs ≡ given tt
            → parts_in f in_pfil (box_of b)
            ≡ (ploc_head f (first_of ploc bs) >>= λ l. given (record { header = x.0; fields = x.1; location = l; indexed = has_index bs; listed = has_surl bs }))
        parts_by e = by_list ∙ rw e

-- 16 and 41, by whether there is a `surl`
module _ (f : List ℕ) (in_pfil : Bool) (bs : List Box) where
  pub held_own : has_surl bs ≡ true → surl_right f bs ≡ true → list_held f in_pfil bs ≡ given tt
  unfolding list_held
  held_own own formed = rw (list_held, formed, own)

  pub held_ill : surl_right f bs ≡ false → list_held f in_pfil bs ≡ refused 16
  unfolding list_held
  held_ill ill = rw (list_held, ill)

  module _ (none : has_surl bs ≡ false) where
    formed_none : surl_right f bs ≡ true
    unfolding surl_right all_of
    formed_none = rw (surl_none bs none)

    pub held_listed : in_pfil ≡ true → list_held f in_pfil bs ≡ given tt
    unfolding list_held
    held_listed any = rw (list_held, formed_none, none, any)

    pub held_listless : in_pfil ≡ false → list_held f in_pfil bs ≡ refused 41
    unfolding list_held
    held_listless lacks = rw (list_held, formed_none, none, lacks)

-- of one box of a kind the first is found
pub one-found : (bs : List Box) → length bs ≡ 1 → None ≡ first_in bs → ⊥
one-found [] one none = omega arith
one-found (b ∷ bs) one none = let z : ◌≡◌ {A = ℕ} 0 1 = cc in omega arith
