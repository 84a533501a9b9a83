-- Laws of the list inside an indexed box: what is counted along it, and what the tests decide.
use Prim.Native.Nat.{ℕ, ◌+◌, ◌-◌, ◌≤◌}
use mathlib.Core.Bool.{true, false}
use mathlib.Core.List.{List, [], ◌∷◌, ◌++◌, append-nil}
use mathlib.Core.Path.{◌≡◌, refl, sym, ap, ◌∙◌}
use native.Mathlib.Omega.{arith}
use borrow.Author.Tests.{leb-true, eq-eqb, ne_eqb}
use lib.ListN.{length, length-append, drop_of_length-le}
use Rattle.boxes.specs.Answer.{refused, given}
use Rattle.boxes.specs.Framing.{Box, boxes_in, box_of}
use Rattle.boxes.specs.Kinds.{bidx, frpa, is, keeps, right, those, box_at, first_of}
use Rattle.boxes.specs.declared.framing.Framed.{Framed}
use Rattle.boxes.specs.declared.kinds.Container.TheVariants.{Bidx}
use Rattle.boxes.proofs.KindLaws.{those-nil, those_one, those_other, those-append, one_found, one_passed, right-count, count_rule}
use Rattle.boxes.proofs.ToldLaws.{box_fields}
use Rattle.tallying.proofs.FoundLaws.{is_kind, is_other}
use Rattle.partial.specs.Index.{front_part, list_framed}
use Rattle.indexing.specs.Inner.{InnerCounted, inner_in, inner_counts}
use Rattle.indexing.specs.declared.inner.InnerCounts.{InnerCounts}

-- ---- the counts along a walk

pub counted_none : (c : InnerCounts) → c.many ≡ 0 → c.parts ≡ 0 → c.size ≡ 0 → InnerCounted [] c
unfolding front_part first_of box_at
counted_none c many parts size = record { many = rw those-nil many; parts = rw those-nil parts; size = λ few. rw those-nil size }

module _ (bs : List Box) (b : Framed) {c : InnerCounts} (so_far : InnerCounted bs c) where
  -- a box of another kind leaves the front part
  front_other : is frpa (box_of b) ≡ false → those frpa (bs ++ (box_of b ∷ [])) ≡ those frpa bs
  front_other other = those-append frpa bs (box_of b ∷ []) ∙ rw (those_other frpa (box_of b) [] other, those-nil, append-nil)

  front_kept : is frpa (box_of b) ≡ false → length (those frpa (bs ++ (box_of b ∷ []))) ≤ 1 → c.size ≡ front_part (bs ++ (box_of b ∷ []))
  unfolding front_part first_of
  front_kept other few = so_far.size (rw (front_other other) at few) ∙ rw (front_other other)

  kind : (box_of b).kind ≡ b.kind.code
  kind = ap (λ (x : Box). x.kind) (box_fields b)

  pub counted_box : b.kind.code ≡ bidx.code → InnerCounted (bs ++ (box_of b ∷ [])) (record { many = c.many + 1; parts = c.parts; size = c.size })
  counted_box e =
      let other : b.kind.code ≡ frpa.code → ⊥ = λ same. omega (arith, e, same) in
      record {
        many = one_found bidx bs (box_of b) so_far.many (kind ∙ e);
        parts = one_passed frpa bs (box_of b) so_far.parts (λ same. other (sym kind ∙ same));
        size = front_kept (is_other frpa b refl (ne_eqb _ _ other));
      }

  pub counted_other : (b.kind.code ≡ bidx.code → ⊥) → (b.kind.code ≡ frpa.code → ⊥) → InnerCounted (bs ++ (box_of b ∷ [])) c
  counted_other no-box no_part =
      record {
        many = one_passed bidx bs (box_of b) so_far.many (λ same. no-box (sym kind ∙ same));
        parts = one_passed frpa bs (box_of b) so_far.parts (λ same. no_part (sym kind ∙ same));
        size = front_kept (is_other frpa b refl (ne_eqb _ _ no_part));
      }

  pub counted_part : (b.kind.code ≡ bidx.code → ⊥) → b.kind.code ≡ frpa.code → {size : ℕ} → size ≡ b.end.0 - b.body.0
      → InnerCounted (bs ++ (box_of b ∷ [])) (record { many = c.many; parts = c.parts + 1; size = size })
  unfolding front_part first_of box_at
  counted_part no-box e same_size =
      let here : those frpa (bs ++ (box_of b ∷ [])) ≡ those frpa bs ++ (box_of b ∷ []) =
      those-append frpa bs (box_of b ∷ []) ∙ rw (those_one frpa (box_of b) [] (is_kind frpa b refl (eq-eqb _ _ e)), those-nil) in
      record {
        many = one_passed bidx bs (box_of b) so_far.many (λ same. no-box (sym kind ∙ same));
        parts = one_found frpa bs (box_of b) so_far.parts (kind ∙ e);
        size = λ few.
            let none : those frpa bs ≡ [] = drop_of_length-le (those frpa bs) {i = 0} (omega (arith, rw (here, length-append) at few)) in
            same_size ∙ sym (ap (λ (x : Box). x.end - x.body) (box_fields b)) ∙ sym (rw (here, none));
      }

-- the rule of the front part allows one at most
pub front_few : (bs : List Box) → right Bidx frpa bs ≡ true → length (those frpa bs) ≤ 1
unfolding keeps
front_few bs h = leb-true (length (those frpa bs)) 1 (sym (right-count Bidx frpa bs ∙ count_rule Bidx frpa (length (those frpa bs))) ∙ h)

-- ---- what the tests decide

module _ (f : List ℕ) (start end : ℕ) where
  pub inner_fault : {n : ℕ} → boxes_in Bidx f start end ≡ refused n → inner_counts f start end ≡ refused 36
  unfolding inner_counts inner_in list_framed
  inner_fault h = rw (inner_counts, inner_in, h)

  module _ {inner : List Box} (known : boxes_in Bidx f start end ≡ given inner) where
    pub inner_second : right Bidx frpa inner ≡ false → inner_counts f start end ≡ refused 36
    unfolding inner_counts inner_in list_framed
    inner_second h = rw (inner_counts, inner_in, known, list_framed, h)

    pub inner-boxes : right Bidx frpa inner ≡ true → inner_in f start end ≡ given inner
    unfolding inner_in list_framed
    inner-boxes h = rw (inner_in, known, list_framed, h)

    pub inner_whole : right Bidx frpa inner ≡ true → inner_counts f start end ≡ given (length (those bidx inner), front_part inner)
    unfolding inner_counts
    inner_whole h = rw (inner_counts, inner-boxes h)
