-- Laws of one indexed box: its head, its list, and whether that fills it; and of a list by its boxes.
use Prim.Native.Nat.{ℕ, suc, ◌+◌, ◌-◌, ◌*◌, ◌≤◌}
use mathlib.Core.Bool.{Bool, true, false, ◌&&◌}
use mathlib.Core.List.{List, [], ◌∷◌, map}
use Rattle.std.specs.Prelude.{Option, Some}
use mathlib.Core.Path.{◌≡◌, refl, sym, ap, subst, ◌∙◌}
use native.Mathlib.Decide.{dec_le}
use native.Mathlib.Omega.{arith}
use borrow.Author.Tests.{leb-true}
use lib.Dec.{leb, eqb}
use lib.ListN.{length}
use Rattle.numerals.specs.Numbers.{number}
use Rattle.boxes.specs.Answer.{Answer, refused, given, ◌>>=◌, hold}
use Rattle.boxes.specs.Framing.{Box, boxes_in}
use Rattle.boxes.specs.Kinds.{bidx, frpa, right, those, first_of, box_at}
use Rattle.boxes.specs.declared.kinds.Container.TheVariants.{Bidx}
use Rattle.boxes.proofs.AnswerLaws.{not_both, given_same, both_given, held}
use Rattle.boxes.proofs.ContainerLaws.{boxes_standing}
use Rattle.boxes.proofs.KindLaws.{first_of-those, those_nth}
use Rattle.partial.specs.Index.{IndexFields, Told, front_by, index_fields, end_from, wherever, end_right, last_or_sized, front_part, list_framed, in_aRow, untold, index_list, indexed_box, level_limit}
use Rattle.partial.specs.Limits.{source_limit}
use Rattle.indexing.specs.Head.{judged_end, head_in}
use Rattle.indexing.specs.Inner.{inner_in}
use Rattle.indexing.specs.Lists.{list_on, box_on}
use Rattle.indexing.specs.Marks.{indexed_of}
use Rattle.indexing.proofs.FieldsLaws.{front-sized}

-- ---- where things lie

-- the fields of a `bidx` lie in it, before its list
pub record Fielded (b : Box) (x : IndexFields) : Type 0 where
  pub starts : x.list ≡ b.body + x.front
  pub low : 8 ≤ x.front
  pub high : x.front ≤ 32
  pub whole : x.list ≤ b.end

fields_lie : (f : List ℕ) (b : Box) {x : IndexFields} → index_fields f b ≡ given x → Fielded b x
unfolding index_fields
fields_lie f b {x} h =
    let (first, rest) = held 36 (leb (b.body + 8) b.end) _ h in
    let size = number f b.body 4 in
    let kind = number f (b.body + 4) 4 in
    let (whole, last) = held 36 (leb (b.body + front_by size kind) b.end) _ rest in
    let (low, high) = front-sized size kind in
    subst (Fielded b) (given_same last) (record { starts = refl; low = low; high = high; whole = leb-true _ _ whole })

and_both : (a b : Bool) → (a && b) ≡ true → b ≡ true
and_both true b h = h
and_both false b h = let z : ◌≡◌ {A = ℕ} 0 1 = cc in absurd (omega arith)

-- an end that is known is within the limit
pub record Headed (b : Box) (x : IndexFields) (end : Option ℕ) : Type 0 where
  pub fields : Fielded b x
  pub near : {e : ℕ} → end ≡ Some e → e ≤ source_limit

judged_near : (enclosing : Option ℕ) (place : ℕ) (x : IndexFields) {end : Option ℕ} → judged_end enclosing place x ≡ given end → {e : ℕ} → end ≡ Some e → e ≤ source_limit
unfolding judged_end end_right wherever
judged_near enclosing place x {end} h {e} ends =
    let (right, same) = held 36 (end_right source_limit place x (end_from enclosing place x)) _ h in
    let here : end_from enclosing place x ≡ Some e = given_same same ∙ ends in
    let tested : end_right source_limit place x (Some e) ≡ true = rw here at right in
    leb-true e source_limit (and_both (leb (place + x.front) e) (leb e source_limit) tested)

pub head_lies : (f : List ℕ) (b : Box) (enclosing : Option ℕ) (last : Bool) (place : ℕ) {x : IndexFields} {end : Option ℕ} → head_in f b enclosing last place ≡ given (x, end) → Headed b x end
unfolding head_in
head_lies f b enclosing last place {x} {end} h =
    let (y, read, rest) = both_given (index_fields f b) _ h in
    let (sized, more) = held 36 (last_or_sized last y) _ rest in
    let (e, judged, same) = both_given (judged_end enclosing place y) _ more in
    let pair : ◌≡◌ {A = IndexFields × Option ℕ} (y, e) (x, end) = given_same same in
    subst (λ (p : IndexFields × Option ℕ). Headed b p.0 p.1) pair (record { fields = fields_lie f b read; near = judged_near enclosing place y judged })

-- the boxes of the list inside are those of its container, and its front part is no longer than the file up to its end
framed_known : {A : Type 0} (x : Answer A) {a : A} → list_framed x ≡ given a → x ≡ given a
unfolding list_framed
framed_known (refused n) h = absurd (not_both h)
framed_known (given a) h = h

module _ (f : List ℕ) (start end : ℕ) {inner : List Box} (read : inner_in f start end ≡ given inner) where
  pub inner_known : boxes_in Bidx f start end ≡ given inner
  unfolding inner_in
  inner_known =
      let (bs, framed, rest) = both_given (list_framed (boxes_in Bidx f start end)) _ read in
      let (kept, same) = held 36 (right Bidx frpa bs) _ rest in
      framed_known (boxes_in Bidx f start end) framed ∙ same

  first_ends : (first_of frpa inner).end ≤ end
  unfolding box_at
  first_ends =
      elim (dec_le 1 (length (those frpa inner))) [
        | yes some_there ↦
            let (m, nth) = those_nth frpa inner 0 some_there in
            let stands = boxes_standing Bidx f start end inner_known m nth.there in
            rw (first_of-those frpa inner, nth.same) stands.inside.ends
        | no none-there ↦ rw (first_of-those frpa inner) (nothing (those frpa inner) (omega arith))
      ]
    where
      nothing : (bs : List Box) → length bs ≡ 0 → (box_at 0 bs).end ≤ end
      nothing [] h = omega arith
      nothing (b ∷ bs) h = absurd (omega arith)

  pub front_short : front_part inner ≤ end
  unfolding front_part
  front_short = omega (arith, first_ends)

-- ---- a box by its parts

head_apart : (x : Answer IndexFields) (l r : IndexFields → Bool) (end : IndexFields → Option ℕ) (next : IndexFields → Option ℕ → Answer Told)
    → ◌>>=◌ {B = Told} x (λ a. ◌>>=◌ {B = Told} (hold 36 (l a)) (λ _. ◌>>=◌ {B = Told} (hold 36 (r a)) (λ _. next a (end a))))
    ≡ ◌>>=◌ {B = Told} (◌>>=◌ {B = IndexFields × Option ℕ} x (λ a. ◌>>=◌ {B = IndexFields × Option ℕ} (hold 36 (l a)) (λ _. ◌>>=◌ {B = IndexFields × Option ℕ} (◌>>=◌ {B = Option ℕ} (hold 36 (r a)) (λ _. given (end a))) (λ e. given (a, e))))) (λ h. next h.0 h.1)
head_apart (refused n) l r end next = refl
head_apart (given a) l r end next = go (l a) (r a)
  where
    go : (s t : Bool)
        → ◌>>=◌ {B = Told} (hold 36 s) (λ _. ◌>>=◌ {B = Told} (hold 36 t) (λ _. next a (end a)))
        ≡ ◌>>=◌ {B = Told} (◌>>=◌ {B = IndexFields × Option ℕ} (hold 36 s) (λ _. ◌>>=◌ {B = IndexFields × Option ℕ} (◌>>=◌ {B = Option ℕ} (hold 36 t) (λ _. given (end a))) (λ e. given (a, e)))) (λ h. next h.0 h.1)
    go true true = refl
    go true false = refl
    go false t = refl

inner_apart : (x : Answer (List Box)) (r : List Box → Bool) (next : List Box → Answer Told)
    → ◌>>=◌ {B = Told} x (λ bs. ◌>>=◌ {B = Told} (hold 36 (r bs)) (λ _. next bs))
    ≡ ◌>>=◌ {B = Told} (◌>>=◌ {B = List Box} x (λ bs. ◌>>=◌ {B = List Box} (hold 36 (r bs)) (λ _. given bs))) next
inner_apart (refused n) r next = refl
inner_apart (given bs) r next = go (r bs)
  where
    go : (t : Bool) → ◌>>=◌ {B = Told} (hold 36 t) (λ _. next bs) ≡ ◌>>=◌ {B = Told} (◌>>=◌ {B = List Box} (hold 36 t) (λ _. given bs)) next
    go true = refl
    go false = refl

-- whether what is told of a list fills a box, and the box before it
abbrev pub filling : ℕ → ℕ → IndexFields → Option ℕ → Told → Answer Told
filling level place x end told = do
  _ ← hold 36 (wherever (λ filled. wherever (eqb filled) end) told.end)
  given (record { boxes = indexed_of level place end x.kind ∷ told.boxes; end = end })

abbrev pub opened : List ℕ → ℕ → ℕ → IndexFields → Option ℕ → List Box → Answer Told
opened f level place x end inner = list_on f (level + 1) end (place + x.front + front_part inner) (those bidx inner) >>= filling level place x end

module _ (f : List ℕ) (level : ℕ) (deepest : level ≤ level_limit) where
  -- a list by its boxes
  pub list_opens : (enclosing : Option ℕ) (place : ℕ) (bs : List Box) → list_on f level enclosing place bs ≡ in_aRow (box_on f level enclosing) place bs
  unfolding index_list
  list_opens enclosing place bs =
      let calls : 2 * (9 - level) ≡ suc (2 * (9 - level) - 1) = omega arith in
      ap (λ (n : ℕ). index_list source_limit f n level enclosing place bs) calls

  module _ (enclosing : Option ℕ) (last : Bool) (place : ℕ) (b : Box) where
    box_opens : box_on f level enclosing last place b
        ≡ (head_in f b enclosing last place >>= λ h. list_framed (boxes_in Bidx f h.0.list b.end) >>= λ inner. hold 36 (right Bidx frpa inner) >>= λ _. opened f level place h.0 h.1 inner)
    unfolding indexed_box head_in judged_end
    box_opens =
        let calls : 2 * (9 - level) - 1 ≡ suc (2 * (9 - (level + 1))) = omega arith in
        ap (λ (n : ℕ). indexed_box source_limit f n level enclosing last place b) calls
        ∙ head_apart (index_fields f b) (last_or_sized last) (λ x. end_right source_limit place x (end_from enclosing place x)) (end_from enclosing place)
        (λ x end. list_framed (boxes_in Bidx f x.list b.end) >>= λ inner. hold 36 (right Bidx frpa inner) >>= λ _. opened f level place x end inner)

    pub box_head : {n : ℕ} → head_in f b enclosing last place ≡ refused n → box_on f level enclosing last place b ≡ refused n
    box_head h = box_opens ∙ rw h

    module _ {x : IndexFields} {end : Option ℕ} (headed : head_in f b enclosing last place ≡ given (x, end)) where
      box_inner : box_on f level enclosing last place b ≡ (inner_in f x.list b.end >>= opened f level place x end)
      unfolding inner_in
      box_inner = box_opens ∙ rw headed (inner_apart (list_framed (boxes_in Bidx f x.list b.end)) (right Bidx frpa) (opened f level place x end))

      pub box_unframed : {n : ℕ} → inner_in f x.list b.end ≡ refused n → box_on f level enclosing last place b ≡ refused n
      box_unframed h = box_inner ∙ rw h

      module _ {inner : List Box} (read : inner_in f x.list b.end ≡ given inner) where
        box_list : box_on f level enclosing last place b ≡ opened f level place x end inner
        box_list = box_inner ∙ rw read

        -- on the last level no box of its list is looked into
        pub box_last : level ≡ level_limit
            → box_on f level enclosing last place b ≡ given (record { boxes = indexed_of level place end x.kind ∷ map (untold (level + 1)) (those bidx inner); end = end })
        unfolding index_list wherever
        box_last deep =
            let calls : 2 * (9 - (level + 1)) ≡ 0 = omega arith in
            box_list ∙ ap (λ (n : ℕ). index_list source_limit f n (level + 1) end (place + x.front + front_part inner) (those bidx inner) >>= filling level place x end) calls

        pub box_list_wrong : {n : ℕ} → list_on f (level + 1) end (place + x.front + front_part inner) (those bidx inner) ≡ refused n → box_on f level enclosing last place b ≡ refused n
        box_list_wrong h = box_list ∙ rw h

        module _ {told : Told} (listed : list_on f (level + 1) end (place + x.front + front_part inner) (those bidx inner) ≡ given told) where
          pub box_unfilled : wherever (λ filled. wherever (eqb filled) end) told.end ≡ false → box_on f level enclosing last place b ≡ refused 36
          box_unfilled h = box_list ∙ rw (listed, h)

          pub box-filled : wherever (λ filled. wherever (eqb filled) end) told.end ≡ true
              → box_on f level enclosing last place b ≡ given (record { boxes = indexed_of level place end x.kind ∷ told.boxes; end = end })
          box-filled h = box_list ∙ rw (listed, h)

    -- where a box ends is within the limit
    pub box_near : {told : Told} → box_on f level enclosing last place b ≡ given told → {e : ℕ} → told.end ≡ Some e → e ≤ source_limit
    box_near {told} h {e} ends =
        let (head, headed, more) = both_given (head_in f b enclosing last place) _ (sym box_opens ∙ h) in
        let (inner, framed, rest) = both_given (list_framed (boxes_in Bidx f head.0.list b.end)) _ more in
        let (kept, open-list) = held 36 (right Bidx frpa inner) _ rest in
        let (under, listed, filled) = both_given (list_on f (level + 1) head.1 (place + head.0.front + front_part inner) (those bidx inner)) _ open-list in
        let (full, same) = held 36 (wherever (λ filled. wherever (eqb filled) head.1) under.end) _ filled in
        (head_lies f b enclosing last place headed).near (ap (λ (t : Told). t.end) (given_same same) ∙ ends)
