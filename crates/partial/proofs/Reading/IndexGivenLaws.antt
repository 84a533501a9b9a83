-- An index that is told stays so: under a higher limit, and, where every end is known, whatever the size of the source
-- is. Every refusal of it is 36.
use Prim.Native.Nat.{ℕ, zero, suc, ◌+◌, ◌≤◌}
use mathlib.Core.Bool.{Bool, true, not, ◌&&◌, true≢false}
use mathlib.Core.List.{List, [], ◌∷◌, cons≢nil}
use Rattle.std.specs.Prelude.{Option, None, Some}
use mathlib.Core.Path.{◌≡◌, refl, sym, ap, subst, ◌∙◌}
use native.Mathlib.Omega.{arith}
use borrow.Author.Tests.{leb-true, le-leb}
use lib.Dec.{leb, eqb}
use Rattle.boxes.specs.Answer.{Answer, refused, given, ◌>>=◌}
use Rattle.numerals.specs.Numbers.{number}
use Rattle.boxes.specs.Framing.{Box, boxes_in}
use Rattle.boxes.specs.Kinds.{fidx, bidx, frpa, right, those}
use Rattle.boxes.specs.declared.kinds.Container.{Container}
use Rattle.boxes.specs.declared.kinds.Container.TheVariants.{Pfil, Pseg, Fidx, Bidx}
use Rattle.boxes.proofs.AnswerLaws.{both_given, held, given_same, Only, only_then, only_held, only_given, only_refused}
use Rattle.partial.specs.Sequences.{some_of, all_of}
use Rattle.partial.specs.Segments.{Segment}
use Rattle.partial.specs.Heading.{Heading}
use Rattle.partial.specs.Index.{IndexFields, front_by, index_fields, is_known, end_from, wherever, end_right, front_part, list_framed, Indexed, Told, last_or_sized}
use Rattle.partial.specs.Index.{none_follows, with_rest, in_aRow, index_list, indexed_box, level_limit, call_limit, index_in, has_index}
use Rattle.partial.specs.Index.{SourceBox, boxes_alone, size_for, index_for, index_of_segments, index_of, indexed}
use Rattle.partial.proofs.Meaning.SequenceLaws.{both, all_append}

-- ---- every refusal is 36

module _ (P : ℕ → Type 0) (p : P 36) where
  framed_only : {A : Type 0} (x : Answer A) → Only P (list_framed x)
  unfolding list_framed
  framed_only (refused n) = only_refused P 36 p
  framed_only (given a) = only_given P a

  row_only : (one : Bool → ℕ → Box → Answer Told) → ((last : Bool) (at : ℕ) (b : Box) → Only P (one last at b)) → (bs : List Box) (place : ℕ) → Only P (in_aRow one place bs)
  unfolding in_aRow
  row_only one each [] place = only_given P _
  row_only one each (b ∷ bs) place =
      only_then P (one (none_follows bs) place b) _ (each (none_follows bs) place b)
      (λ told. only_then P (in_aRow one (elim told.end [ Some end ↦ end | None ↦ place ]) bs) _ (row_only one each bs (elim told.end [ Some end ↦ end | None ↦ place ])) (λ rest. only_given P _))

  module _ (limit : ℕ) (f : List ℕ) where
    fields_only : (b : Box) → Only P (index_fields f b)
    unfolding index_fields
    fields_only b =
        let list = b.body + front_by (number f b.body 4) (number f (b.body + 4) 4) in
        only_held P 36 (leb (b.body + 8) b.end) _ p (only_held P 36 (leb list b.end) _ p (only_given P _))

    mutual
      unfolding index_list

      pub list_only : (calls level : ℕ) (enclosing : Option ℕ) (place : ℕ) (bs : List Box) → Only P (index_list limit f calls level enclosing place bs)
      list_only zero level enclosing place bs = only_given P _
      list_only (suc calls) level enclosing place bs = row_only _ (λ last at b. box_only calls level enclosing last at b) bs place

      pub box_only : (calls level : ℕ) (enclosing : Option ℕ) (last : Bool) (place : ℕ) (b : Box) → Only P (indexed_box limit f calls level enclosing last place b)
      box_only zero level enclosing last place b = only_given P _
      box_only (suc calls) level enclosing last place b =
          only_then P (index_fields f b) _ (fields_only b)
          (λ x.
          only_held P 36 (last_or_sized last x) _ p
          (only_held P 36 (end_right limit place x (end_from enclosing place x)) _ p
          (only_then P (list_framed (boxes_in Bidx f x.list b.end)) _ (framed_only (boxes_in Bidx f x.list b.end))
          (λ inner.
          only_held P 36 (right Bidx frpa inner) _ p
          (only_then P (index_list limit f calls (level + 1) (end_from enclosing place x) (place + x.front + front_part inner) (those bidx inner)) _
          (list_only calls (level + 1) (end_from enclosing place x) (place + x.front + front_part inner) (those bidx inner))
          (λ told. only_held P 36 (wherever (λ filled. wherever (eqb filled) (end_from enclosing place x)) told.end) _ p (only_given P _)))))))

    in-only : (c : Container) (bs : List Box) (size : Option ℕ) (start : ℕ) → Only P (index_in limit f c bs size start)
    unfolding index_in
    in-only c bs size start = only_held P 36 (right c fidx bs) _ p (go (those fidx bs))
      where
        go : (cs : List Box)
            → Only P {A = List Indexed} (elim cs [ [] ↦ given [] | b ∷ _ ↦ list_framed (boxes_in Fidx f b.body b.end) >>= λ inner. index_list limit f call_limit 1 size start (those bidx inner) >>= λ told. given told.boxes ])
        go [] = only_given P []
        go (b ∷ cs) =
            only_then P (list_framed (boxes_in Fidx f b.body b.end)) _ (framed_only (boxes_in Fidx f b.body b.end))
            (λ inner. only_then P (index_list limit f call_limit 1 size start (those bidx inner)) _ (list_only call_limit 1 size start (those bidx inner)) (λ told. only_given P _))

    -- by where each source ends
    module _ (size : List (List ℕ) → Option ℕ) where
      for_only : (us : List (List ℕ)) (c : Container) (bs : List Box) (start : ℕ) → Only P (index_for limit f size us c bs start)
      unfolding index_for
      for_only us c bs start = only_then P (index_in limit f c bs (size us) start) _ (in-only c bs (size us) start) (λ boxes. only_given P _)

      segments_only : (ss : List Segment) → Only P (index_of_segments limit f size ss)
      unfolding index_of_segments
      segments_only [] = only_given P []
      segments_only (s ∷ ss) =
          only_then P (index_for limit f size s.urls Pseg s.inner s.source_offset) _ (for_only s.urls Pseg s.inner s.source_offset)
          (λ first. only_then P (index_of_segments limit f size ss) _ (segments_only ss) (λ later. only_given P _))

    pub index_only : (h : Heading) (ss : List Segment) → Only P (index_of limit f h ss)
    unfolding index_of
    index_only h ss =
        only_then P (index_for limit f (size_for ss) h.urls Pfil h.inner 0) _ (for_only (size_for ss) h.urls Pfil h.inner 0)
        (λ first. only_then P (index_of_segments limit f (size_for ss) ss) _ (segments_only (size_for ss) ss) (λ later. only_given P _))

    -- and those of the tests over what is told are 37, 38 and 39
    pub indexed_only : P 37 → P 38 → P 39 → (h : Heading) (ss : List Segment) → Only P (indexed limit f h ss)
    unfolding indexed
    indexed_only p7 p8 p9 h ss =
        only_then P (index_of limit f h ss) _ (index_only h ss)
        (λ boxes.
        only_held P 37 (all_of (λ i. leb i.level level_limit) (boxes_alone boxes)) _ p7
        (only_held P 38 (not (has_index h.inner && some_of (λ s. has_index s.inner) ss)) _ p8
        (only_held P 39 (all_of (λ i. is_known i.end) (boxes_alone boxes)) _ p9 (only_given P boxes))))

-- ---- what is told of boxes in a row, where it is told of each

module _ (test : Indexed → Bool) (one two : Bool → ℕ → Box → Answer Told)
    (each : (last : Bool) (at : ℕ) (b : Box) (told : Told) → one last at b ≡ given told → all_of test told.boxes ≡ true → two last at b ≡ given told) where
  -- both parts of what is told pass
  both_pass : (told rest : Told) (bs : List Box) → all_of test (with_rest told bs rest).boxes ≡ true → (bs ≡ [] → rest.boxes ≡ []) → (all_of test told.boxes ≡ true) × (all_of test rest.boxes ≡ true)
  unfolding with_rest all_of
  both_pass told rest [] all nothing = (all, rw (nothing refl))
  both_pass told rest (b ∷ bs) all nothing = both (all_of test told.boxes) (all_of test rest.boxes) (rw all_append at all)

  row_given : (bs : List Box) (place : ℕ) (told : Told) → in_aRow one place bs ≡ given told → all_of test told.boxes ≡ true → in_aRow two place bs ≡ given told
  unfolding in_aRow
  row_given [] place told e all = e
  row_given (b ∷ bs) place told e all =
      let (t, here, e1) = both_given (one (none_follows bs) place b) _ e in
      let at : ℕ = elim t.end [ Some end ↦ end | None ↦ place ] in
      let (rest, there, e2) = both_given (in_aRow one at bs) _ e1 in
      let (first, later) = both_pass t rest bs (rw (ap (λ (x : Told). x.boxes) (given_same e2)) all) (no_more bs at rest there) in
      rw (each (none_follows bs) place b t here first, row_given bs at rest there later) e2
    where
      no_more : (bs : List Box) (at : ℕ) (rest : Told) → in_aRow one at bs ≡ given rest → bs ≡ [] → rest.boxes ≡ []
      no_more [] at rest e same = sym (ap (λ (x : Told). x.boxes) (given_same e))
      no_more (b ∷ bs) at rest e same = absurd (cons≢nil same)

all_true : {A : Type 0} (xs : List A) → all_of (λ _. true) xs ≡ true
unfolding all_of
all_true [] = refl
all_true (x ∷ xs) = all_true xs

-- ---- what is told of one box, part by part

-- what was tested of a box, with its fields, its end, the boxes of its list and what those tell
pub record Boxed (limit : ℕ) (f : List ℕ) (calls level : ℕ) (enclosing : Option ℕ) (last : Bool) (place : ℕ) (b : Box) (x : IndexFields) (end : Option ℕ) (inner : List Box) (more : Told) : Type 0 where
  pub fields : index_fields f b ≡ given x
  pub sized : last_or_sized last x ≡ true
  pub ended : end_from enclosing place x ≡ end
  pub right_end : end_right limit place x end ≡ true
  pub boxes : list_framed (boxes_in Bidx f x.list b.end) ≡ given inner
  pub single : right Bidx frpa inner ≡ true
  pub list : index_list limit f calls (level + 1) end (place + x.front + front_part inner) (those bidx inner) ≡ given more
  pub fills : wherever (λ filled. wherever (eqb filled) end) more.end ≡ true

-- what is then told of it
abbrev pub box_told : ℕ → ℕ → IndexFields → Option ℕ → Told → Told
box_told level place x end more = record { boxes = record { level = level; place = place; end = end; kind = x.kind } ∷ more.boxes; end = end }

module _ (limit : ℕ) (f : List ℕ) (calls level : ℕ) (enclosing : Option ℕ) (last : Bool) (place : ℕ) (b : Box) where
  pub boxed-told : {x : IndexFields} {end : Option ℕ} {inner : List Box} {more : Told} → Boxed limit f calls level enclosing last place b x end inner more
      → indexed_box limit f (suc calls) level enclosing last place b ≡ given (box_told level place x end more)
  unfolding indexed_box
  boxed-told t = rw (t.fields, t.sized, t.ended, t.right_end, t.boxes, t.single, t.list, t.fills)

  pub told-boxed : {told : Told} → indexed_box limit f (suc calls) level enclosing last place b ≡ given told
      → (x : IndexFields) × (end : Option ℕ) × (inner : List Box) × (more : Told) × Boxed limit f calls level enclosing last place b x end inner more × (box_told level place x end more ≡ told)
  unfolding indexed_box
  told-boxed e =
      let (x, fields, e1) = both_given (index_fields f b) _ e in
      let end : Option ℕ = end_from enclosing place x in
      let (sized, e2) = held 36 (last_or_sized last x) _ e1 in
      let (right_end, e3) = held 36 (end_right limit place x end) _ e2 in
      let (inner, boxes, e4) = both_given (list_framed (boxes_in Bidx f x.list b.end)) _ e3 in
      let (single, e5) = held 36 (right Bidx frpa inner) _ e4 in
      let (more, list, e6) = both_given (index_list limit f calls (level + 1) end (place + x.front + front_part inner) (those bidx inner)) _ e5 in
      let (fills, e7) = held 36 (wherever (λ filled. wherever (eqb filled) end) more.end) _ e6 in
      (x, end, inner, more, record { fields = fields; sized = sized; ended = refl; right_end = right_end; boxes = boxes; single = single; list = list; fills = fills }, given_same e7)

-- ---- where every end is known, the size of the source says nothing more

-- an end that is known where nothing encloses it is by the size that is stated
end_stated : (place : ℕ) (x : IndexFields) (size : Option ℕ) → is_known (end_from None place x) ≡ true → end_from size place x ≡ end_from None place x
unfolding end_from is_known
end_stated place x size e = go x.size e
  where
    go : (s : Option ℕ) → is_known (elim s [ Some n ↦ Some (place + n) | None ↦ None ]) ≡ true
        → ◌≡◌ {A = Option ℕ} (elim s [ Some n ↦ Some (place + n) | None ↦ size ]) (elim s [ Some n ↦ Some (place + n) | None ↦ None ])
    go (Some n) e = refl
    go None e = absurd (true≢false (sym e))

abbrev pub known : Indexed → Bool
known i = is_known i.end

module _ (limit : ℕ) (f : List ℕ) where
  box-sized : (calls level : ℕ) (size : Option ℕ) (last : Bool) (place : ℕ) (b : Box) (told : Told) → indexed_box limit f calls level None last place b ≡ given told
      → all_of known told.boxes ≡ true
      → indexed_box limit f calls level size last place b ≡ given told
  unfolding indexed_box all_of
  box-sized zero level size last place b told e all = e
  box-sized (suc calls) level size last place b told e all =
      let (x, end, inner, more, t, same) = told-boxed limit f calls level None last place b e in
      let pass : (is_known end && all_of known more.boxes) ≡ true = subst (λ (u : Told). all_of known u.boxes ≡ true) (sym same) all in
      let stated = end_stated place x size (rw t.ended (both (is_known end) (all_of known more.boxes) pass).0) in
      boxed-told limit f calls level size last place b (record {
        fields = t.fields;
        sized = t.sized;
        ended = stated ∙ t.ended;
        right_end = t.right_end;
        boxes = t.boxes;
        single = t.single;
        list = t.list;
        fills = t.fills;
      })
      ∙ ap given same

  -- the same of a list
  pub list_sized : (calls level : ℕ) (size : Option ℕ) (place : ℕ) (bs : List Box) (told : Told) → index_list limit f calls level None place bs ≡ given told
      → all_of known told.boxes ≡ true
      → index_list limit f calls level size place bs ≡ given told
  unfolding index_list
  list_sized zero level size place bs told e all = e
  list_sized (suc calls) level size place bs told e all =
      row_given known _ _ (λ last at b t. box-sized calls level size last at b t) bs place told e all

-- ---- a higher limit

module _ (low high : ℕ) (raised : low ≤ high) (f : List ℕ) where
  end_raised : (place : ℕ) (x : IndexFields) (end : Option ℕ) → end_right low place x end ≡ true → end_right high place x end ≡ true
  unfolding end_right wherever
  end_raised place x None e = refl
  end_raised place x (Some end) e =
      let (over, under) = both (leb (place + x.front) end) (leb end low) e in
      rw (over, le-leb end high (omega (arith, leb-true end low under, raised)))

  mutual
    unfolding index_list

    list_raised : (calls level : ℕ) (enclosing : Option ℕ) (place : ℕ) (bs : List Box) (told : Told) → index_list low f calls level enclosing place bs ≡ given told
        → index_list high f calls level enclosing place bs ≡ given told
    list_raised zero level enclosing place bs told e = e
    list_raised (suc calls) level enclosing place bs told e =
        row_given (λ _. true) _ _ (λ last at b t e _. box_raised calls level enclosing last at b t e) bs place told e (all_true told.boxes)

    box_raised : (calls level : ℕ) (enclosing : Option ℕ) (last : Bool) (place : ℕ) (b : Box) (told : Told) → indexed_box low f calls level enclosing last place b ≡ given told
        → indexed_box high f calls level enclosing last place b ≡ given told
    box_raised zero level enclosing last place b told e = e
    box_raised (suc calls) level enclosing last place b told e =
        let (x, end, inner, more, t, same) = told-boxed low f calls level enclosing last place b e in
        boxed-told high f calls level enclosing last place b (record {
          fields = t.fields;
          sized = t.sized;
          ended = t.ended;
          right_end = end_raised place x end t.right_end;
          boxes = t.boxes;
          single = t.single;
          list = list_raised calls (level + 1) end (place + x.front + front_part inner) (those bidx inner) more t.list;
          fills = t.fills;
        })
        ∙ ap given same

  in-raised : (c : Container) (bs : List Box) (size : Option ℕ) (start : ℕ) (boxes : List Indexed) → index_in low f c bs size start ≡ given boxes → index_in high f c bs size start ≡ given boxes
  unfolding index_in
  in-raised c bs size start boxes e =
      let (single, e1) = held 36 (right c fidx bs) _ e in
      rw single (go (those fidx bs) e1)
    where
      go : (cs : List Box)
          → ◌≡◌ {A = Answer (List Indexed)} (elim cs [ [] ↦ given [] | b ∷ _ ↦ list_framed (boxes_in Fidx f b.body b.end) >>= λ inner. index_list low f call_limit 1 size start (those bidx inner) >>= λ told. given told.boxes ]) (given boxes)
          → ◌≡◌ {A = Answer (List Indexed)} (elim cs [ [] ↦ given [] | b ∷ _ ↦ list_framed (boxes_in Fidx f b.body b.end) >>= λ inner. index_list high f call_limit 1 size start (those bidx inner) >>= λ told. given told.boxes ]) (given boxes)
      go [] e = e
      go (b ∷ cs) e =
          let (inner, framed, e1) = both_given (list_framed (boxes_in Fidx f b.body b.end)) _ e in
          let (told, list, e2) = both_given (index_list low f call_limit 1 size start (those bidx inner)) _ e1 in
          rw (framed, list_raised call_limit 1 size start (those bidx inner) told list) e2

  module _ (size : List (List ℕ) → Option ℕ) where
    for_raised : (us : List (List ℕ)) (c : Container) (bs : List Box) (start : ℕ) (boxes : List SourceBox) → index_for low f size us c bs start ≡ given boxes
        → index_for high f size us c bs start ≡ given boxes
    unfolding index_for
    for_raised us c bs start boxes e =
        let (is, told, e1) = both_given (index_in low f c bs (size us) start) _ e in
        rw (in-raised c bs (size us) start is told) e1

    segments_raised : (ss : List Segment) (boxes : List SourceBox) → index_of_segments low f size ss ≡ given boxes → index_of_segments high f size ss ≡ given boxes
    unfolding index_of_segments
    segments_raised [] boxes e = e
    segments_raised (s ∷ ss) boxes e =
        let (first, here, e1) = both_given (index_for low f size s.urls Pseg s.inner s.source_offset) _ e in
        let (later, there, e2) = both_given (index_of_segments low f size ss) _ e1 in
        rw (for_raised s.urls Pseg s.inner s.source_offset first here, segments_raised ss later there) e2

  pub index_raised : (h : Heading) (ss : List Segment) (boxes : List SourceBox) → index_of low f h ss ≡ given boxes → index_of high f h ss ≡ given boxes
  unfolding index_of
  index_raised h ss boxes e =
      let (first, here, e1) = both_given (index_for low f (size_for ss) h.urls Pfil h.inner 0) _ e in
      let (later, there, e2) = both_given (index_of_segments low f (size_for ss) ss) _ e1 in
      rw (for_raised (size_for ss) h.urls Pfil h.inner 0 first here, segments_raised (size_for ss) ss later there) e2
