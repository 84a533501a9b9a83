-- What is put behind a file changes nothing of its index: an index is read from the bytes of its own boxes.
use Prim.Native.Nat.{ℕ, zero, suc, ◌+◌, ◌≤◌}
use mathlib.Core.Bool.{Bool, true, false}
use mathlib.Core.List.{List, [], ◌∷◌, ◌++◌}
use mathlib.Core.Logic.{inl, inr}
use Rattle.std.specs.Prelude.{Option, None, Some}
use mathlib.Core.Path.{◌≡◌, refl, sym, ap, ◌∙◌}
use native.Mathlib.Omega.{arith}
use borrow.Author.Tests.{leb-true}
use lib.Dec.{leb, eqb}
use lib.ListN.{length}
use Rattle.boxes.specs.Answer.{Answer, refused, given, ◌>>=◌, hold}
use Rattle.numerals.specs.Numbers.{number}
use Rattle.boxes.specs.Framing.{Box, user_size, boxes_in}
use Rattle.boxes.specs.Kinds.{fidx, bidx, frpa, right, those}
use Rattle.boxes.specs.declared.kinds.Container.{Container}
use Rattle.boxes.specs.declared.kinds.Container.TheVariants.{Fidx, Bidx}
use Rattle.boxes.proofs.AnswerLaws.{not_both}
use Rattle.boxes.proofs.ContainerLaws.{boxes_kept}
use Rattle.numerals.proofs.NumberLaws.{number_append}
use Rattle.partial.specs.Sequences.{all_of}
use Rattle.partial.specs.Index.{IndexFields, size_by, front_by, index_fields, end_from, end_right, front_part, list_framed, Told, none_follows, in_aRow, index_list, indexed_box}
use Rattle.partial.specs.Index.{Indexed, last_or_sized, with_rest, wherever, call_limit, index_in}
use Rattle.partial.proofs.Meaning.SequenceLaws.{which, both}
use Rattle.partial.proofs.Reading.HeadingAppendLaws.{lies, lies_ends, boxes_lie, those_all, further_lie}

-- what follows an answer is the same where it is so of the value that it gives
pub then-known : {A B : Type 0} (x : Answer A) (next next' : A → Answer B) → ((a : A) → x ≡ given a → next a ≡ next' a) → (x >>= next) ≡ (x >>= next')
then-known (refused n) next next' same = refl
then-known (given a) next next' same = same a refl

-- boxes that were framed as an index list were framed
pub list-framed : {A : Type 0} (x : Answer A) {a : A} → list_framed x ≡ given a → x ≡ given a
unfolding list_framed
list-framed (refused n) e = absurd (not_both e)
list-framed (given a) e = e

-- boxes in a row of which the same is told one by one
row_same : (test : Box → Bool) (one two : Bool → ℕ → Box → Answer Told)
    → ((last : Bool) (at : ℕ) (b : Box) → test b ≡ true → one last at b ≡ two last at b)
    → (bs : List Box) → all_of test bs ≡ true → (place : ℕ) → in_aRow one place bs ≡ in_aRow two place bs
unfolding in_aRow all_of
row_same test one two each [] all place = refl
row_same test one two each (b ∷ bs) all place =
    let (here, there) = both (test b) (all_of test bs) all in
    rw (each (none_follows bs) place b here)
    (then-known (two (none_follows bs) place b) _ _
    (λ told _. ap (λ (x : Answer Told). x >>= λ rest. given (with_rest told bs rest)) (row_same test one two each bs there (elim told.end [ Some end ↦ end | None ↦ place ]))))

module _ (f g : List ℕ) where
  -- eight bytes more are looked at only where the header has them
  size_kept : (at size kind : ℕ) → at + front_by size kind ≤ length f → size_by size (number (f ++ g) (at + 8) 8) ≡ size_by size (number f (at + 8) 8)
  unfolding size_by front_by
  size_kept at size kind room = go (eqb size 1) refl
    where
      go : (t : Bool) → eqb size 1 ≡ t → size_by size (number (f ++ g) (at + 8) 8) ≡ size_by size (number f (at + 8) 8)
      go true e =
          let wide : front_by size kind ≡ 16 + user_size kind = ap (λ (t : Bool). (elim t as (λ _. ℕ) [ true ↦ 16 | false ↦ 8 ]) + user_size kind) e in
          rw (number_append f g (at + 8) 8 (omega (arith, room, wide)))
      go false e =
          let same : (large : ℕ) → size_by size large ≡ elim (eqb size 0) [ true ↦ None | false ↦ Some size ] =
          λ large. ap (λ (t : Bool). elim (eqb size 0) as (λ _. Option ℕ) [ true ↦ None | false ↦ Some (elim t [ true ↦ large | false ↦ size ]) ]) e in
          same (number (f ++ g) (at + 8) 8) ∙ sym (same (number f (at + 8) 8))

  fields_kept : (b : Box) → b.end ≤ length f → index_fields (f ++ g) b ≡ index_fields f b
  unfolding index_fields
  fields_kept b ends =
      elim (which (leb (b.body + 8) b.end)) [
        | inr short ↦ rw short
        | inl room ↦
            let there = leb-true (b.body + 8) b.end room in
            rw (number_append f g b.body 4 (omega arith), number_append f g (b.body + 4) 4 (omega arith))
            (then-known (hold 36 (leb (b.body + 8) b.end)) _ _ (λ _ _. behind (number f b.body 4) (number f (b.body + 4) 4)))
      ]
    where
      behind : (size kind : ℕ)
          → ◌>>=◌ {B = IndexFields} (hold 36 (leb (b.body + front_by size kind) b.end)) (λ _. given (record {
            size = size_by size (number (f ++ g) (b.body + 8) 8);
            front = front_by size kind;
            kind = kind;
            list = b.body + front_by size kind;
          }))
          ≡ ◌>>=◌ {B = IndexFields} (hold 36 (leb (b.body + front_by size kind) b.end)) (λ _. given (record {
            size = size_by size (number f (b.body + 8) 8);
            front = front_by size kind;
            kind = kind;
            list = b.body + front_by size kind;
          }))
      behind size kind =
          elim (which (leb (b.body + front_by size kind) b.end)) [
            | inr short ↦ rw short
            | inl room ↦ rw (size_kept b.body size kind (omega (arith, leb-true (b.body + front_by size kind) b.end room, ends)))
          ]

  module _ (limit : ℕ) where
    mutual
      unfolding index_list

      list_kept : (calls level : ℕ) (enclosing : Option ℕ) (place : ℕ) (bs : List Box) → all_of (lies (length f)) bs ≡ true
          → index_list limit (f ++ g) calls level enclosing place bs ≡ index_list limit f calls level enclosing place bs
      list_kept zero level enclosing place bs all = refl
      list_kept (suc calls) level enclosing place bs all =
          row_same (lies (length f)) _ _ (λ last at b here. box_kept calls level enclosing last at b (lies_ends (length f) b here)) bs all place

      box_kept : (calls level : ℕ) (enclosing : Option ℕ) (last : Bool) (place : ℕ) (b : Box) → b.end ≤ length f
          → indexed_box limit (f ++ g) calls level enclosing last place b ≡ indexed_box limit f calls level enclosing last place b
      box_kept zero level enclosing last place b ends = refl
      box_kept (suc calls) level enclosing last place b ends =
          rw (fields_kept b ends)
          (then-known (index_fields f b) _ _
          (λ x _.
          let end = end_from enclosing place x in
          then-known (hold 36 (last_or_sized last x)) _ _
          (λ _ _.
          then-known (hold 36 (end_right limit place x end)) _ _
          (λ _ _.
          rw (boxes_kept f g b.end ends Bidx x.list)
          (then-known (list_framed (boxes_in Bidx f x.list b.end)) _ _
          (λ inner e.
          let lie = further_lie b.end (length f) ends inner (boxes_lie Bidx f x.list b.end inner (list-framed _ e)) in
          then-known (hold 36 (right Bidx frpa inner)) _ _
          (λ _ _.
          ap (λ (y : Answer Told). y >>= λ told. hold 36 (wherever (λ filled. wherever (eqb filled) end) told.end) >>= λ _. given (record {
            boxes = record { level = level; place = place; end = end; kind = x.kind } ∷ told.boxes;
            end = end;
          })) (list_kept calls (level + 1) end (place + x.front + front_part inner) (those bidx inner) (those_all bidx (lies (length f)) inner lie)))))))))

    -- the index in a container whose boxes lie in the file
    pub index_in_kept : (c : Container) (bs : List Box) (size : Option ℕ) (start : ℕ) → all_of (lies (length f)) bs ≡ true
        → index_in limit (f ++ g) c bs size start ≡ index_in limit f c bs size start
    unfolding index_in all_of
    index_in_kept c bs size start all = then-known (hold 36 (right c fidx bs)) _ _ (λ _ _. go (those fidx bs) (those_all fidx (lies (length f)) bs all))
      where
        go : (cs : List Box) → all_of (lies (length f)) cs ≡ true
            → ◌≡◌ {A = Answer (List Indexed)}
            (elim cs [ [] ↦ given [] | b ∷ _ ↦ list_framed (boxes_in Fidx (f ++ g) b.body b.end) >>= λ inner. index_list limit (f ++ g) call_limit 1 size start (those bidx inner) >>= λ told. given told.boxes ])
            (elim cs [ [] ↦ given [] | b ∷ _ ↦ list_framed (boxes_in Fidx f b.body b.end) >>= λ inner. index_list limit f call_limit 1 size start (those bidx inner) >>= λ told. given told.boxes ])
        go [] lie = refl
        go (b ∷ cs) lie =
            let ends = lies_ends (length f) b (both (lies (length f) b) (all_of (lies (length f)) cs) lie).0 in
            rw (boxes_kept f g b.end ends Fidx b.body)
            (then-known (list_framed (boxes_in Fidx f b.body b.end)) _ _
            (λ inner e.
            let inside = further_lie b.end (length f) ends inner (boxes_lie Fidx f b.body b.end inner (list-framed _ e)) in
            ap (λ (x : Answer Told). x >>= λ told. given told.boxes) (list_kept call_limit 1 size start (those bidx inner) (those_all bidx (lies (length f)) inner inside))))
