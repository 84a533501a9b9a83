-- The boxes of an index whose ends are known are nested: each stands before those of its own list, which lie inside it.
use Prim.Native.Nat.{ℕ, zero, suc, ◌+◌, ◌≤◌, ◌<◌}
use mathlib.Core.Bool.{Bool, true, false, ◌&&◌, true≢false}
use mathlib.Core.List.{List, [], ◌∷◌, ◌++◌, map, cons≢nil}
use Rattle.std.specs.Prelude.{Option, None, Some}
use mathlib.Core.Path.{◌≡◌, refl, sym, ap, subst, ◌∙◌}
use native.Mathlib.Omega.{arith}
use borrow.Author.Tests.{leb-true, eqb-true}
use lib.Dec.{leb, eqb}
use Rattle.boxes.specs.Answer.{Answer, given, ◌>>=◌}
use Rattle.numerals.specs.Numbers.{number}
use Rattle.boxes.specs.Framing.{Box, user_size, boxes_in}
use Rattle.boxes.specs.Kinds.{fidx, bidx, right, those}
use Rattle.boxes.specs.declared.kinds.Container.{Container}
use Rattle.boxes.specs.declared.kinds.Container.TheVariants.{Pfil, Pseg, Fidx}
use Rattle.boxes.proofs.AnswerLaws.{both_given, held, given_same}
use Rattle.partial.specs.Sequences.{all_of}
use Rattle.partial.specs.Index.{IndexFields, is_known, wherever, end_right, front_part, Indexed, Told, none_follows, with_rest, in_aRow, untold, index_list, indexed_box, list_framed, call_limit}
use Rattle.partial.specs.Index.{index_fields, front_by, indexed_size, index_in, SourceBox, boxes_alone, size_for, index_for, index_of_segments, indexed}
use Rattle.partial.specs.Segments.{Segment}
use Rattle.partial.specs.Heading.{Heading}
use Rattle.partial.specs.IndexShape.{Inside, Under, Nested, Stepwise, InOrder}
use Rattle.partial.proofs.Meaning.SequenceLaws.{both, all_append, Each, each_append}
use Rattle.partial.proofs.Reading.IndexGivenLaws.{known, box_told, told-boxed}
use Rattle.partial.proofs.Reading.IndexedLaws.{belonging_alone, alone_append, all_alone, indexed_whole}

-- ---- boxes behind others

each_by : (P Q : Indexed → Type 0) → ((i : Indexed) → P i → Q i) → (is : List Indexed) → Each P is → Each Q is
each_by P Q of [] each = tt
each_by P Q of (i ∷ is) (here, each) = (of i here, each_by P Q of is each)

-- the first box, if there is one, is of a level
abbrev Starts : ℕ → List Indexed → Type 0
Starts level [] = Unit {0}
Starts level (i ∷ is) = i.level ≡ level

under_append : (i : Indexed) (xs ys : List Indexed) → Under i xs → Under i ys → Under i (xs ++ ys)
under_append i [] ys one two = two
under_append i (x ∷ xs) ys one two = λ deeper.
    let (inside, rest) = one deeper in
    (inside, under_append i xs ys rest two)

-- a box that is not above the first of others has none of them under it
under_none : (i : Indexed) (level : ℕ) (ys : List Indexed) → Starts level ys → level ≤ i.level → Under i ys
under_none i level [] starts low = tt
under_none i level (y ∷ ys) starts low = λ deeper. absurd (omega (arith, starts, low, deeper))

nested-append : (level : ℕ) (xs ys : List Indexed) → Nested xs → Each (λ i. level ≤ i.level) xs → Nested ys → Starts level ys → Nested (xs ++ ys)
nested-append level [] ys one low two starts = two
nested-append level (x ∷ xs) ys (under, one) (here, low) two starts =
    (under_append x xs ys under (under_none x level ys starts here), nested-append level xs ys one low two starts)

stepwise_append : (level before : ℕ) (xs ys : List Indexed) → Stepwise before xs → Each (λ i. level ≤ i.level) xs → level ≤ before + 1
    → ((from : ℕ) → level ≤ from + 1 → Stepwise from ys)
    → Stepwise before (xs ++ ys)
stepwise_append level before [] ys one low near two = two before near
stepwise_append level before (x ∷ xs) ys (some_level, next, one) (here, low) near two =
    (some_level, next, stepwise_append level x.level xs ys one low (omega (arith, here)) two)

-- ---- what is told of a list, and of a box of it, on a level and from a place on

-- a box ends where another place is, or before
abbrev EndsBy : ℕ → Indexed → Type 0
EndsBy end i = (d : ℕ) → i.end ≡ Some d → d ≤ end

-- a box has some bytes
abbrev Filled : Indexed → Type 0
Filled i = 0 < indexed_size i

pub record Shaped (level place : ℕ) (told : Told) : Type 0 where
  pub nested : Nested told.boxes
  pub stepwise : (before : ℕ) → level ≤ before + 1 → Stepwise before told.boxes
  pub starts : Starts level told.boxes
  pub low : Each (λ i. level ≤ i.level) told.boxes
  pub from : Each (λ i. place ≤ i.place) told.boxes
  pub sized : Each Filled told.boxes
  pub to : (end : ℕ) → told.end ≡ Some end → Each (EndsBy end) told.boxes × (place ≤ end)
  pub ended : (told.boxes ≡ [] → ⊥) → (end : ℕ) × (told.end ≡ Some end)

-- an end that is known is one
some_end : (end : Option ℕ) → is_known end ≡ true → (e : ℕ) × (end ≡ Some e)
unfolding is_known
some_end None h = absurd (true≢false (sym h))
some_end (Some e) h = (e, refl)

some_same : {a b : ℕ} → ◌≡◌ {A = Option ℕ} (Some a) (Some b) → a ≡ b
some_same e = cc

under_each : (i : Indexed) (is : List Indexed) → Each (Inside i) is → Under i is
under_each i [] each = tt
under_each i (j ∷ js) (here, each) = λ _. (here, under_each i js each)

each_both : (P Q R : Indexed → Type 0) → ((i : Indexed) → P i → Q i → R i) → (is : List Indexed) → Each P is → Each Q is → Each R is
each_both P Q R of [] one two = tt
each_both P Q R of (i ∷ is) (p, one) (q, two) = (of i p q, each_both P Q R of is one two)

-- a header has some bytes
front_some : (f : List ℕ) (b : Box) {x : IndexFields} → index_fields f b ≡ given x → 0 < x.front
unfolding index_fields front_by
front_some f b e =
    let (_, e1) = held 36 (leb (b.body + 8) b.end) _ e in
    let size = number f b.body 4 in
    let kind = number f (b.body + 4) 4 in
    let (_, e2) = held 36 (leb (b.body + front_by size kind) b.end) _ e1 in
    subst (λ (x : IndexFields). 0 < x.front) (given_same e2) (go (eqb size 1) (user_size kind))
  where
    go : (large : Bool) (user : ℕ) → 0 < (elim large as (λ _. ℕ) [ true ↦ 16 | false ↦ 8 ]) + user
    go true user = omega arith
    go false user = omega arith

-- a box around a list that it is filled by
module _ (limit level place : ℕ) (some_level : 1 ≤ level) (x : IndexFields) (some-front : 0 < x.front) (inner : List Box) (more : Told)
    (shape : Shaped (level + 1) (place + x.front + front_part inner) more) where
  filled_by : (e : ℕ) → wherever (λ filled. wherever (eqb filled) (Some e)) more.end ≡ true → (f : ℕ) → more.end ≡ Some f → f ≡ e
  unfolding wherever
  filled_by e fills f same = eqb-true f e (subst (λ (end : Option ℕ). wherever (λ filled. wherever (eqb filled) (Some e)) end ≡ true) same fills)

  inner_ends : (e : ℕ) → wherever (λ filled. wherever (eqb filled) (Some e)) more.end ≡ true → Each (EndsBy e) more.boxes
  inner_ends e fills = go more.boxes refl
    where
      go : (is : List Indexed) → more.boxes ≡ is → Each (EndsBy e) more.boxes
      go [] same = subst (Each (EndsBy e)) (sym same) tt
      go (i ∷ is) same =
          let (f, ends) = shape.ended (λ empty. cons≢nil (sym same ∙ empty)) in
          subst (λ (n : ℕ). Each (EndsBy n) more.boxes) (filled_by e fills f ends) (shape.to f ends).0

  boxed_shape : (e : ℕ) → end_right limit place x (Some e) ≡ true → wherever (λ filled. wherever (eqb filled) (Some e)) more.end ≡ true
      → Shaped level place (box_told level place x (Some e) more)
  unfolding end_right wherever indexed_size
  boxed_shape e right_end fills =
      let (over, _) = both (leb (place + x.front) e) (leb e limit) right_end in
      let room : place + x.front ≤ e = leb-true (place + x.front) e over in
      let own : Indexed = record { level = level; place = place; end = Some e; kind = x.kind } in
      let ends = inner_ends e fills in
      let inside = each_both (λ i. place + x.front + front_part inner ≤ i.place) (EndsBy e) (Inside own) (λ i low by. record { from = omega (arith, low); to = λ a b own-end end. omega (arith, some_same own-end, by b end) }) more.boxes shape.from ends in
      record {
        nested = (under_each own more.boxes inside, shape.nested);
        stepwise = λ before near. (some_level, near, shape.stepwise level (omega arith));
        starts = refl;
        low = (omega arith, each_by (λ i. level + 1 ≤ i.level) (λ i. level ≤ i.level) (λ i low. omega (arith, low)) more.boxes shape.low);
        from = (omega arith, each_by (λ i. place + x.front + front_part inner ≤ i.place) (λ i. place ≤ i.place) (λ i low. omega (arith, low)) more.boxes shape.from);
        sized = (omega (arith, room, some-front), shape.sized);
        to = λ end same.
            let at : e ≡ end = some_same same in
            ((λ d own-end. omega (arith, some_same own-end, at), subst (λ (n : ℕ). Each (EndsBy n) more.boxes) at ends), omega (arith, room, at));
        ended = λ _. (e, refl);
      }

-- a box before the others of its list, which start where it ends
module _ (level place e : ℕ) (t rest : Told) (one : Shaped level place t) (ends : t.end ≡ Some e) (two : Shaped level e rest) (some-rest : rest.boxes ≡ [] → ⊥) where
  joined : Shaped level place (record { boxes = t.boxes ++ rest.boxes; end = rest.end })
  joined =
      let (by, over) = one.to e ends in
      record {
        nested = nested-append level t.boxes rest.boxes one.nested one.low two.nested two.starts;
        stepwise = λ before near. stepwise_append level before t.boxes rest.boxes (one.stepwise before near) one.low near two.stepwise;
        starts = first t.boxes one.starts;
        low = each_append (λ i. level ≤ i.level) t.boxes rest.boxes one.low two.low;
        from = each_append (λ i. place ≤ i.place) t.boxes rest.boxes one.from (each_by (λ i. e ≤ i.place) (λ i. place ≤ i.place) (λ i low. omega (arith, low, over)) rest.boxes two.from);
        sized = each_append Filled t.boxes rest.boxes one.sized two.sized;
        to = λ end same.
            let (others, later) = two.to end same in
            (each_append (EndsBy end) t.boxes rest.boxes (each_by (EndsBy e) (EndsBy end) (λ i by d own. omega (arith, by d own, later)) t.boxes by) others, omega (arith, over, later));
        ended = λ _. two.ended some-rest;
      }
    where
      first : (xs : List Indexed) → Starts level xs → Starts level (xs ++ rest.boxes)
      first [] starts = two.starts
      first (x ∷ xs) starts = starts

nothing_shaped : (level place : ℕ) → Shaped level place (record { boxes = []; end = None })
nothing_shaped level place =
    record {
      nested = tt;
      stepwise = λ before near. tt;
      starts = tt;
      low = tt;
      from = tt;
      sized = tt;
      to = λ end same. absurd (none_some same);
      ended = λ some-box. absurd (some-box refl);
    }
  where
    none_some : {n : ℕ} → ◌≡◌ {A = Option ℕ} None (Some n) → ⊥
    none_some e = let z : ◌≡◌ {A = ℕ} 0 1 = cc in omega arith

-- boxes in a row
module _ (level : ℕ) (one : Bool → ℕ → Box → Answer Told)
    (each : (last : Bool) (at : ℕ) (b : Box) (told : Told) → one last at b ≡ given told → all_of known told.boxes ≡ true → Shaped level at told × (told.boxes ≡ [] → ⊥)) where
  row_shaped : (bs : List Box) (place : ℕ) (told : Told) → in_aRow one place bs ≡ given told → all_of known told.boxes ≡ true
      → Shaped level place told × ((bs ≡ [] → ⊥) → told.boxes ≡ [] → ⊥)
  unfolding in_aRow with_rest
  row_shaped [] place told e all =
      (subst (Shaped level place) (given_same e) (nothing_shaped level place), λ some-box. absurd (some-box refl))
  row_shaped (b ∷ []) place told e all =
      let (t, here, e1) = both_given (one (none_follows []) place b) _ e in
      let same : t ≡ told = given_same e1 in
      let (shape, there) = each (none_follows []) place b t here (subst (λ (u : Told). all_of known u.boxes ≡ true) (sym same) all) in
      (subst (Shaped level place) same shape, λ _. subst (λ (u : Told). u.boxes ≡ [] → ⊥) same there)
  row_shaped (b ∷ c ∷ bs) place told e all =
      let (t, here, e1) = both_given (one (none_follows (c ∷ bs)) place b) _ e in
      let (rest, there, e2) = both_given (in_aRow one (elim t.end [ Some end ↦ end | None ↦ place ]) (c ∷ bs)) _ e1 in
      let whole : Told = record { boxes = t.boxes ++ rest.boxes; end = rest.end } in
      let same : whole ≡ told = given_same e2 in
      let pass = subst (λ (u : Told). all_of known u.boxes ≡ true) (sym same) all in
      let (first, later) = both (all_of known t.boxes) (all_of known rest.boxes) (rw all_append at pass) in
      let (shape, some-box) = each (none_follows (c ∷ bs)) place b t here first in
      let (end, ends) = shape.ended some-box in
      let next : in_aRow one end (c ∷ bs) ≡ given rest = subst (λ (o : Option ℕ). in_aRow one (elim o as (λ _. ℕ) [ Some end ↦ end | None ↦ place ]) (c ∷ bs) ≡ given rest) ends there in
      let (others, some-rest) = row_shaped (c ∷ bs) end rest next later in
      (subst (Shaped level place) same (joined level place end t rest shape ends others (some-rest cons≢nil)), λ _. subst (λ (u : Told). u.boxes ≡ [] → ⊥) same (some_first t rest some-box))
    where
      some_first : (t rest : Told) → (t.boxes ≡ [] → ⊥) → t.boxes ++ rest.boxes ≡ [] → ⊥
      some_first t rest some-box = go t.boxes some-box
        where
          go : (xs : List Indexed) → (xs ≡ [] → ⊥) → xs ++ rest.boxes ≡ [] → ⊥
          go [] some-here empty = some-here refl
          go (x ∷ xs) some-here empty = cons≢nil empty

-- ---- the list and the box

-- a level takes two calls
abbrev Even : ℕ → Type 0
Even zero = Unit {0}
Even (suc zero) = ⊥
Even (suc (suc n)) = Even n

module _ (limit : ℕ) (f : List ℕ) where
  -- a box, by what is so of the list inside
  box_shaped : (calls level : ℕ) → 1 ≤ level
      → ((enclosing : Option ℕ) (place : ℕ) (bs : List Box) (told : Told) → index_list limit f calls (level + 1) enclosing place bs ≡ given told → all_of known told.boxes ≡ true → Shaped (level + 1) place told)
      → (enclosing : Option ℕ) (last : Bool) (place : ℕ) (b : Box) (told : Told)
      → indexed_box limit f (suc calls) level enclosing last place b ≡ given told
      → all_of known told.boxes ≡ true
      → Shaped level place told × (told.boxes ≡ [] → ⊥)
  unfolding all_of
  box_shaped calls level some_level list enclosing last place b told e all =
      let (x, end, inner, more, t, same) = told-boxed limit f calls level enclosing last place b e in
      let pass : (is_known end && all_of known more.boxes) ≡ true = subst (λ (u : Told). all_of known u.boxes ≡ true) (sym same) all in
      let (ended, others) = both (is_known end) (all_of known more.boxes) pass in
      let (at, is) = some_end end ended in
      let from : ℕ = place + x.front + front_part inner in
      let shape = list end from (those bidx inner) more t.list others in
      let box = boxed_shape limit level place some_level x (front_some f b t.fields) inner more shape at (rw is at t.right_end) (rw is at t.fills) in
      (subst (Shaped level place) (ap (λ (o : Option ℕ). box_told level place x o more) (sym is) ∙ same) box, subst (λ (u : Told). u.boxes ≡ [] → ⊥) same cons≢nil)

  -- boxes of a ninth level have no end that is known
  unopened : (level place : ℕ) (bs : List Box) (told : Told) → given (record { boxes = map (untold level) bs; end = None }) ≡ given told → all_of known told.boxes ≡ true → Shaped level place told
  unfolding all_of untold is_known
  unopened level place [] told e all = subst (Shaped level place) (given_same e) (nothing_shaped level place)
  unopened level place (b ∷ bs) told e all = absurd (true≢false (sym (subst (λ (u : Told). all_of known u.boxes ≡ true) (sym (given_same e)) all)))

  pub list_shaped : (calls : ℕ) → Even calls → (level : ℕ) → 1 ≤ level → (enclosing : Option ℕ) (place : ℕ) (bs : List Box) (told : Told)
      → index_list limit f calls level enclosing place bs ≡ given told
      → all_of known told.boxes ≡ true
      → Shaped level place told
  unfolding index_list
  list_shaped zero even level some_level enclosing place bs told e all = unopened level place bs told e all
  list_shaped (suc zero) even level some_level enclosing place bs told e all = absurd even
  list_shaped (suc (suc calls)) even level some_level enclosing place bs told e all =
      (row_shaped level _ (λ last at b t. box_shaped calls level some_level (list_shaped calls even (level + 1) (omega arith)) enclosing last at b t) bs place told e all).0

-- ---- the index of a file

-- boxes of lists that start on level one
record Listed (boxes : List Indexed) : Type 0 where
  nested : Nested boxes
  stepwise : (before : ℕ) → Stepwise before boxes
  starts : Starts 1 boxes
  low : Each (λ i. 1 ≤ i.level) boxes
  sized : Each Filled boxes

none_listed : Listed []
none_listed = record { nested = tt; stepwise = λ before. tt; starts = tt; low = tt; sized = tt }

listed-append : (xs ys : List Indexed) → Listed xs → Listed ys → Listed (xs ++ ys)
listed-append xs ys one two =
    record {
      nested = nested-append 1 xs ys one.nested one.low two.nested two.starts;
      stepwise = λ before. stepwise_append 1 before xs ys (one.stepwise before) one.low (omega arith) (λ from _. two.stepwise from);
      starts = first xs one.starts;
      low = each_append (λ i. 1 ≤ i.level) xs ys one.low two.low;
      sized = each_append Filled xs ys one.sized two.sized;
    }
  where
    first : (xs : List Indexed) → Starts 1 xs → Starts 1 (xs ++ ys)
    first [] starts = two.starts
    first (x ∷ xs) starts = starts

module _ (limit : ℕ) (f : List ℕ) where
  in-listed : (c : Container) (bs : List Box) (size : Option ℕ) (start : ℕ) (boxes : List Indexed) → index_in limit f c bs size start ≡ given boxes → all_of known boxes ≡ true → Listed boxes
  unfolding index_in
  in-listed c bs size start boxes e all =
      let (_, e1) = held 36 (right c fidx bs) _ e in
      go (those fidx bs) e1
    where
      go : (cs : List Box)
          → ◌≡◌ {A = Answer (List Indexed)} (elim cs [ [] ↦ given [] | b ∷ _ ↦ list_framed (boxes_in Fidx f b.body b.end) >>= λ inner. index_list limit f call_limit 1 size start (those bidx inner) >>= λ told. given told.boxes ]) (given boxes)
          → Listed boxes
      go [] e = subst Listed (given_same e) none_listed
      go (b ∷ cs) e =
          let (inner, _, e1) = both_given (list_framed (boxes_in Fidx f b.body b.end)) _ e in
          let (told, list, e2) = both_given (index_list limit f call_limit 1 size start (those bidx inner)) _ e1 in
          let same : told.boxes ≡ boxes = given_same e2 in
          let shape = list_shaped limit f call_limit tt 1 (omega arith) size start (those bidx inner) told list (rw same all) in
          subst Listed same (record { nested = shape.nested; stepwise = λ before. shape.stepwise before (omega arith); starts = shape.starts; low = shape.low; sized = shape.sized })

  -- of sources, by where each ends
  abbrev ListedAlone : List SourceBox → Type 0
  ListedAlone is = Listed (boxes_alone is)

  alone_listed : (xs ys : List SourceBox) → ListedAlone xs → ListedAlone ys → ListedAlone (xs ++ ys)
  alone_listed xs ys one two = rw (alone_append xs ys) (listed-append (boxes_alone xs) (boxes_alone ys) one two)

  module _ (size : List (List ℕ) → Option ℕ) where
    for_listed : (us : List (List ℕ)) (c : Container) (bs : List Box) (start : ℕ) (boxes : List SourceBox) → index_for limit f size us c bs start ≡ given boxes
        → all_of known (boxes_alone boxes) ≡ true
        → ListedAlone boxes
    unfolding index_for
    for_listed us c bs start boxes e all =
        let (is, told, e1) = both_given (index_in limit f c bs (size us) start) _ e in
        let ended : all_of known is ≡ true = rw (belonging_alone us is) at (subst (λ (xs : List SourceBox). all_of known (boxes_alone xs) ≡ true) (sym (given_same e1)) all) in
        subst ListedAlone (given_same e1) (rw (belonging_alone us is) (in-listed c bs (size us) start is told ended))

    segments-listed : (ss : List Segment) (boxes : List SourceBox) → index_of_segments limit f size ss ≡ given boxes → all_of known (boxes_alone boxes) ≡ true → ListedAlone boxes
    unfolding index_of_segments boxes_alone
    segments-listed [] boxes e all = subst ListedAlone (given_same e) none_listed
    segments-listed (s ∷ ss) boxes e all =
        let (first, here, e1) = both_given (index_for limit f size s.urls Pseg s.inner s.source_offset) _ e in
        let (later, there, e2) = both_given (index_of_segments limit f size ss) _ e1 in
        let same : first ++ later ≡ boxes = given_same e2 in
        let (one, others) = all_alone known first later (subst (λ (is : List SourceBox). all_of known (boxes_alone is) ≡ true) (sym same) all) in
        subst ListedAlone same (alone_listed first later (for_listed s.urls Pseg s.inner s.source_offset first here one) (segments-listed ss later there others))

  -- what is told of the index of an accepted file is in order, and no box of it is empty
  pub indexed_order : (h : Heading) (ss : List Segment) (boxes : List SourceBox) → indexed limit f h ss ≡ given boxes → InOrder (boxes_alone boxes) × Each Filled (boxes_alone boxes)
  indexed_order h ss boxes e =
      let (first, later, t, same) = indexed_whole limit f h ss e in
      let (one, others) = all_alone known first later t.ended in
      let size = size_for ss in
      let all = alone_listed first later (for_listed size h.urls Pfil h.inner 0 first t.in_pfil one) (segments-listed size ss later t.in_segments others) in
      subst (λ (is : List SourceBox). InOrder (boxes_alone is) × Each Filled (boxes_alone is)) same
      (record { nested = all.nested; stepwise = all.stepwise 0; deepest = rw t.shallow tt; ended = rw t.ended tt }, all.sized)
