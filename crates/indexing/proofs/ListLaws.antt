-- Laws of an index list that is read box by box: the boxes so far were told, and those that are left decide.
use Prim.Native.Nat.{ℕ, ◌+◌, ◌-◌, ◌*◌, ◌≤◌}
use mathlib.Core.Bool.{Bool, true, false}
use mathlib.Core.List.{List, [], ◌∷◌}
use Rattle.std.specs.Prelude.{Option, None, Some, Ok, IsErrAnd}
use Rattle.std.proofs.lemmas.Result.{err_from_is_err_and}
use Rattle.refusals.specs.Refusals.{refusal_no}
use Rattle.refusals.specs.declared.Refusal.{Refusal}
use mathlib.Core.Path.{◌≡◌, refl, sym, ap, subst, ◌∙◌}
use native.Mathlib.Omega.{arith}
use lib.Dec.{eqb}
use lib.ListN.{length}
use Rattle.boxes.specs.Answer.{Answer, refused, given}
use Rattle.boxes.specs.Framing.{Box, box_of}
use Rattle.boxes.specs.Kinds.{bidx, is, those}
use Rattle.boxes.specs.Walk.{walk_over, stepped}
use Rattle.boxes.specs.declared.body.Body.{Body}
use Rattle.boxes.specs.declared.framing.Framed.{Framed}
use Rattle.boxes.specs.declared.walk.Walk.{Walk}
use Rattle.boxes.proofs.AnswerLaws.{given_same}
use Rattle.boxes.proofs.KindLaws.{those-nil, those_one, those_other}
use Rattle.boxes.proofs.WalkLaws.{ahead, met, walk_boxes, known_next, known_end, known_sound}
use Rattle.partial.specs.Index.{Told, nothing_told, none_follows, level_limit}
use Rattle.partial.specs.Limits.{file_limit, source_limit}
use Rattle.partial.specs.declared.position.Position.{Position}
use Rattle.indexing.specs.Ends.{end_of}
use Rattle.indexing.specs.Lists.{list_on, box_on, place_after, Placed, ListReady, BoxReady, Read, Counted, Listed}
use Rattle.indexing.specs.Marks.{Marked}
use Rattle.indexing.specs.declared.marks.Marks.{Marks}
use Rattle.indexing.proofs.BoxLaws.{list_opens, box_near}
use Rattle.indexing.proofs.MarksLaws.{marked_none, marked_more}
use Rattle.indexing.proofs.RowLaws.{none-follows, joined, resumed, row_none, row-end, row_refused, row_more}

-- a place after a box is on the level too
place_on : (level : ℕ) {place : ℕ} (e : Option ℕ) → Placed level place → ((n : ℕ) → e ≡ Some n → n ≤ source_limit) → Placed level (place_after place e)
place_on level None placed near = placed
place_on level (Some end) placed near = let low = near end refl in omega arith

module _ (f : List ℕ) (level : ℕ) (enclosing : Option ℕ) (t₀ : List ℕ) (w₀ : Walk) (before : Marks) (from : ℕ) where
  pub record Midway (t : List ℕ) (w : Walk) (m : Marks) (place : ℕ) (filled : Option Position) (left : ℕ) : Type 0 where
    pub all : List Box
    pub rest : List Box
    pub told : Told
    pub started : ahead f w₀ ≡ given all
    pub left_over : ahead f w ≡ given rest
    pub many : left ≡ length (those bidx rest)
    pub decide : list_on f level enclosing from (those bidx all) ≡ resumed (box_on f level enclosing) told place (those bidx rest)
    pub ends : end_of filled ≡ told.end
    pub marked : Marked before t₀ told.boxes m t
    pub deepest : level ≤ level_limit
    pub within : w.at.0 ≤ w.end.0
    pub short : w.end.0 ≤ file_limit
    pub same_end : w.end.0 ≡ w₀.end.0
    pub placed : Placed level place
    pub rows : 16 * m.count ≤ w.at.0

  module _ {t : List ℕ} {w : Walk} {m : Marks} {place : ℕ} {filled : Option Position} {left : ℕ} (so_far : Midway t w m place filled left) where
    module _ (b : Framed) {w' : Walk} (step : stepped f w ≡ given (Some (box_of b, w'))) where
      -- the walk after a box
      onward : (w'.at.0 ≡ b.end.0) × (w'.end.0 ≡ w.end.0) × (b.end.0 ≤ w.end.0) × (w.at.0 ≡ b.at.0) × (b.at.0 + 8 ≤ b.body.0) × (b.body.0 ≤ b.end.0)
      unfolding box_of
      onward =
          let m = met f w step in
          let i = m.inside in
          (ap (λ (w : Walk). w.at.0) m.onward, ap (λ (w : Walk). w.end.0) m.onward, i.ends, sym i.starts, omega (arith, i.front, i.typed), i.whole)

      pub midway_other : is bidx (box_of b) ≡ false → Midway t w' m place filled left
      midway_other other =
          let (more, after, split) = known_next f w so_far.left_over step in
          let same : those bidx so_far.rest ≡ those bidx more = ap (those bidx) split ∙ those_other bidx (box_of b) more other in
          let (at, end, inside, starts, front, whole) = onward in
          record {
            all = so_far.all;
            rest = more;
            told = so_far.told;
            started = so_far.started;
            left_over = after;
            many = so_far.many ∙ ap length same;
            decide = so_far.decide ∙ ap (λ (bs : List Box). resumed (box_on f level enclosing) so_far.told place bs) same;
            ends = so_far.ends;
            marked = so_far.marked;
            deepest = so_far.deepest;
            within = omega arith;
            short = omega arith;
            same_end = end ∙ so_far.same_end;
            placed = so_far.placed;
            rows = omega arith;
          }

      module _ (kind : is bidx (box_of b) ≡ true) where
        next : (more : List Box) × (ahead f w' ≡ given more) × (those bidx so_far.rest ≡ box_of b ∷ those bidx more)
        next =
            let (more, after, split) = known_next f w so_far.left_over step in
            (more, after, ap (those bidx) split ∙ those_one bidx (box_of b) more kind)

        counted : (more : List Box) → those bidx so_far.rest ≡ box_of b ∷ those bidx more → left ≡ length (those bidx more) + 1
        counted more same = omega (arith, so_far.many, ap length same)

        pub one_left : 1 ≤ left
        one_left = let (more, after, same) = next in omega (arith, counted more same)

        -- a box is read where it stands
        pub box_ready : BoxReady b level place m.count
        box_ready =
            let (at, end, inside, starts, front, whole) = onward in
            record { deepest = so_far.deepest; header = front; short = omega (arith, so_far.short); placed = so_far.placed; rows = omega (arith, so_far.rows) }

        -- whether it is the last
        last_is : (more : List Box) → those bidx so_far.rest ≡ box_of b ∷ those bidx more → eqb (left - 1) 0 ≡ none_follows (those bidx more)
        last_is more same =
            let few : left - 1 ≡ length (those bidx more) = omega (arith, counted more same) in
            ap (λ (n : ℕ). eqb n 0) few ∙ sym (none-follows (those bidx more))

        decided : (more : List Box) → those bidx so_far.rest ≡ box_of b ∷ those bidx more
            → list_on f level enclosing from (those bidx so_far.all) ≡ resumed (box_on f level enclosing) so_far.told place (box_of b ∷ those bidx more)
        decided more same = so_far.decide ∙ ap (λ (bs : List Box). resumed (box_on f level enclosing) so_far.told place bs) same

        read_as : {x : Answer Told} (more : List Box) → those bidx so_far.rest ≡ box_of b ∷ those bidx more → box_on f level enclosing (eqb (left - 1) 0) place (box_of b) ≡ x
            → box_on f level enclosing (none_follows (those bidx more)) place (box_of b) ≡ x
        read_as more same read = ap (λ (last : Bool). box_on f level enclosing last place (box_of b)) (sym (last_is more same)) ∙ read

        pub midway_refused : {n : ℕ} → box_on f level enclosing (eqb (left - 1) 0) place (box_of b) ≡ refused n
            → (bs : List Box) → ahead f w₀ ≡ given bs → list_on f level enclosing from (those bidx bs) ≡ refused n
        midway_refused fault bs known =
            let (more, after, same) = next in
            let these : bs ≡ so_far.all = given_same (sym known ∙ so_far.started) in
            ap (λ (bs : List Box). list_on f level enclosing from (those bidx bs)) these ∙ decided more same ∙ row_refused (box_on f level enclosing) so_far.told place (box_of b) (those bidx more) (read_as more same fault)

        pub midway_more : {t' : List ℕ} {m' : Marks} {e : Option Position} {place' : ℕ} → Listed (box_on f level enclosing (eqb (left - 1) 0) place (box_of b)) m t t' (Ok (m', e))
            → Counted b.end.0 (Ok (m', e))
            → place' ≡ place_after place (end_of e)
            → Midway t' w' m' place' e (left - 1)
        unfolding Listed Counted
        midway_more {t'} {m'} {e} {place'} (told, read, ends, marked) rows at_place =
            let (more, after, same) = next in
            let (at, end, inside, starts, front, whole) = onward in
            let here : place' ≡ place_after place told.end = at_place ∙ ap (place_after place) ends in
            record {
              all = so_far.all;
              rest = more;
              told = joined so_far.told told;
              started = so_far.started;
              left_over = after;
              many = omega (arith, counted more same);
              decide = decided more same ∙ row_more (box_on f level enclosing) so_far.told place (box_of b) (those bidx more) (read_as more same read)
                  ∙ ap (λ (p : ℕ). resumed (box_on f level enclosing) (joined so_far.told told) p (those bidx more)) (sym here);
              ends = ends;
              marked = marked_more so_far.marked marked;
              deepest = so_far.deepest;
              within = omega arith;
              short = omega arith;
              same_end = end ∙ so_far.same_end;
              placed = subst (Placed level) (sym here) (place_on level told.end so_far.placed (λ n e. box_near f level so_far.deepest enclosing (eqb (left - 1) 0) place (box_of b) read e));
              rows = omega arith;
            }

    pub midway_end : stepped f w ≡ given None → (bs : List Box) → ahead f w₀ ≡ given bs → Listed (list_on f level enclosing from (those bidx bs)) before t₀ t (Ok (m, filled))
    unfolding Listed
    midway_end step bs known =
        let these : bs ≡ so_far.all = given_same (sym known ∙ so_far.started) in
        let over : those bidx so_far.rest ≡ [] = ap (those bidx) (known_end f w so_far.left_over step) ∙ those-nil bidx in (
          so_far.told,
          ap (λ (bs : List Box). list_on f level enclosing from (those bidx bs)) these
              ∙ so_far.decide
              ∙ ap (λ (bs : List Box). resumed (box_on f level enclosing) so_far.told place bs) over
              ∙ row-end (box_on f level enclosing) so_far.told place,
          so_far.ends,
          so_far.marked,
        )

    pub midway_sound : {n : ℕ} → stepped f w ≡ refused n → ⊥
    midway_sound step = known_sound f w so_far.left_over step

-- where a list begins nothing is told
pub midway_none : {f : List ℕ} {body : Body} {many level from : ℕ} {before : Marks} {w : Walk} (enclosing : Option ℕ) (t : List ℕ)
    → w ≡ walk_over body.container body.start body.end
    → ListReady f body many level from before.count
    → Midway f level enclosing t w before from t w before from None many
midway_none {f} {level = level} {from = from} {before = before} enclosing t new ready =
    let (bs, known, many) = ready.framed in
    record {
      all = bs;
      rest = bs;
      told = nothing_told;
      started = sym (walk_boxes f new) ∙ known;
      left_over = sym (walk_boxes f new) ∙ known;
      many = many;
      decide = list_opens f level ready.deepest enclosing from (those bidx bs) ∙ row_none (box_on f level enclosing) from (those bidx bs);
      ends = refl;
      marked = marked_none before t;
      deepest = ready.deepest;
      within = omega (arith, ap (λ (w : Walk). w.at.0) new, ap (λ (w : Walk). w.end.0) new, ready.ordered);
      short = omega (arith, ap (λ (w : Walk). w.end.0) new, ready.short);
      same_end = refl;
      placed = ready.placed;
      rows = omega (arith, ap (λ (w : Walk). w.at.0) new, ready.rows);
    }

-- a refusal that is handed on says the same
module _ (r : Read) (end : ℕ) (n : Refusal) (handed : IsErrAnd r (λ e. e ≡ n)) where
  pub handed_counted : Counted end r
  unfolding Counted
  handed_counted = let (e, is, same) = err_from_is_err_and r handed in rw is tt

  pub handed_listed : {x : Answer Told} (before : Marks) (t₀ t : List ℕ) → x ≡ refused (refusal_no n) → Listed x before t₀ t r
  unfolding Listed
  handed_listed before t₀ t fault =
      let (e, is, same) = err_from_is_err_and r handed in
      rw is (fault ∙ ap (λ n. refused (refusal_no n)) (sym same))

  pub handed_read : {x : Answer Told} (before : Marks) (t₀ t : List ℕ) → x ≡ refused (refusal_no n) → Counted end r × Listed x before t₀ t r
  handed_read before t₀ t fault = (handed_counted, handed_listed before t₀ t fault)
