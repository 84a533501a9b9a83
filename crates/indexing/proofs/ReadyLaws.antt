-- Laws of an indexed box that is read: where its list lies, what is known where that is read, and what an answer says.
use Prim.Native.Nat.{ℕ, ◌+◌, ◌-◌, ◌*◌, ◌≤◌, ◌<◌}
use mathlib.Core.Bool.{Bool, true, false}
use mathlib.Core.List.{List, [], ◌∷◌, map}
use Rattle.std.specs.Prelude.{Option, Ok}
use mathlib.Core.Path.{◌≡◌, refl, sym, ap, ◌∙◌}
use native.Mathlib.Omega.{arith}
use lib.Dec.{eqb}
use lib.ListN.{length}
use Rattle.boxes.specs.Answer.{Answer, refused, given, ◌>>=◌}
use Rattle.boxes.specs.Framing.{Box, box_of}
use Rattle.boxes.specs.Kinds.{bidx, those}
use Rattle.boxes.specs.declared.framing.Framed.{Framed}
use Rattle.boxes.specs.declared.kinds.Container.TheVariants.{Bidx}
use Rattle.boxes.proofs.AnswerLaws.{not_both, given_same, both_given}
use Rattle.partial.specs.Index.{Told, wherever, front_part, untold, level_limit}
use Rattle.partial.specs.Limits.{file_limit}
use Rattle.partial.specs.declared.position.Position.{Position}
use Rattle.indexing.specs.Ends.{end_of}
use Rattle.indexing.specs.Fields.{fields_of}
use Rattle.indexing.specs.Head.{head_in}
use Rattle.indexing.specs.Inner.{inner_in, inner_counts}
use Rattle.indexing.specs.Lists.{list_on, box_on, ListReady, BoxReady, Listed}
use Rattle.indexing.specs.Marks.{indexed_of, Marked}
use Rattle.indexing.specs.declared.fields.IndexFields.{IndexFields as CodeFields}
use Rattle.indexing.specs.declared.marks.Marks.{Marks}
use Rattle.indexing.proofs.BoxLaws.{head_lies, inner_known, front_short, box_last, box-filled, box_unfilled, box_list_wrong}
use Rattle.indexing.proofs.MarksLaws.{marked_more}

-- ---- the measures of the pair

pub box_below : (level : ℕ) {t : ℕ} → level ≤ level_limit → 2 * (9 - level) ≡ t → 2 * (9 - level) - 1 < t
box_below level deepest e = omega arith

pub list_below : (level : ℕ) {t : ℕ} → level ≤ level_limit → 2 * (9 - level) - 1 ≡ t → 2 * (9 - (level + 1)) < t
list_below level deepest e = omega arith

-- ---- the counts of the list inside

-- the boxes that were counted
pub record Inner (f : List ℕ) (start end many part : ℕ) : Type 0 where
  pub boxes : List Box
  pub read : inner_in f start end ≡ given boxes
  pub many_are : many ≡ length (those bidx boxes)
  pub part_is : part ≡ front_part boxes

module _ (f : List ℕ) (start end : ℕ) where
  pub inner_counted : {many part : ℕ} → inner_counts f start end ≡ given (many, part) → Inner f start end many part
  unfolding inner_counts
  inner_counted {many} {part} h =
      let (bs, read, same) = both_given (inner_in f start end) _ h in
      let pair : ◌≡◌ {A = ℕ × ℕ} (length (those bidx bs), front_part bs) (many, part) = given_same same in
      record { boxes = bs; read = read; many_are = sym (ap (λ (p : ℕ × ℕ). p.0) pair); part_is = sym (ap (λ (p : ℕ × ℕ). p.1) pair) }

  pub inner_wrong : {n : ℕ} → inner_counts f start end ≡ refused n → inner_in f start end ≡ refused n
  unfolding inner_counts
  inner_wrong {n} h = go (inner_in f start end) h
    where
      go : (x : Answer (List Box)) → ◌>>=◌ {B = ℕ × ℕ} x (λ inner. given (length (those bidx inner), front_part inner)) ≡ refused n → x ≡ refused n
      go (refused m) e = cc
      go (given bs) e = absurd (not_both (sym e))

-- ---- a box that was read so far

-- its row has room in the file before its list
pub record Roomy (b : Framed) (x : CodeFields) (count : ℕ) : Type 0 where
  pub row : 16 * (count + 1) ≤ x.list.0
  pub inside : x.list.0 ≤ b.end.0
  pub rows : 16 * count ≤ file_limit
  pub high : x.front ≤ 32

module _ (f : List ℕ) (b : Framed) (enclosing : Option ℕ) (last : Bool) (place level count : ℕ) (ready : BoxReady b level place count) (x : CodeFields) (e : Option Position)
    (headed : head_in f (box_of b) enclosing last place ≡ given (fields_of x, end_of e)) where
  pub box-roomy : Roomy b x count
  unfolding box_of
  box-roomy =
      let lies = (head_lies f (box_of b) enclosing last place headed).fields in
      record {
        row = omega (arith, ready.rows, ready.header, lies.starts, lies.low);
        inside = lies.whole;
        rows = omega (arith, ready.rows, ready.header, ready.short, lies.starts, lies.whole);
        high = lies.high;
      }

  module _ {many part : ℕ} (inner : Inner f x.list.0 b.end.0 many part) where
    pub part_short : part ≤ file_limit
    part_short = omega (arith, inner.part_is, front_short f x.list.0 b.end.0 inner.read, ready.short)

    pub list_ready : (level ≡ level_limit → ⊥) → {count' : ℕ} → count' ≡ count + 1
        → ListReady f (record { container = Bidx; start = x.list; end = b.end }) many (level + 1) (place + x.front + part) count'
    list_ready not_last counted =
        let room = box-roomy in
        record {
          deepest = omega (arith, ready.deepest, not_last);
          ordered = room.inside;
          short = ready.short;
          placed = omega (arith, ready.placed, room.high, part_short);
          rows = omega (arith, room.row, counted);
          framed = (inner.boxes, inner_known f x.list.0 b.end.0 inner.read, inner.many_are);
        }

    same_list : list_on f (level + 1) (end_of e) (place + x.front + part) (those bidx inner.boxes) ≡ list_on f (level + 1) (end_of e) (place + x.front + front_part inner.boxes) (those bidx inner.boxes)
    same_list = ap (λ (n : ℕ). list_on f (level + 1) (end_of e) (place + x.front + n) (those bidx inner.boxes)) inner.part_is

    module _ {before m : Marks} {t₀ t : List ℕ} (own : Marked before t₀ (indexed_of level place (end_of e) x.kind.code ∷ []) m t) where
      pub listed_last : level ≡ level_limit → {m' : Marks} → Marked m t (map (untold (level + 1)) (those bidx inner.boxes)) m' t
          → Listed (box_on f level enclosing last place (box_of b)) before t₀ t (Ok (m', e))
      unfolding Listed box_of
      listed_last deep under = (_, box_last f level ready.deepest enclosing last place (box_of b) headed inner.read deep, refl, marked_more own under)

      pub listed-filled : (filled : Option Position) {told : Told} {m' : Marks} {t' : List ℕ} → list_on f (level + 1) (end_of e) (place + x.front + part) (those bidx inner.boxes) ≡ given told
          → end_of filled ≡ told.end
          → Marked m t told.boxes m' t'
          → wherever (λ to. wherever (eqb to) (end_of e)) (end_of filled) ≡ true
          → Listed (box_on f level enclosing last place (box_of b)) before t₀ t' (Ok (m', e))
      unfolding Listed box_of
      listed-filled filled listed ends under fills =
          (_, box-filled f level ready.deepest enclosing last place (box_of b) headed inner.read (sym same_list ∙ listed) (rw ends at fills), refl, marked_more own under)

    pub listed_unfilled : (filled : Option Position) {told : Told} → list_on f (level + 1) (end_of e) (place + x.front + part) (those bidx inner.boxes) ≡ given told
        → end_of filled ≡ told.end
        → wherever (λ to. wherever (eqb to) (end_of e)) (end_of filled) ≡ false
        → box_on f level enclosing last place (box_of b) ≡ refused 36
    unfolding box_of
    listed_unfilled filled listed ends fills = box_unfilled f level ready.deepest enclosing last place (box_of b) headed inner.read (sym same_list ∙ listed) (rw ends at fills)

    pub listed_wrong : {n : ℕ} → list_on f (level + 1) (end_of e) (place + x.front + part) (those bidx inner.boxes) ≡ refused n → box_on f level enclosing last place (box_of b) ≡ refused n
    unfolding box_of
    listed_wrong h = box_list_wrong f level ready.deepest enclosing last place (box_of b) headed inner.read (sym same_list ∙ h)
