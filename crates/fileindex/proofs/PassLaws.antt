-- Laws of the pass over a file's boxes: the indexes that were marked, and the boxes that are left, which decide.
use Prim.Native.Nat.{ℕ, ◌*◌, ◌≤◌}
use mathlib.Core.Bool.{false}
use mathlib.Core.List.{List, [], ◌++◌, append_assoc, append-nil}
use Rattle.std.specs.Prelude.{Option, None, Some, Result, Ok, IsErrAnd}
use Rattle.std.proofs.lemmas.Result.{err_from_is_err_and}
use Rattle.refusals.specs.Refusals.{refusal_no}
use Rattle.refusals.specs.declared.Refusal.{Refusal}
use mathlib.Core.Path.{◌≡◌, refl, sym, ap, subst, ◌∙◌}
use native.Mathlib.Omega.{arith}
use Rattle.boxes.specs.Answer.{Answer, refused, given, ◌>>=◌}
use Rattle.boxes.specs.Framing.{Box}
use Rattle.boxes.specs.Walk.{walk_over, stepped}
use Rattle.boxes.specs.declared.kinds.Container.TheVariants.{File}
use Rattle.boxes.specs.declared.walk.Walk.{Walk}
use Rattle.boxes.proofs.AnswerLaws.{then-given}
use Rattle.boxes.proofs.WalkLaws.{ahead, met, known_next, known_end, known_sound}
use Rattle.numerals.specs.declared.place.Place.{Place}
use Rattle.partial.specs.Index.{SourceBox}
use Rattle.partial.specs.Limits.{file_limit, segment_limit}
use Rattle.indexing.specs.declared.marks.Marks.{Marks}
use Rattle.indexing.specs.Index.{marked_with}
use Rattle.fileindex.specs.File.{no_marks, MarkedBy, SourcePut, Tells}
use Rattle.fileindex.specs.Parts.{Part, index_of_parts, Sourcing, Holds, segments_with, SourcesAs, InFile, Adds}
use Rattle.fileindex.proofs.PartLaws.{with_most, HoldAll, parts_append, parts_rows}
use Rattle.fileindex.proofs.SourceRowLaws.{marked_by_none, marked_by_one, marked_by_more}

-- marks of no box
pub default_none : (m : Marks) → (m.count ≡ 0) × ((m.deep ≡ false) × (m.unknown ≡ false)) → m ≡ no_marks
default_none m (count, (deep, unknown)) = λ i. record { count = count i; deep = deep i; unknown = unknown i }

-- a refusal that is handed on says the same
pub handed_told : (number : List (List ℕ) → ℕ) {x : Answer (List SourceBox)} (t₀ t : List ℕ) (n : Refusal) (r : Result Marks Refusal) → IsErrAnd r (λ e. e ≡ n) → x ≡ refused (refusal_no n) → Tells number x t₀ t r
unfolding Tells
handed_told number t₀ t n r handed fault =
    let (e, is, same) = err_from_is_err_and r handed in
    rw is (fault ∙ ap (λ n. refused (refusal_no n)) (sym same))

-- the indexes before were marked, and those in the boxes that are left decide
pub record Midway (f : List ℕ) (size : List (List ℕ) → Option ℕ) (x : Sourcing) (all : List Part) (t₀ t : List ℕ) (w : Walk) (m : Marks) (k : ℕ) : Type 0 where
  pub told : List SourceBox
  pub rest : List Box
  pub parts : List Part
  pub left : ahead f w ≡ given rest
  pub hold : HoldAll f x k rest parts
  pub decide : index_of_parts f size all ≡ (index_of_parts f size parts >>= λ more. given (told ++ more))
  pub marked : MarkedBy x.number no_marks t₀ told m t
  pub short : w.end.0 ≤ file_limit
  pub rows : 16 * m.count ≤ w.at.0
  pub counted : k ≤ w.at.0

module _ (f : List ℕ) (size : List (List ℕ) → Option ℕ) (x : Sourcing) (all : List Part) (t₀ : List ℕ) where
  pub midway_none : {start end : Place} {w : Walk} {bs : List Box} {m : Marks} → m ≡ no_marks → w ≡ walk_over File start end → ahead f w ≡ given bs → HoldAll f x 0 bs all → end.0 ≤ file_limit
      → Midway f size x all t₀ t₀ w m 0
  midway_none {w = w} {bs = bs} none_marked new known hold fits =
      subst (λ (m : Marks). Midway f size x all t₀ t₀ w m 0) (sym none_marked)
      (record {
        told = [];
        rest = bs;
        parts = all;
        left = known;
        hold = hold;
        decide = sym (then-given (index_of_parts f size all));
        marked = marked_by_none x.number no_marks t₀;
        short = omega (arith, fits, ap (λ (w : Walk). w.end.0) new);
        rows = omega arith;
        counted = omega arith;
      })

  module _ {t : List ℕ} {w : Walk} {m : Marks} {k : ℕ} (so_far : Midway f size x all t₀ t w m k) where
    module _ {b : Box} {w' : Walk} (step : stepped f w ≡ given (Some (b, w'))) where
      -- what the next box holds, and those behind it
      pub record Next : Type 0 where
        pub here : List Part
        pub later : List Part
        pub rest : List Box
        pub held : Holds f x k b here
        pub left : ahead f w' ≡ given rest
        pub hold : HoldAll f x (segments_with b k) rest later
        pub decide : index_of_parts f size all ≡ (index_of_parts f size (here ++ later) >>= λ more. given (so_far.told ++ more))

      pub next : Next
      next =
          let (more, after, split) = known_next f w so_far.left step in
          let (here, later, both, held, hold) = subst (λ (bs : List Box). HoldAll f x k bs so_far.parts) split so_far.hold in
          record {
            here = here;
            later = later;
            rest = more;
            held = held;
            left = after;
            hold = hold;
            decide = so_far.decide ∙ ap (λ (ps : List Part). index_of_parts f size ps >>= λ more. given (so_far.told ++ more)) both;
          }

      pub next_inside : InFile b m.count
      next_inside =
          let inside = (met f w step).inside in
          record {
            header = omega (arith, inside.starts, inside.front, inside.typed);
            whole = inside.whole;
            short = omega (arith, inside.ends, so_far.short);
            rows = omega (arith, inside.starts, so_far.rows);
          }

      -- no more segments than a file has bytes
      pub few_passed : k ≤ file_limit
      few_passed =
          let inside = (met f w step).inside in
          omega (arith, so_far.counted, so_far.short, inside.starts, inside.front, inside.typed, inside.whole, inside.ends)

      pub midway_refused : {n : ℕ} → index_of_parts f size next.here ≡ refused n → index_of_parts f size all ≡ refused n
      midway_refused fault = next.decide ∙ rw (parts_append f size next.here next.later, fault)

      pub midway_more : (t' : List ℕ) (found : Option Marks) → Adds (index_of_parts f size next.here) m t t' (Ok found) → 16 * (marked_with m found).count ≤ b.end
          → (t'' : List ℕ) (source : ℕ) → SourcesAs x.number source next.here → source ≤ segment_limit → SourcePut m.count (marked_with m found).count source t' t''
          → Midway f size x all t₀ t'' w' (marked_with m found) (segments_with b k)
      unfolding Adds
      midway_more t' found (is, read, marked) counted t'' source same small put =
          let onward = (met f w step).onward in
          let inside = (met f w step).inside in
          record {
            told = so_far.told ++ is;
            rest = next.rest;
            parts = next.later;
            left = next.left;
            hold = next.hold;
            decide = next.decide ∙ rw (parts_append f size next.here next.later, read) (go (index_of_parts f size next.later));
            marked = marked_by_more x.number so_far.marked (marked_by_one x.number source is marked (parts_rows f size x.number source next.here same read) small put);
            short = omega (arith, so_far.short, ap (λ (w : Walk). w.end.0) onward);
            rows = omega (arith, counted, ap (λ (w : Walk). w.at.0) onward);
            counted = omega (arith, so_far.counted, with_most b k, inside.starts, inside.front, inside.typed, inside.whole, ap (λ (w : Walk). w.at.0) onward);
          }
        where
          go : (y : Answer (List SourceBox)) → (y >>= (λ later. given (is ++ later)) >>= λ more. given (so_far.told ++ more)) ≡ (y >>= λ more. given ((so_far.told ++ is) ++ more))
          go (refused n) = refl
          go (given later) = ap given (sym (append_assoc so_far.told is later))

    pub midway_end : stepped f w ≡ given None → Tells x.number (index_of_parts f size all) t₀ t (Ok m)
    unfolding Tells index_of_parts
    midway_end step =
        let none_left : so_far.parts ≡ [] = subst (λ (bs : List Box). HoldAll f x k bs so_far.parts) (known_end f w so_far.left step) so_far.hold in
        (so_far.told, so_far.decide ∙ rw none_left (ap given (append-nil so_far.told)), so_far.marked)

    pub midway_sound : {n : ℕ} → stepped f w ≡ refused n → ⊥
    midway_sound step = known_sound f w so_far.left step
