-- Laws of the table of a file's boxes: how it is filled, and that the box that holds a chunk is the last one that
-- starts before it.
use Prim.Native.Nat.{ℕ, zero, suc, ◌+◌, ◌^◌, ◌≤◌, ◌<◌}
use mathlib.Core.Bool.{Bool, true, false, false≢true}
use mathlib.Core.List.{List, [], ◌∷◌, ◌++◌, append-nil}
use mathlib.Core.Logic.{inl, inr}
use Rattle.std.specs.Prelude.{Some}
use mathlib.Core.Path.{◌≡◌, sym, ap, subst, ◌∙◌}
use native.Mathlib.Decide.{dec_le}
use native.Mathlib.Nat.{add-zero, eq-or-lt_of_le, le_refl}
use native.Mathlib.Omega.{arith}
use lib.ListN.{length, get_or, set, replicate, length-append, length-set, length-replicate, get_or-replicate}
use lib.Seq.{get_or-set_same, get_or-set_other, ext_get_or}
use Rattle.boxes.specs.Answer.{given}
use Rattle.boxes.specs.Framing.{Box, header, boxes_in}
use Rattle.boxes.specs.Kinds.{box_at, no_box}
use Rattle.boxes.specs.Walk.{walk_over, stepped}
use Rattle.boxes.specs.declared.kinds.Container.{Container}
use Rattle.boxes.specs.declared.kinds.Container.TheVariants.{File}
use Rattle.boxes.specs.declared.walk.Walk.{Walk}
use Rattle.numerals.specs.declared.place.Place.{Place}
use Rattle.boxes.proofs.AnswerLaws.{given_same, both_given}
use Rattle.boxes.proofs.ContainerLaws.{Filled, full, next, box-limit, boxes_filled, boxes_few, boxes_standing, boxes_apart}
use Rattle.boxes.proofs.HeaderLaws.{header_inside}
use Rattle.boxes.proofs.KindLaws.{box_at_get_d, box_at_first, box_at_second}
use Rattle.boxes.proofs.WalkLaws.{ahead, Passed, met, over_left, step_end, step_over, walk_boxes, known_end, known_sound}
use Rattle.partial.specs.Sequences.{some_of}
use Rattle.partial.proofs.Meaning.SequenceLaws.{which, some_at}
use Rattle.segment.specs.Data.{holds_chunk, Among}
use Rattle.segment.specs.Tops.{Tops, Before, Ascends, Listed}
use Rattle.segment.proofs.DataLaws.{holds_low, holds_whole}

-- a walk that is allowed no more boxes has none before it, where they are known
pub none_left : (s : List ℕ) (w : Walk) {more : List Box} → w.left ≡ 0 → ahead s w ≡ given more → more ≡ []
none_left s w none before =
    elim (dec_le w.end.0 w.at.0) [
      | yes end ↦ known_end s w before (step_end s w end)
      | no short ↦ absurd (known_sound s w before (step_over s w (omega arith) none))
    ]

-- a walk that has passed as many boxes as a container may have has passed all of them
pub all_passed : {s : List ℕ} {c : Container} {start end : Place} {w₀ w : Walk} {bs : List Box} → w₀ ≡ walk_over c start end → Passed s w₀ bs w → 512 ≤ length bs
    → {all : List Box} → boxes_in c s start.0 end.0 ≡ given all → all ≡ bs
all_passed {s} {w = w} {bs} new p most {all} known =
    let none : w.left ≡ 0 = omega (arith, p.counted, over_left new) in
    let (more, before, split) = both_given (ahead s w) _ (sym p.rest ∙ sym (walk_boxes s new) ∙ known) in
    sym (given_same split) ∙ ap (λ (more : List Box). bs ++ more) (none_left s w none before) ∙ append-nil bs

-- a box that a walk met ends in the container
pub ends_inside : {s : List ℕ} {c : Container} {start end : Place} {w₀ w w' : Walk} {bs : List Box} {b : Box} → w₀ ≡ walk_over c start end → Passed s w₀ bs w
    → stepped s w ≡ given (Some (b, w')) → (b.at ≤ b.end) × (b.end ≤ end.0)
ends_inside {s} {w = w} new p h =
    let inside = (met s w h).inside in
    (omega arith, omega (arith, ap (λ (e : Place). e.0) (p.same_end ∙ ap (λ (w : Walk). w.end) new)))

-- a table of no box
pub tops_none : Tops [] (replicate 512 0xffffffff)
tops_none =
    record {
      long = length-replicate {A = ℕ} 512 0xffffffff;
      listed = λ k h. absurd (omega arith);
      beyond = λ k _ h. get_or-replicate 512 k 0xffffffff 0 h;
      short = λ k h. absurd (omega arith);
    }

-- and with the place of one box more
pub tops_more : {bs : List Box} {tops : List ℕ} (b : Box) {i at : ℕ} → length bs ≡ i → b.at ≡ at → i < 512 → b.end < 2 ^ 32 → Tops bs tops → Tops (bs ++ (b ∷ [])) (set tops i at)
tops_more {bs} {tops} b {i} {at} many place room ends t =
    let more : length (bs ++ (b ∷ [])) ≡ i + 1 = length-append bs (b ∷ []) ∙ omega arith in
    let last : box_at i (bs ++ (b ∷ [])) ≡ b = ap (λ (n : ℕ). box_at n (bs ++ (b ∷ []))) (sym many ∙ sym (add-zero (length bs))) ∙ box_at_second bs (b ∷ []) 0 ∙ box_at_get_d 0 (b ∷ []) in
    record {
      long = length-set tops i at ∙ t.long;
      listed = λ k h.
          elim (dec_le i k) [
            | yes most ↦
                let here : k ≡ i = omega arith in
                rw here (get_or-set_same tops i at 0 (omega (arith, t.long)) ∙ sym place ∙ ap (λ (x : Box). x.at) (sym last))
            | no less ↦ get_or-set_other tops i k at 0 (λ e. omega arith) ∙ t.listed k (omega arith) ∙ ap (λ (x : Box). x.at) (sym (box_at_first bs (b ∷ []) k (omega arith)))
          ];
      beyond = λ k h inner. get_or-set_other tops i k at 0 (λ e. omega arith) ∙ t.beyond k (omega arith) inner;
      short = λ k h.
          elim (dec_le i k) [
            | yes most ↦
                let here : k ≡ i = omega arith in
                rw (here, last) ends
            | no less ↦ rw (box_at_first bs (b ∷ []) k (omega arith)) (t.short k (omega arith))
          ];
    }

-- one table at most is that of some boxes
pub one_table : {bs : List Box} {x y : List ℕ} → Tops bs x → Tops bs y → x ≡ y
one_table {bs} {x} {y} p q =
    ext_get_or 0 x y (p.long ∙ sym q.long)
    (λ k h. elim (dec_le (length bs) k) [
      | yes past ↦ p.beyond k past (omega (arith, p.long)) ∙ sym (q.beyond k past (omega (arith, p.long)))
      | no there ↦ p.listed k (omega arith) ∙ sym (q.listed k (omega arith))
    ])

-- whether a place stands in a table
module _ {tops : List ℕ} {place k : ℕ} where
  pub listed_at : k < 512 → {r : Bool} → get_or tops k 0 ≡ place → r ≡ true → Listed tops place r
  listed_at inner at found = record { there = λ _. (k, inner, at); missing = λ None. absurd (false≢true (sym None ∙ found)) }

  -- it does not where it is neither the last one before it nor the next
  pub listed_not : Before tops place k → (get_or tops k 0 ≡ place → ⊥) → (k + 1 < 512 → get_or tops (k + 1) 0 ≡ place → ⊥) → {r : Bool} → r ≡ false → Listed tops place r
  listed_not last other follower None =
      record {
        there = λ found. absurd (false≢true (sym None ∙ found));
        missing = λ _ ascends j inner at.
            elim (dec_le j k) [
              | yes most ↦
                  elim (dec_le k 0) [
                    | yes first ↦ other (ap (λ (n : ℕ). get_or tops n 0) (omega arith) ∙ at)
                    | no later ↦ omega (arith, last.before (omega arith), ascends j k most last.there)
                  ]
              | no more ↦ follower (omega arith) (omega (arith, last.next (omega arith), ascends (k + 1) j (omega arith) inner))
            ];
      }

-- what boxes fill ends no later than they do
fills_short : {f : List ℕ} {end at most : ℕ} {bs : List Box} → Filled File f end at bs → at < most → ((k : ℕ) → k < length bs → (box_at k bs).end < most) → end < most
unfolding box_at
fills_short (full e) low each = omega arith
fills_short (next less read rest) low each = fills_short rest (each zero (omega arith)) (λ k there. each (suc k) (omega arith))

-- the table of the boxes of a file
module _ (f : List ℕ) {bs : List Box} (known : boxes_in File f 0 (length f) ≡ given bs) {tops : List ℕ} (t : Tops bs tops) where
  -- the file is short
  pub file_short : length f < 2 ^ 32
  file_short = fills_short (boxes_filled File f 0 (length f) known) (omega arith) t.short

  -- it has room for all
  pub few : length bs ≤ 512
  few = rw box-limit at (boxes_few File f 0 (length f) known)

  -- a box that comes later starts no earlier
  ascend : (i j : ℕ) → i ≤ j → j < length bs → (box_at i bs).at ≤ (box_at j bs).at
  ascend i j most there =
      elim (eq-or-lt_of_le most) [
        | inl same ↦ rw same (le_refl (box_at j bs).at)
        | inr less ↦
            let inside = (boxes_standing File f 0 (length f) known i (omega arith)).inside in
            omega (arith, boxes_apart File f 0 (length f) known i j less there)
      ]

  pub tops_ascend : Ascends tops
  tops_ascend i j most inner =
      elim (dec_le (length bs) i) [
        | yes past ↦ omega (arith, t.beyond i past (omega arith), t.beyond j (omega arith) inner)
        | no there ↦
            let inside = (boxes_standing File f 0 (length f) known i (omega arith)).inside in
            elim (dec_le (length bs) j) [
              | yes past ↦ omega (arith, t.listed i (omega arith), t.beyond j past inner, file_short)
              | no there ↦ omega (arith, t.listed i (omega arith), t.listed j (omega arith), ascend i j most (omega arith))
            ]
      ]

  -- the last box that starts before a place
  module _ {place k top : ℕ} (last : Before tops place k) (stands_at : top ≡ get_or tops k 0) where
    -- it holds a chunk at the place, or none does, since a chunk is behind the header of its box and not behind its end
    only_last : (size j : ℕ) → j < length bs → holds_chunk place size (box_at j bs) ≡ true → j ≡ k
    only_last size j there holds =
        let inside = (boxes_standing File f 0 (length f) known j there).inside in
        let low = holds_low place size (box_at j bs) holds in
        let whole = holds_whole place size (box_at j bs) holds in
        elim (dec_le j k) [
          | no more ↦
              let next = last.next (omega (arith, few)) in
              absurd (omega (arith, t.listed (k + 1) (omega arith), ascend (k + 1) j (omega arith) there))
          | yes most ↦
              elim (eq-or-lt_of_le most) [
                | inl same ↦ same
                | inr less ↦
                    let before = last.before (omega arith) in
                    elim (dec_le (length bs) k) [
                      | yes past ↦ absurd (omega (arith, t.beyond k past last.there, file_short))
                      | no inner ↦ absurd (omega (arith, t.listed k (omega arith), boxes_apart File f 0 (length f) known j k less (omega arith)))
                    ]
              ]
        ]

    -- what is read where it stands is one of the file's boxes
    pub last_among : {b : Box} → header File f top (length f) ≡ given b → Among bs b
    last_among {b} read-top =
        let read = subst (λ (n : ℕ). header File f n (length f) ≡ given b) stands_at read-top in
        elim (dec_le (length bs) k) [
          | yes past ↦
              let inside = header_inside File f (get_or tops k 0) (length f) read in
              absurd (omega (arith, t.beyond k past last.there, file_short))
          | no there ↦
              let stands = boxes_standing File f 0 (length f) known k (omega arith) in
              record {
                number = k;
                there = omega arith;
                same = given_same (sym stands.read ∙ rw (t.listed k (omega arith)) at read);
              }
        ]

    -- where it does not hold the chunk no box does
    pub last_other : (size : ℕ) → ((j : ℕ) → j < length bs → header File f top (length f) ≡ given (box_at j bs) → holds_chunk place size (box_at j bs) ≡ true → ⊥) → some_of (holds_chunk place size) bs ≡ false
    last_other size None =
        elim (which (some_of (holds_chunk place size) bs)) [
          | inr e ↦ e
          | inl e ↦
              let (j, there, found) = some_at (holds_chunk place size) no_box bs e in
              let holds = rw (← box_at_get_d j bs) at found in
              let here = only_last size j there holds in
              let stands = boxes_standing File f 0 (length f) known j there in
              let starts : (box_at j bs).at ≡ top = sym (t.listed j there) ∙ ap (λ (n : ℕ). get_or tops n 0) here ∙ sym stands_at in
              absurd (None j there (subst (λ (n : ℕ). header File f n (length f) ≡ given (box_at j bs)) starts stands.read) holds)
        ]
