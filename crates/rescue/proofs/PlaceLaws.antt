-- New places: where a place of a box that stays is in the copy, in the old order and no further apart.
use Prim.Native.Nat.{ℕ, ◌+◌, ◌-◌, ◌<◌, ◌≤◌}
use mathlib.Core.List.{List, [], ◌∷◌, ◌++◌, map}
use mathlib.Core.Path.{◌≡◌, ◌∙◌}
use native.Mathlib.Decide.{dec_le}
use native.Mathlib.Nat.{add_assoc, add-zero, le_refl}
use native.Mathlib.Omega.{arith}
use borrow.Author.Tests.{le-leb, lt-leb}
use Rattle.partial.specs.Sequences.{sum}
use Rattle.partial.proofs.Meaning.SequenceLaws.{Each}
use Rattle.rescue.specs.Kept.{Fated}
use Rattle.rescue.specs.Copy.{copy_size, new_place}
use Rattle.rescue.proofs.Shapes.{Nearer}

-- boxes one behind the other from a place on, of which none is longer in the copy
abbrev pub Chained : ℕ → List Fated → Type 0
Chained at [] = Unit {0}
Chained at (x ∷ xs) = (x.box.at ≡ at) × (at < x.box.end) × (copy_size x ≤ x.box.end - at) × Chained x.box.end xs

-- where they end
abbrev pub ends : ℕ → List Fated → ℕ
ends at [] = at
ends at (x ∷ xs) = ends x.box.end xs

-- how long the copies of boxes are
abbrev pub sizes : List Fated → ℕ
sizes xs = sum (map copy_size xs)

-- a place behind a box, and one in it
past_box : (start : ℕ) (x : Fated) (xs : List Fated) (place : ℕ) → x.box.end ≤ place → new_place start (x ∷ xs) place ≡ new_place (start + copy_size x) xs place
unfolding new_place
past_box start x xs place past = rw (new_place, le-leb x.box.end place past)

in-box : (start : ℕ) (x : Fated) (xs : List Fated) (place : ℕ) → place < x.box.end → new_place start (x ∷ xs) place ≡ start + (place - x.box.at)
unfolding new_place
in-box start x xs place high = rw (new_place, lt-leb x.box.end place high)

-- boxes behind others start where those end
pub chained_behind : (at : ℕ) (before xs : List Fated) → Chained at (before ++ xs) → Chained (ends at before) xs
chained_behind at [] xs chained = chained
chained_behind at (y ∷ ys) xs chained = chained_behind y.box.end ys xs chained.3

ends_low : (at : ℕ) (before xs : List Fated) → Chained at (before ++ xs) → at ≤ ends at before
ends_low at [] xs chained = le_refl at
ends_low at (y ∷ ys) xs chained = omega (arith, ends_low y.box.end ys xs chained.3)

-- a place behind boxes is behind their copies
pub new_behind : (at start : ℕ) (before xs : List Fated) → Chained at (before ++ xs) → (place : ℕ) → ends at before ≤ place
    → new_place start (before ++ xs) place ≡ new_place (start + sizes before) xs place
unfolding sum
new_behind at start [] xs chained place past = rw add-zero
new_behind at start (y ∷ ys) xs chained place past =
    past_box start y (ys ++ xs) place (omega (arith, ends_low y.box.end ys xs chained.3))
    ∙ new_behind y.box.end (start + copy_size y) ys xs chained.3 place past
    ∙ rw add_assoc

-- no new place is before the copies of the boxes, or further into them than the place was
new_least : (start : ℕ) (xs : List Fated) (place : ℕ) → start ≤ new_place start xs place
unfolding new_place
new_least start [] place = le_refl start
new_least start (x ∷ xs) place =
    elim (dec_le x.box.end place) [
      | yes past ↦ rw (past_box start x xs place past) (omega (arith, new_least (start + copy_size x) xs place))
      | no inside ↦ rw (in-box start x xs place (omega arith)) (omega arith)
    ]

new_most : (at start : ℕ) (xs : List Fated) → Chained at xs → (place : ℕ) → new_place start xs place ≤ start + (place - at)
unfolding new_place
new_most at start [] chained place = omega arith
new_most at start (x ∷ xs) chained place =
    elim (dec_le x.box.end place) [
      | yes past ↦ rw (past_box start x xs place past) (omega (arith, new_most x.box.end (start + copy_size x) xs chained.3 place))
      | no inside ↦ rw (in-box start x xs place (omega arith)) (omega arith)
    ]

-- new places are no further apart
new_near : (at start : ℕ) (xs : List Fated) → Chained at xs → (p q : ℕ) → p ≤ q → new_place start xs q ≤ new_place start xs p + (q - p)
unfolding new_place
new_near at start [] chained p q order = omega arith
new_near at start (x ∷ xs) chained p q order =
    elim (dec_le x.box.end p) [
      | yes past ↦
          rw (past_box start x xs p past, past_box start x xs q (omega arith)) (new_near x.box.end (start + copy_size x) xs chained.3 p q order)
      | no inside ↦ rw (in-box start x xs p (omega arith)) (omega (arith, new_most at start (x ∷ xs) chained q))
    ]

-- a place in a box: behind the copies of those before it, as far into it as it was
module _ (at start : ℕ) (before : List Fated) (x : Fated) (behind : List Fated) (chained : Chained at (before ++ (x ∷ behind))) where
  here : Chained (ends at before) (x ∷ behind)
  here = chained_behind at before (x ∷ behind) chained

  from_here : (place : ℕ) → x.box.at ≤ place → new_place start (before ++ (x ∷ behind)) place ≡ new_place (start + sizes before) (x ∷ behind) place
  from_here place low = new_behind at start before (x ∷ behind) chained place (omega (arith, here.0))

  pub new_in_lem : (place : ℕ) → x.box.at ≤ place → place < x.box.end
      → new_place start (before ++ (x ∷ behind)) place ≡ start + sizes before + (place - x.box.at)
  new_in_lem place low high = from_here place low ∙ in-box (start + sizes before) x behind place high

  -- and so its first place
  pub new_at : new_place start (before ++ (x ∷ behind)) x.box.at ≡ start + sizes before
  new_at = omega (arith, new_in_lem x.box.at (le_refl x.box.at) (omega (arith, here.0, here.1)))

  -- two places in it are as far apart as they were
  pub new_together : (p q : ℕ) → x.box.at ≤ p → p ≤ q → q < x.box.end
      → new_place start (before ++ (x ∷ behind)) q ≡ new_place start (before ++ (x ∷ behind)) p + (q - p)
  new_together p q low order high = omega (arith, new_in_lem p low (omega arith), new_in_lem q (omega arith) high)

  -- and one that is copied stays before all behind it
  new_before : (p q : ℕ) → x.box.at ≤ p → p < x.box.end → p - x.box.at < copy_size x → p < q
      → new_place start (before ++ (x ∷ behind)) p < new_place start (before ++ (x ∷ behind)) q
  new_before p q low high far order =
      elim (dec_le x.box.end q) [
        | yes past ↦
            rw (new_in_lem p low high, from_here q (omega arith), past_box (start + sizes before) x behind q past)
            (omega (arith, new_least (start + sizes before + copy_size x) behind q))
        | no inside ↦ omega (arith, new_together p q low (omega arith) (omega arith))
      ]

-- two places, each the first of a box or in one that is as long in the copy
pub record Copied (xs : List Fated) (place : ℕ) : Type 0 where
  pub before : List Fated
  pub x : Fated
  pub behind : List Fated
  pub all : xs ≡ before ++ (x ∷ behind)
  pub low : x.box.at ≤ place
  pub high : place < x.box.end
  pub far : place - x.box.at < copy_size x

new_further : (at start : ℕ) (xs : List Fated) → Chained at xs → (p q : ℕ) → Copied xs p → p < q → new_place start xs p < new_place start xs q
new_further at start xs chained p q c order =
    rw c.all (new_before at start c.before c.x c.behind (rw c.all at chained) p q c.low c.high c.far order)

-- in their order and no further apart; where they may be the same, one place behind the second is behind the first
pub new_nearer : (at start : ℕ) (xs : List Fated) → Chained at xs → (pseg place : ℕ) → Copied xs pseg → Copied xs place → Nearer (new_place start xs) pseg place
new_nearer at start xs chained pseg place one other =
    record {
      ahead =
          λ order. (
            omega (arith, new_further at start xs chained pseg (place + 1) one (omega arith), new_near at start xs chained place (place + 1) (omega arith)),
            new_near at start xs chained pseg place order,
          );
      back = λ order. (new_further at start xs chained place pseg other order, new_near at start xs chained place pseg (omega arith));
    }

-- a box that is as long in the copy
abbrev pub AsLong : Fated → Type 0
AsLong x = copy_size x ≡ x.box.end - x.box.at

-- neighbouring boxes that all are: together they are as long, too
pub new_run : (at : ℕ) (run : List Fated) → Chained at run → Each AsLong run → at + sizes run ≡ ends at run
unfolding sum
new_run at [] chained long = add-zero at
new_run at (y ∷ ys) chained long = omega (arith, new_run y.box.end ys chained.3 long.1)

-- each place in them or at their end is as far behind their first as it was
along : (at start : ℕ) (run behind : List Fated) → Chained at (run ++ behind) → Each AsLong run
    → (place : ℕ) → at ≤ place → place ≤ ends at run → new_place start (run ++ behind) place ≡ start + (place - at)
unfolding new_place
along at start [] [] chained long place low high = omega arith
along at start [] (y ∷ ys) chained long place low high = in-box start y ys place (omega arith) ∙ omega arith
along at start (y ∷ ys) behind chained long place low high =
    elim (dec_le y.box.end place) [
      | yes past ↦
          past_box start y (ys ++ behind) place past
          ∙ along y.box.end (start + copy_size y) ys behind chained.3 long.1 place past high
          ∙ omega arith
      | no inside ↦ in-box start y (ys ++ behind) place (omega arith) ∙ omega arith
    ]

pub new_along : (at start : ℕ) (before run behind : List Fated) → Chained at (before ++ (run ++ behind)) → Each AsLong run
    → (place : ℕ) → ends at before ≤ place → place ≤ ends (ends at before) run
    → new_place start (before ++ (run ++ behind)) place ≡ start + sizes before + (place - ends at before)
new_along at start before run behind chained long place low high =
    new_behind at start before (run ++ behind) chained place low
    ∙ along (ends at before) (start + sizes before) run behind (chained_behind at before (run ++ behind) chained) long place low high
