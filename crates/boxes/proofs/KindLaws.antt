-- Laws of the boxes of a kind: which they are, and what the count rules of the table say of their number.
use Prim.Native.Nat.{ℕ, zero, suc, ◌+◌, ◌≤◌, ◌<◌}
use mathlib.Core.Bool.{Bool, true, false}
use mathlib.Core.List.{List, [], ◌∷◌, ◌++◌, append-nil}
use mathlib.Core.Path.{◌≡◌, refl, sym, ap, ◌∙◌}
use native.Mathlib.Decide.{dec_le}
use native.Mathlib.Nat.{add-zero}
use native.Mathlib.Omega.{arith}
use borrow.Author.Tests.{eq-eqb, ne_eqb, le-leb, eqb-true, leb-true}
use lib.Dec.{eqb}
use lib.ListN.{length, get_or, take, length-append, get_or-append, get_or-eq_default}
use lib.Seq.{get_or-append-add}
use Rattle.boxes.specs.Framing.{Box}
use Rattle.boxes.specs.Kinds.{rules, is, those, keeps, rule_in, right_count, right, no_box, box_at, first_of}
use Rattle.boxes.specs.declared.kinds.Container.{Container}
use Rattle.boxes.specs.declared.kinds.Count.{Count}
use Rattle.boxes.specs.declared.kinds.Count.TheVariants.{One, OneOrMore, AtMostOne}
use Rattle.boxes.specs.declared.kinds.Kind.{Kind}

-- ---- the box of a number

pub box_at_get_d : (n : ℕ) (bs : List Box) → box_at n bs ≡ get_or bs n no_box
unfolding box_at
box_at_get_d n bs = refl

module _ (bs cs : List Box) (n : ℕ) where
  pub box_at_first : n < length bs → box_at n (bs ++ cs) ≡ box_at n bs
  unfolding box_at
  box_at_first h = get_or-append bs cs no_box n h

  pub box_at_second : box_at (length bs + n) (bs ++ cs) ≡ box_at n cs
  unfolding box_at
  box_at_second = get_or-append-add bs cs n no_box

-- ---- whether a box is of a kind

pub is-eqb : (k : Kind) (b : Box) → is k b ≡ eqb b.kind k.code
unfolding is
is-eqb k b = refl

-- a box of a kind is there
pub is_there : (k : Kind) → 0 < k.code → (n : ℕ) (bs : List Box) → is k (box_at n bs) ≡ true → n < length bs
unfolding is box_at
is_there k coded n bs h =
    elim (dec_le (length bs) n) [
      | no there ↦ omega arith
      | yes past ↦
          let none : 0 ≡ k.code = eqb-true 0 k.code (rw (get_or-eq_default bs no_box past) at h) in
          absurd (omega arith)
    ]

-- ---- the boxes of a kind

module _ (k : Kind) where
  pub those-nil : those k [] ≡ []
  unfolding those
  those-nil = refl

  pub those_one : (b : Box) (bs : List Box) → is k b ≡ true → those k (b ∷ bs) ≡ b ∷ those k bs
  unfolding those
  those_one b bs h = rw (h, those)

  pub those_other : (b : Box) (bs : List Box) → is k b ≡ false → those k (b ∷ bs) ≡ those k bs
  unfolding those
  those_other b bs h = rw (h, those)

  -- what holds of the boxes of a kind, by whether the first is one
  by_first : (P : List Box → Type 0) (b : Box) (bs : List Box) → (is k b ≡ true → P (b ∷ those k bs)) → (is k b ≡ false → P (those k bs)) → P (those k (b ∷ bs))
  by_first P b bs one other = go (is k b) refl
    where
      go : (t : Bool) → is k b ≡ t → P (those k (b ∷ bs))
      go true e = rw (those_one b bs e) (one e)
      go false e = rw (those_other b bs e) (other e)

  -- run by run
  pub those-append : (bs cs : List Box) → those k (bs ++ cs) ≡ those k bs ++ those k cs
  those-append [] cs = rw those-nil
  those-append (b ∷ bs) cs =
      by_first (λ l. those k (b ∷ (bs ++ cs)) ≡ l ++ those k cs) b bs
      (λ e. those_one b (bs ++ cs) e ∙ ap (λ l. b ∷ l) (those-append bs cs))
      (λ e. those_other b (bs ++ cs) e ∙ those-append bs cs)

  -- they are no more than all
  pub those_few : (bs : List Box) → length (those k bs) ≤ length bs
  those_few [] = rw those-nil (omega arith)
  those_few (b ∷ bs) =
      by_first (λ l. length l ≤ suc (length bs)) b bs (λ e. omega (arith, those_few bs)) (λ e. omega (arith, those_few bs))

  -- there are none where no box is of the kind
  pub those_none : (bs : List Box) → ((n : ℕ) → n < length bs → is k (box_at n bs) ≡ false) → those k bs ≡ []
  unfolding box_at
  those_none [] h = those-nil
  those_none (b ∷ bs) h = those_other b bs (h zero (omega arith)) ∙ those_none bs (λ n l. h (suc n) (omega arith))

  -- the first of them
  pub first_of-those : (bs : List Box) → first_of k bs ≡ box_at 0 (those k bs)
  unfolding first_of
  first_of-those bs = refl

  pub first_one : (b : Box) (bs : List Box) → is k b ≡ true → first_of k (b ∷ bs) ≡ b
  unfolding box_at
  first_one b bs h = first_of-those (b ∷ bs) ∙ rw (those_one b bs h)

  pub first_other : (b : Box) (bs : List Box) → is k b ≡ false → first_of k (b ∷ bs) ≡ first_of k bs
  first_other b bs h = first_of-those (b ∷ bs) ∙ rw (those_other b bs h) (sym (first_of-those bs))

  -- the first box, if it is of the kind, is the first of the kind
  pub first_is : 0 < k.code → (bs : List Box) → is k (box_at 0 bs) ≡ true → first_of k bs ≡ box_at 0 bs
  unfolding box_at
  first_is coded [] h = absurd (omega (arith, is_there k coded 0 [] h))
  first_is coded (b ∷ bs) h = first_one b bs h

-- ---- where the n-th of a kind stands among all: n of the kind come before it
pub record Nth (k : Kind) (bs : List Box) (n m : ℕ) : Type 0 where
  pub there : m < length bs
  pub same : box_at n (those k bs) ≡ box_at m bs
  pub kind : is k (box_at m bs) ≡ true
  pub before : length (those k (take m bs)) ≡ n

pub those_nth : (k : Kind) (bs : List Box) (n : ℕ) → n < length (those k bs) → (m : ℕ) × Nth k bs n m
unfolding box_at
those_nth k [] n h = absurd (omega (arith, ap length (those-nil k)))
those_nth k (b ∷ bs) n h = go (those_nth k bs) (is k b) refl n h
  where
    go : ((n : ℕ) → n < length (those k bs) → (m : ℕ) × Nth k bs n m) → (t : Bool) → is k b ≡ t → (n : ℕ) → n < length (those k (b ∷ bs)) → (m : ℕ) × Nth k (b ∷ bs) n m
    go rest true e zero h =
        (0, record { there = omega arith; same = rw (those_one k b bs e); kind = e; before = rw (those-nil k) })
    go rest true e (suc n) h =
        let (m, r) = rest n (omega (arith, ap length (those_one k b bs e))) in (
          suc m,
          record {
            there = omega (arith, r.there);
            same = ap (box_at (suc n)) (those_one k b bs e) ∙ r.same;
            kind = r.kind;
            before = ap length (those_one k b (take m bs) e) ∙ ap suc r.before;
          },
        )
    go rest false e n h =
        let (m, r) = rest n (omega (arith, ap length (those_other k b bs e))) in (
          suc m,
          record {
            there = omega (arith, r.there);
            same = ap (box_at n) (those_other k b bs e) ∙ r.same;
            kind = r.kind;
            before = ap length (those_other k b (take m bs) e) ∙ r.before;
          },
        )

-- a box of a kind is one of its kind, and has its number there
pub those_at : (k : Kind) (bs : List Box) (m : ℕ) → m < length bs → is k (box_at m bs) ≡ true → box_at (length (those k (take m bs))) (those k bs) ≡ box_at m bs
unfolding box_at
those_at k [] m h e = absurd (omega arith)
those_at k (b ∷ bs) zero h e = rw (those-nil k, those_one k b bs e)
those_at k (b ∷ bs) (suc m) h e = go (those_at k bs m (omega arith) e) (is k b) refl
  where
    go : box_at (length (those k (take m bs))) (those k bs) ≡ box_at m bs → (t : Bool) → is k b ≡ t → box_at (length (those k (b ∷ take m bs))) (those k (b ∷ bs)) ≡ box_at m bs
    go rest true f = rw (those_one k b (take m bs) f, those_one k b bs f) rest
    go rest false f = rw (those_other k b (take m bs) f, those_other k b bs f) rest

-- ---- one box more: one more of its kind, and none more of another
module _ (k : Kind) (bs : List Box) (b : Box) {n : ℕ} (before : n ≡ length (those k bs)) where
  pub one_found : b.kind ≡ k.code → n + 1 ≡ length (those k (bs ++ (b ∷ [])))
  unfolding is
  one_found h = rw (before, those-append, length-append, those_one k b [] (eq-eqb b.kind k.code h), those-nil)

  pub one_passed : (b.kind ≡ k.code → ⊥) → n ≡ length (those k (bs ++ (b ∷ [])))
  unfolding is
  one_passed h = rw (before, those-append, length-append, those_other k b [] (ne_eqb b.kind k.code h), those-nil) (sym (add-zero _))

-- ---- the count rules

-- the rule is held against the number of the boxes of the kind
pub right-count : (c : Container) (k : Kind) (bs : List Box) → right c k bs ≡ right_count c k (length (those k bs))
unfolding right
right-count c k bs = refl

-- more boxes, none of them of the kind, change nothing
pub right-append : (c : Container) (k : Kind) (bs cs : List Box) → those k cs ≡ [] → right c k (bs ++ cs) ≡ right c k bs
unfolding right
right-append c k bs cs none = rw (those-append, none, append-nil)

-- the rule is the one that the table has of the kind in the container
pub count_rule : (c : Container) (k : Kind) (n : ℕ) → right_count c k n ≡ keeps (rule_in rules c k) n
unfolding right_count
count_rule c k n = refl

-- as the table says: `right_one Pfil pfhd bs refl`
module _ (c : Container) (k : Kind) (bs : List Box) where
  right_by : {count : Count} → rule_in rules c k ≡ count → right c k bs ≡ keeps count (length (those k bs))
  right_by e =
      right-count c k bs ∙ count_rule c k (length (those k bs)) ∙ ap (λ count. keeps count (length (those k bs))) e

  pub right_one : rule_in rules c k ≡ One → right c k bs ≡ true → length (those k bs) ≡ 1
  unfolding keeps
  right_one rule h = eqb-true (length (those k bs)) 1 (sym (right_by rule) ∙ h)

  pub one_right : rule_in rules c k ≡ One → length (those k bs) ≡ 1 → right c k bs ≡ true
  unfolding keeps
  one_right rule h = right_by rule ∙ eq-eqb (length (those k bs)) 1 h

  pub right_some : rule_in rules c k ≡ OneOrMore → right c k bs ≡ true → 1 ≤ length (those k bs)
  unfolding keeps
  right_some rule h = leb-true 1 (length (those k bs)) (sym (right_by rule) ∙ h)

  pub some_right : rule_in rules c k ≡ OneOrMore → 1 ≤ length (those k bs) → right c k bs ≡ true
  unfolding keeps
  some_right rule h = right_by rule ∙ le-leb 1 (length (those k bs)) h

  pub few_right : rule_in rules c k ≡ AtMostOne → length (those k bs) ≤ 1 → right c k bs ≡ true
  unfolding keeps
  few_right rule h = right_by rule ∙ le-leb (length (those k bs)) 1 h
