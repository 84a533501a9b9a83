-- Laws of a box header: what each test decides, where the box that was read lies, and with which numbers a header is
-- refused.
use Prim.Native.Nat.{ℕ, ◌+◌, ◌≤◌, ◌<◌}
use mathlib.Core.Bool.{Bool, true, false, not}
use mathlib.Core.List.{List}
use mathlib.Core.Path.{◌≡◌, refl, sym, ap, subst, ◌∙◌}
use native.Mathlib.Decide.{dec_le, ℕ_discrete}
use native.Mathlib.Nat.{add_assoc}
use native.Mathlib.Omega.{arith}
use borrow.Author.Tests.{le-leb, lt-leb, eq-eqb, ne_eqb, leb-true, eqb-true, eqb-false, not-true}
use lib.Dec.{leb, eqb, lit≤}
use lib.ListN.{get_or}
use Rattle.boxes.specs.Answer.{refused, given, ◌>>=◌}
use Rattle.numerals.specs.Numbers.{number}
use Rattle.boxes.specs.Framing.{Box, uuid, user_size, sized, large, header}
use Rattle.boxes.specs.declared.kinds.Container.{Container}
use Rattle.boxes.proofs.AnswerLaws.{held, given_same, Only, only_given, only_held, only_either}
use Rattle.numerals.proofs.NumberLaws.{number_same}

-- a box of `uuid` has a user type of sixteen bytes, one of another type has none
module _ (kind : ℕ) where
  pub user-vendor : kind ≡ uuid → user_size kind ≡ 16
  unfolding user_size
  user-vendor e = simp (user_size, eq-eqb kind uuid e)

  pub user_none : (kind ≡ uuid → ⊥) → user_size kind ≡ 0
  unfolding user_size
  user_none e = simp (user_size, ne_eqb kind uuid e)

  pub user_most : user_size kind ≤ 16
  unfolding user_size
  user_most = go (eqb kind uuid)
    where
      go : (vendor : Bool) → elim vendor [ true ↦ 16 | false ↦ 0 ] ≤ 16
      go true = lit≤ tt
      go false = lit≤ tt

-- what the tests decide, for a box of that kind
module _ (s : List ℕ) (at end : ℕ) where
  module _ (width size : ℕ) {kind front : ℕ} (read : kind ≡ number s (at + 4) 4) (wide : front ≡ width + user_size kind) where
    pub sized_under : size < front → sized s at end width size ≡ refused 4
    unfolding sized
    sized_under h = simp (← read, ← wide, lt-leb front size h)

    module _ (over : front ≤ size) where
      pub sized_past : end < at + size → sized s at end width size ≡ refused 5
      unfolding sized
      sized_past past = simp (← read, ← wide, le-leb front size over, lt-leb (at + size) end past)

      pub sized-fits : at + size ≤ end
          → sized s at end width size ≡ given (record { kind = kind; at = at; user = at + width; body = at + front; end = at + size })
      unfolding sized
      sized-fits fits = simp (← read, ← wide, le-leb front size over, le-leb (at + size) end fits)

  pub large-cut : end < at + 16 → large s at end ≡ refused 2
  unfolding large
  large-cut h = simp (lt-leb (at + 16) end h)

  pub large_whole : at + 16 ≤ end → {size : ℕ} → size ≡ number s (at + 8) 8 → large s at end ≡ sized s at end 16 size
  unfolding large
  large_whole h e = simp (le-leb (at + 16) end h, e)

module _ (c : Container) (s : List ℕ) (at end : ℕ) where
  pub header-cut : end < at + 8 → header c s at end ≡ refused 2
  unfolding header
  header-cut h = simp (lt-leb (at + 8) end h)

  module _ (whole : at + 8 ≤ end) {size : ℕ} (read : size ≡ number s at 4) where
    pub header_zero : size ≡ 0 → header c s at end ≡ refused 3
    unfolding header
    header_zero zero = simp (le-leb (at + 8) end whole, ← read, zero)

    pub header-large : size ≡ 1 → header c s at end ≡ large s at end
    unfolding header
    header-large one = simp (le-leb (at + 8) end whole, ← read, one)

    pub header_short : (size ≡ 0 → ⊥) → (size ≡ 1 → ⊥) → header c s at end ≡ sized s at end 8 size
    unfolding header
    header_short not-zero not-one = simp (le-leb (at + 8) end whole, ← read, ne_eqb size 0 not-zero, ne_eqb size 1 not-one)

-- a box that was read lies inside its container, its user type stands right before its body, and the place after it is
-- further on
pub record Inside (at end : ℕ) (b : Box) : Type 0 where
  pub starts : b.at ≡ at
  pub front : at + 8 ≤ b.user
  pub typed : b.body ≡ b.user + user_size b.kind
  pub whole : b.body ≤ b.end
  pub ends : b.end ≤ end

module _ (s : List ℕ) (at end : ℕ) {b : Box} where
  pub sized_given : (width size : ℕ) → sized s at end width size ≡ given b
      → let kind : ℕ = number s (at + 4) 4 in
      (width + user_size kind ≤ size) × (at + size ≤ end) × (record { kind = kind; at = at; user = at + width; body = at + (width + user_size kind); end = at + size } ≡ b)
  unfolding sized
  sized_given width size h =
      let under = held 4 (leb (width + user_size (number s (at + 4) 4)) size) _ h in
      let past = held 5 (leb (at + size) end) _ under.1 in
      (leb-true _ _ under.0, leb-true _ _ past.0, given_same past.1)

  sized_inside : (width size : ℕ) → 8 ≤ width → sized s at end width size ≡ given b → Inside at end b
  sized_inside width size wide h =
      let g = sized_given width size h in
      subst (Inside at end) g.2 (record { starts = refl; front = omega arith; typed = omega arith; whole = omega arith; ends = omega arith })

  large_inside : large s at end ≡ given b → Inside at end b
  unfolding large
  large_inside h = sized_inside 16 (number s (at + 8) 8) (lit≤ tt) (held 2 (leb (at + 16) end) _ h).1

module _ (c : Container) (s : List ℕ) (at end : ℕ) {b : Box} where
  -- a box was read in one of the two forms
  pub by_form : {P : Type 0} → header c s at end ≡ given b
      → (at + 8 ≤ end → number s at 4 ≡ 1 → large s at end ≡ given b → P)
      → (at + 8 ≤ end → (number s at 4 ≡ 0 → ⊥) → (number s at 4 ≡ 1 → ⊥) → sized s at end 8 (number s at 4) ≡ given b → P)
      → P
  unfolding header
  by_form {P} h in-large in-short =
      let cut = held 2 (leb (at + 8) end) _ h in
      let none = held 3 (not (eqb (number s at 4) 0)) _ cut.1 in
      let whole : at + 8 ≤ end = leb-true _ _ cut.0 in
      let go : (one : Bool) → eqb (number s at 4) 1 ≡ one → (elim one [ true ↦ large s at end | false ↦ sized s at end 8 (number s at 4) ]) ≡ given b → P = elim [
        | true ↦ λ e g. in-large whole (eqb-true _ _ e) g
        | false ↦ λ e g. in-short whole (eqb-false _ _ (not-true _ none.0)) (eqb-false _ _ e) g
      ] in
      go (eqb (number s at 4) 1) refl none.1

  pub header_inside : header c s at end ≡ given b → Inside at end b
  header_inside h = by_form h (λ _ _. large_inside s at end) (λ _ _ _. sized_inside s at end 8 (number s at 4) (lit≤ tt))

-- a box that was read is read the same where its container ends further on
module _ (s : List ℕ) (at end end' : ℕ) (on : end ≤ end') {b : Box} where
  sized_further : (width size : ℕ) → sized s at end width size ≡ given b → sized s at end' width size ≡ given b
  sized_further width size h =
      let g = sized_given s at end width size h in
      sized-fits s at end' width size refl refl g.0 (omega arith) ∙ ap given g.2

  large_further : large s at end ≡ given b → large s at end' ≡ given b
  unfolding large
  large_further h =
      let cut = held 2 (leb (at + 16) end) _ h in
      let whole : at + 16 ≤ end = leb-true _ _ cut.0 in
      large_whole s at end' (omega arith) refl ∙ sized_further 16 _ cut.1

  pub header_further : (c : Container) → header c s at end ≡ given b → header c s at end' ≡ given b
  header_further c h =
      by_form c s at end h (λ whole one g. header-large c s at end' (omega arith) refl one ∙ large_further g)
      (λ whole not-zero not-one g. header_short c s at end' (omega arith) refl not-zero not-one ∙ sized_further 8 _ g)

-- a box so many bytes further on
abbrev pub moved : ℕ → Box → Box
moved n b = record { kind = b.kind; at = n + b.at; user = n + b.user; body = n + b.body; end = n + b.end }

-- a header is read the same where the same bytes stand so many bytes further on
module _ (s t : List ℕ) (n at end : ℕ) (same : (i : ℕ) → i < end → get_or t (n + i) 0 ≡ get_or s i 0) where
  number_moved : (from w : ℕ) → from + w ≤ end → number t (n + from) w ≡ number s from w
  number_moved from w h =
      number_same t s (n + from) from w (λ k below. rw (add_assoc n from k) (same (from + k) (omega arith)))

  sized_moved : (width size : ℕ) → at + 8 ≤ end → sized t (n + at) (n + end) width size ≡ (sized s at end width size >>= λ b. given (moved n b))
  sized_moved width size whole =
      let kind : ℕ = number s (at + 4) 4 in
      let front : ℕ = width + user_size kind in
      let same_kind : kind ≡ number t (n + at + 4) 4 = sym (rw (add_assoc n at 4) (number_moved (at + 4) 4 (omega arith))) in
      elim (dec_le front size) [
        | no under ↦
            sized_under t (n + at) (n + end) width size same_kind refl (omega arith) ∙ rw (sized_under s at end width size refl refl (omega arith))
        | yes over ↦
            elim (dec_le (at + size) end) [
              | no past ↦
                  sized_past t (n + at) (n + end) width size same_kind refl over (omega arith) ∙ rw (sized_past s at end width size refl refl over (omega arith))
              | yes fits ↦
                  sized-fits t (n + at) (n + end) width size same_kind refl over (omega arith)
                  ∙ rw (sized-fits s at end width size refl refl over fits, add_assoc n at width, add_assoc n at front, add_assoc n at size)
            ]
      ]

  large_moved : at + 8 ≤ end → large t (n + at) (n + end) ≡ (large s at end >>= λ b. given (moved n b))
  large_moved whole =
      elim (dec_le (at + 16) end) [
        | no cut ↦ large-cut t (n + at) (n + end) (omega arith) ∙ rw (large-cut s at end (omega arith))
        | yes room ↦
            large_whole t (n + at) (n + end) (omega arith) (sym (rw (add_assoc n at 8) (number_moved (at + 8) 8 (omega arith))))
            ∙ sized_moved 16 (number s (at + 8) 8) whole ∙ rw (large_whole s at end room refl)
      ]

  pub header_moved : (c : Container) → header c t (n + at) (n + end) ≡ (header c s at end >>= λ b. given (moved n b))
  header_moved c =
      elim (dec_le (at + 8) end) [
        | no cut ↦ header-cut c t (n + at) (n + end) (omega arith) ∙ rw (header-cut c s at end (omega arith))
        | yes whole ↦
            let read : number s at 4 ≡ number t (n + at) 4 = sym (number_moved at 4 (omega arith)) in
            elim (ℕ_discrete (number s at 4) 0) [
              | yes none ↦
                  header_zero c t (n + at) (n + end) (omega arith) read none ∙ rw (header_zero c s at end whole refl none)
              | no not-zero ↦
                  elim (ℕ_discrete (number s at 4) 1) [
                    | yes one ↦
                        header-large c t (n + at) (n + end) (omega arith) read one ∙ large_moved whole ∙ rw (header-large c s at end whole refl one)
                    | no not-one ↦
                        header_short c t (n + at) (n + end) (omega arith) read not-zero not-one
                        ∙ sized_moved 8 (number s at 4) whole ∙ rw (header_short c s at end whole refl not-zero not-one)
                  ]
            ]
      ]

-- a header is refused with 2 to 5
module _ (s : List ℕ) (at end : ℕ) where
  abbrev Faults : ℕ → Type 0
  Faults n = (2 ≤ n) × (n ≤ 5)

  sized_numbers : (width size : ℕ) → Only Faults (sized s at end width size)
  unfolding sized
  sized_numbers width size =
      only_held Faults 4 (leb (width + user_size (number s (at + 4) 4)) size) _ (omega arith) (only_held Faults 5 (leb (at + size) end) _ (omega arith) (only_given Faults _))

  pub header_numbers : (c : Container) (n : ℕ) → header c s at end ≡ refused n → (2 ≤ n) × (n ≤ 5)
  unfolding header large
  header_numbers c =
      only_held Faults 2 (leb (at + 8) end) _ (omega arith)
      (only_held Faults 3 (not (eqb (number s at 4) 0)) _ (omega arith)
      (only_either Faults (eqb (number s at 4) 1)
      (only_held Faults 2 (leb (at + 16) end) _ (omega arith) (sized_numbers 16 (number s (at + 8) 8)))
      (sized_numbers 8 (number s at 4))))
