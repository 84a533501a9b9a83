-- Laws of the head of a `ploc`: what each test of it decides, and what each answer says.
use Prim.Native.Nat.{ℕ, ◌+◌, ◌/◌, ◌%◌, ◌≤◌, ◌<◌, min}
use mathlib.Core.Bool.{true, false, ◌&&◌}
use mathlib.Core.List.{List}
use mathlib.Core.Path.{◌≡◌, ap, ◌∙◌}
use native.Mathlib.Omega.{arith}
use borrow.Author.Tests.{leb-true, le-leb, lt-leb, eq-eqb, ne_eqb}
use lib.Dec.{leb, eqb}
use Rattle.boxes.specs.Answer.{refused, given, ◌>>=◌, hold, told_as}
use Rattle.boxes.proofs.ToldLaws.{told-ok}
use Rattle.refusals.specs.declared.Refusal.{Refusal}
use Rattle.std.specs.Prelude.{Result, Ok}
use Rattle.numerals.specs.Numbers.{number}
use Rattle.boxes.specs.Framing.{Box}
use Rattle.boxes.proofs.AnswerLaws.{given_same, held}
use Rattle.partial.specs.Entries.{Ploc, ploc_head}
use Rattle.partial.proofs.Meaning.SequenceLaws.{both}
use Rattle.fields.specs.Location.{head_of, ploc_of}
use Rattle.fields.specs.declared.location.Location.{Location}

-- the head with those widths
abbrev head_with : List ℕ → Box → ℕ → Ploc
head_with f b widths = record { length_size = widths / 16; offset_size = widths % 16; count = number f (b.body + 7) 2; first = b.body + 9; end = b.end }

module _ (f : List ℕ) (b : Box) where
  pub head_cut : leb (b.body + 9) b.end ≡ false → ploc_head f b ≡ refused 17
  unfolding ploc_head
  head_cut h = simp (ploc_head, h)

  module _ (whole : leb (b.body + 9) b.end ≡ true) {full : ℕ} (fully : full ≡ number f b.body 4) where
    pub head_other : (full ≡ 0 → ⊥) → ploc_head f b ≡ refused 17
    unfolding ploc_head
    head_other h = simp (ploc_head, whole, ← fully, ne_eqb full 0 h)

    module _ (plain : full ≡ 0) {widths : ℕ} (read : widths ≡ number f (b.body + 4) 1) where
      pub length_wide : 8 < widths / 16 → ploc_head f b ≡ refused 18
      unfolding ploc_head
      length_wide h = simp (ploc_head, whole, ← fully, eq-eqb full 0 plain, ← read, lt-leb (widths / 16) 8 h)

      module _ (size : widths / 16 ≤ 8) where
        pub offset_wide : 8 < widths % 16 → ploc_head f b ≡ refused 18
        unfolding ploc_head
        offset_wide h = simp (ploc_head, whole, ← fully, eq-eqb full 0 plain, ← read, le-leb (widths / 16) 8 size, lt-leb (widths % 16) 8 h)

        module _ (offset : widths % 16 ≤ 8) {index : ℕ} (indexed : index ≡ number f (b.body + 5) 2) where
          narrow : ploc_head f b ≡ (hold 19 (eqb index 0) >>= λ _. given (head_with f b widths))
          unfolding ploc_head
          narrow = simp (ploc_head, whole, ← fully, eq-eqb full 0 plain, ← read, le-leb (widths / 16) 8 size, le-leb (widths % 16) 8 offset, ← indexed)

          pub head_elsewhere : (index ≡ 0 → ⊥) → ploc_head f b ≡ refused 19
          head_elsewhere h = narrow ∙ rw (ne_eqb index 0 h)

          pub head_given : index ≡ 0 → {count : ℕ} → count ≡ number f (b.body + 7) 2
              → ploc_head f b ≡ given (record { length_size = widths / 16; offset_size = widths % 16; count = count; first = b.body + 9; end = b.end })
          head_given h counted = narrow ∙ rw (eq-eqb index 0 h, counted)

-- the widths of a head that was read count as they are
head_read : (f : List ℕ) (b : Box) (l : Location) → ploc_head f b ≡ given (head_of l) → ploc_head f b ≡ given (ploc_of l)
unfolding ploc_head
head_read f b l h =
    let widths = number f (b.body + 4) 1 in
    let low = held 17 (leb (b.body + 9) b.end && eqb (number f b.body 4) 0) _ h in
    let few = held 18 (leb (widths / 16) 8 && leb (widths % 16) 8) _ low.1 in
    let index = held 19 (eqb (number f (b.body + 5) 2) 0) _ few.1 in
    let same = given_same index.1 in
    let narrow = both (leb (widths / 16) 8) (leb (widths % 16) 8) few.0 in
    let length : min l.length_size 8 ≡ l.length_size = omega (arith, leb-true (widths / 16) 8 narrow.0, ap (λ p. p.length_size) same) in
    let offset : min l.offset_size 8 ≡ l.offset_size = omega (arith, leb-true (widths % 16) 8 narrow.1, ap (λ p. p.offset_size) same) in
    rw (length, offset) h

-- what a head that was read says
pub location_given : (f : List ℕ) (b : Box) {r : Result Location Refusal} (answer : told_as head_of r ≡ ploc_head f b) {l : Location} → r ≡ Ok l → ploc_head f b ≡ given (ploc_of l)
location_given f b answer {l} e = head_read f b l (told-ok head_of answer e)
