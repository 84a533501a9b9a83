-- Pieces of a copy of which each is one box: how its header reads, and that the boxes fill what the pieces make.
use Prim.Native.Nat.{ℕ, ◌+◌, ◌-◌, ◌^◌, ◌<◌, ◌≤◌}
use mathlib.Core.Bool.{false}
use mathlib.Core.List.{List, [], ◌∷◌, ◌++◌, append_assoc, append-nil}
use mathlib.Core.Path.{◌≡◌, refl, sym, ap, ◌∙◌}
use native.Mathlib.Nat.{zero-add, add-zero, add_assoc}
use native.Mathlib.Omega.{arith}
use borrow.Author.Tests.{eq-eqb, ne_eqb, eqb-false}
use lib.ListN.{length, length-append, length-take, length-drop}
use lib.Seq.{get_or-take, get_or-drop}
use lib.Dec.{leb, eqb}
use Rattle.boxes.specs.Answer.{given}
use Rattle.boxes.specs.Framing.{Box, uuid, user_size, sized, large, header, front_size, front, boxed}
use Rattle.boxes.specs.declared.kinds.Container.{Container}
use Rattle.boxes.proofs.AnswerLaws.{held}
use Rattle.boxes.proofs.HeaderLaws.{Inside, moved, header_inside, user_none, sized-fits, large_whole, header-large, header_short, sized_given, by_form, header_moved, header_further}
use Rattle.boxes.proofs.BoxedLaws.{length_front, length-boxed, header-boxed}
use Rattle.boxes.proofs.ContainerLaws.{Filled, full, next}
use Rattle.numerals.specs.Numbers.{number, bytes_of}
use Rattle.numerals.proofs.NumberLaws.{number_same, number-bytes_of, length-bytes_of}
use Rattle.partial.specs.Heading.{bytes_in}
use Rattle.partial.specs.BoxList.{each}
use Rattle.partial.proofs.Meaning.SequenceLaws.{Each}
use Rattle.additions.proofs.StandsLaws.{Stands, stands_left, stands_right}
use Rattle.rescue.specs.Copy.{box_bytes, reheaded}
use Rattle.rescue.proofs.Shapes.{Alike, resized}

-- a piece is one box, with the header of another
abbrev pub OneBox : Container → List ℕ → Box → Type 0
OneBox c p b = header c p 0 (length p) ≡ given (resized 0 (length p) b)

-- a box in the large form: how it is read, and where its body stands
module _ (kind : ℕ) (body : List ℕ) where
  abbrev large_boxed : List ℕ
  large_boxed = bytes_of 4 1 ++ (bytes_of 4 kind ++ (bytes_of 8 (16 + length body) ++ body))

  length-large : length large_boxed ≡ 16 + length body
  length-large = simp (length-append, length-bytes_of) (omega arith)

  large_body : (g : List ℕ) (at : ℕ) → Stands g at large_boxed → Stands g (at + 16) body
  large_body g at stands =
      let front : List ℕ = bytes_of 4 1 ++ (bytes_of 4 kind ++ bytes_of 8 (16 + length body)) in
      simp (length-append, length-bytes_of) at (stands_right g at front body (simp append_assoc stands))

  header_large_boxed : (c : Container) → kind < 2 ^ 32 → eqb kind uuid ≡ false → 16 + length body < 2 ^ 64
      → header c large_boxed 0 (length large_boxed) ≡ given (record { kind = kind; at = 0; user = 0 + 16; body = 0 + 16; end = 0 + length large_boxed })
  header_large_boxed c known other fits =
      let long = length-large in
      let none = user_none kind (eqb-false kind uuid other) in
      let one : 1 ≡ number large_boxed 0 4 = sym (number-bytes_of [] _ 4 1 (omega arith)) in
      let code : kind ≡ number large_boxed 4 4 = sym (rw length-bytes_of at (number-bytes_of (bytes_of 4 1) (bytes_of 8 (16 + length body) ++ body) 4 kind known)) in
      let size : 16 + length body ≡ number large_boxed 8 8 =
      sym (simp (append_assoc, length-append, length-bytes_of) at (number-bytes_of (bytes_of 4 1 ++ bytes_of 4 kind) body 8 (16 + length body) fits)) in
      header-large c large_boxed 0 (length large_boxed) (omega arith) one refl
      ∙ large_whole large_boxed 0 (length large_boxed) (omega arith) size
      ∙ sized-fits large_boxed 0 (length large_boxed) 16 (16 + length body) {front = 16} code (omega arith) (omega arith) (omega arith)
      ∙ rw long

module _ (c : Container) (f : List ℕ) (end : ℕ) {b : Box} (read : header c f b.at end ≡ given b) where
  -- it lies in its container
  lies : Inside b.at end b
  lies = header_inside c f b.at end read

  -- what a header whose size and type take so many bytes says of it
  form_places : (width size : ℕ) → sized f b.at end width size ≡ given b → (number f (b.at + 4) 4 ≡ b.kind) × (b.at + width ≡ b.user) × (b.at + size ≡ b.end)
  form_places width size g =
      let same = (sized_given f b.at end width size g).2 in
      (ap (λ (x : Box). x.kind) same, ap (λ (x : Box). x.user) same, ap (λ (x : Box). x.end) same)

  -- in the large form they take sixteen
  large_form : large f b.at end ≡ given b → sized f b.at end 16 (number f (b.at + 8) 8) ≡ given b
  unfolding large
  large_form g = (held 2 (leb (b.at + 16) end) _ g).1

  -- with the header and the size of a box of f it is that box
  pub front_alone : (p : List ℕ) → length p ≡ b.end - b.at → Alike f b.at p 0 (b.body - b.at) → OneBox c p b
  front_alone p long front = by_form c f b.at end read in-large in-short
    where
      number_alike : (from w : ℕ) → from + w ≤ b.body - b.at → number p from w ≡ number f (b.at + from) w
      number_alike from w fits =
          number_same p f from (b.at + from) w
          (λ k l. let there = front (from + k) (omega arith) in rw (add_assoc b.at from k) (simp zero-add at there))

      size_alike : number f b.at 4 ≡ number p 0 4
      size_alike = sym (rw add-zero at (number_alike 0 4 (omega (arith, lies))))

      in-form : (width size : ℕ) → sized f b.at end width size ≡ given b → sized p 0 (length p) width size ≡ given (resized 0 (length p) b)
      in-form width size g =
          let inside = lies in
          let (kind, user, ends) = form_places width size g in
          let wide : width ≡ b.user - b.at = omega arith in
          let many : size ≡ length p = omega arith in
          sized-fits p 0 (length p) width size {front = b.body - b.at} (sym (number_alike 4 4 (omega arith) ∙ kind)) (omega arith) (omega arith) (omega arith)
          ∙ rw (wide, many)

      in-large : b.at + 8 ≤ end → number f b.at 4 ≡ 1 → large f b.at end ≡ given b → OneBox c p b
      in-large whole one g =
          let inside = lies in
          let (kind, user, ends) = form_places 16 _ (large_form g) in
          header-large c p 0 (length p) (omega arith) size_alike one
          ∙ large_whole p 0 (length p) (omega arith) (sym (number_alike 8 8 (omega arith)))
          ∙ in-form 16 _ (large_form g)

      in-short : b.at + 8 ≤ end → (number f b.at 4 ≡ 0 → ⊥) → (number f b.at 4 ≡ 1 → ⊥) → sized f b.at end 8 (number f b.at 4) ≡ given b → OneBox c p b
      in-short whole not-zero not-one g = header_short c p 0 (length p) (omega (arith, lies)) size_alike not-zero not-one ∙ in-form 8 _ g

  module _ (inside : b.end ≤ length f) where
    pub length-box_bytes : length (box_bytes f b) ≡ b.end - b.at
    unfolding box_bytes bytes_in
    length-box_bytes = simp (length-take, length-drop) (omega (arith, lies))

    -- its bytes stand where they stood
    pub bytes_alike : Alike f b.at (box_bytes f b) 0 (b.end - b.at)
    unfolding box_bytes bytes_in
    bytes_alike i h = rw (zero-add, get_or-take, get_or-drop)

    pub whole_alone : OneBox c (box_bytes f b) b
    whole_alone = front_alone (box_bytes f b) length-box_bytes (λ i h. bytes_alike i (omega (arith, lies)))

  -- a container with a body that is not longer keeps its header form
  module _ (other : eqb b.kind uuid ≡ false) (body : List ℕ) where
    none : user_size b.kind ≡ 0
    none = user_none b.kind (eqb-false b.kind uuid other)

    -- which is one of two
    by_width : (P : ℕ → List ℕ → Type 0) → P 16 (large_boxed b.kind body) → P 8 (boxed b.kind body) → P (b.body - b.at) (reheaded b body)
    unfolding reheaded boxed
    by_width P wide narrow =
        by_form c f b.at end read (λ _ _ g. in-large (form_places 16 _ (large_form g)).1) (λ _ _ _ g. in-short (form_places 8 _ g).1)
      where
        in-large : b.at + 16 ≡ b.user → P (b.body - b.at) (reheaded b body)
        in-large user =
            let size : b.body - b.at ≡ 16 = omega (arith, lies, none) in
            rw (size, reheaded, eq-eqb b.body (b.at + 16) (omega arith)) wide

        in-short : b.at + 8 ≡ b.user → P (b.body - b.at) (reheaded b body)
        in-short user =
            let size : b.body - b.at ≡ 8 = omega (arith, lies, none) in
            rw (size, reheaded, ne_eqb b.body (b.at + 16) (omega arith)) narrow

    pub length-reheaded : length (reheaded b body) ≡ b.body - b.at + length body
    unfolding front_size
    length-reheaded = by_width (λ n s. length s ≡ n + length body) (length-large b.kind body) (length-boxed b.kind body)

    pub reheaded_alone : b.kind < 2 ^ 32 → b.end < 2 ^ 32 → length body ≤ b.end - b.body → OneBox c (reheaded b body) b
    unfolding front_size
    reheaded_alone known low short =
        let inside = lies in
        let user : b.user - b.at ≡ b.body - b.at = omega (arith, none) in
        rw user
        (by_width (λ n s. header c s 0 (length s) ≡ given (record { kind = b.kind; at = 0; user = 0 + n; body = 0 + n; end = 0 + length s }))
        (header_large_boxed b.kind body c known other (omega arith))
        (rw length-boxed (simp append-nil at (header-boxed [] [] b.kind body c (8 + length body) known other (omega arith) (omega arith)))))

    pub reheaded_body : (g : List ℕ) (at : ℕ) → Stands g at (reheaded b body) → Stands g (at + (b.body - b.at)) body
    unfolding boxed front_size
    reheaded_body g at =
        by_width (λ n s. Stands g at s → Stands g (at + n) body) (large_body b.kind body g at)
        (λ stands. rw length_front at (stands_right g at (front b.kind (length body)) body stands))

-- a piece so many bytes further on
moved_resized : (at size : ℕ) (b : Box) → moved at (resized 0 size b) ≡ resized at size b
moved_resized at size b = cc (add-zero at, zero-add (b.user - b.at), zero-add (b.body - b.at), zero-add size)

-- pieces one behind the other are boxes one behind the other
module _ {A : Type 0} (text : A → List ℕ) (box : A → Box) where
  unfoldable pub row_of : ℕ → List A → List Box
  row_of at [] = []
  row_of at (x ∷ xs) = resized at (length (text x)) (box x) ∷ row_of (at + length (text x)) xs

  module _ (c : Container) where
    -- where they stand in a file
    pub pieces_stand : (g : List ℕ) (at : ℕ) (xs : List A) → Each (λ x. OneBox c (text x) (box x)) xs → Stands g at (each text xs)
        → Filled c g (at + length (each text xs)) at (row_of at xs)
    unfolding each row_of
    pieces_stand g at [] ones stands = full {at = at} (omega arith)
    pieces_stand g at (x ∷ xs) (one, ones) stands =
        let inside = header_inside c (text x) 0 (length (text x)) one in
        let long = length-append (text x) (each text xs) in
        let there : header c g at (at + length (text x)) ≡ given (resized at (length (text x)) (box x)) =
        simp add-zero at (header_moved (text x) g at 0 (length (text x)) (stands_left g at (text x) (each text xs) stands) c) ∙ rw one (ap given (moved_resized at (length (text x)) (box x))) in
        let rest = pieces_stand g (at + length (text x)) xs ones (stands_right g at (text x) (each text xs) stands) in
        next {at = at} (omega arith) (header_further g at (at + length (text x)) _ (omega arith) c there) (rw (add_assoc, ← long) at rest)

    -- also alone
    pub pieces_filled : (xs : List A) → Each (λ x. OneBox c (text x) (box x)) xs → Filled c (each text xs) (length (each text xs)) 0 (row_of 0 xs)
    pieces_filled xs ones = rw zero-add at (pieces_stand (each text xs) 0 xs ones (λ i h. rw zero-add))
