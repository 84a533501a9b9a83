-- Laws of the line of a box: where the parts of a box that was read lie, when it has a user type, and its fields one
-- behind the other.
use Prim.Native.Nat.{ℕ, ◌+◌, ◌-◌, ◌^◌, ◌≤◌, ◌<◌}
use mathlib.Core.Bool.{Bool, true, false}
use mathlib.Core.List.{List, [], ◌∷◌, ◌++◌}
use mathlib.Core.Path.{◌≡◌, refl, ap}
use native.Mathlib.Omega.{arith}
use borrow.Author.Tests.{eqb-true, eqb-false}
use lib.Dec.{eqb}
use lib.ListN.{length, take, drop, length-take, length-drop}
use Rattle.boxes.specs.Answer.{given}
use Rattle.boxes.specs.Framing.{uuid, user_size, header, box_of}
use Rattle.boxes.specs.declared.framing.Framed.{Framed}
use Rattle.boxes.specs.declared.kinds.Container.TheVariants.{File}
use Rattle.boxes.proofs.HeaderLaws.{user-vendor, user_none, user_most, header_inside}
use Rattle.filling.specs.Rows.{Puts}
use Rattle.filling.proofs.PutsLaws.{puts_more}
use Rattle.partial.specs.BoxList.{hex, shown, each, type_bytes, user_bytes, box_line}
use Rattle.partial.specs.Map.{decimal, line}
use Rattle.partial.specs.Heading.{bytes_in}
use Rattle.texts.specs.Pieces.{PutsPiece}
use Rattle.texts.proofs.TextLaws.{piece_puts}
use Rattle.boxlisting.specs.Fields.{user_field}

-- where the parts of a box lie in its file
pub record Lies (f : List ℕ) (b : Framed) : Type 0 where
  pub front : b.at.0 + 8 ≤ b.user.0
  pub typed : b.body.0 ≡ b.user.0 + user_size b.kind.code
  pub most : user_size b.kind.code ≤ 16
  pub whole : b.body.0 ≤ b.end.0
  pub ends : b.end.0 ≤ length f

module _ (f : List ℕ) (b : Framed) where
  pub lies : header File f b.at.0 (length f) ≡ given (box_of b) → Lies f b
  unfolding box_of
  lies read =
      let inside = header_inside File f b.at.0 (length f) read in
      record { front = inside.front; typed = inside.typed; most = user_most b.kind.code; whole = inside.whole; ends = inside.ends }

  module _ (l : Lies f b) where
    pub start_end : b.at.0 ≤ b.end.0
    start_end = omega (arith, l.front, l.typed, l.whole)

    pub user_body : b.user.0 ≤ b.body.0
    user_body = omega (arith, l.typed)

    pub body_file : b.body.0 ≤ length f
    body_file = omega (arith, l.whole, l.ends)

    pub type_file : b.at.0 + 8 ≤ length f
    type_file = omega (arith, l.front, l.typed, l.whole, l.ends)

    pub user_few : length (take (b.body.0 - b.user.0) (drop b.user.0 f)) ≤ 16
    user_few = omega (arith, l.typed, l.most, length-take (b.body.0 - b.user.0) (drop b.user.0 f))

    -- there is no byte between the two exactly where they start together
    pub no_bytes : length (take (b.body.0 - b.user.0) (drop b.user.0 f)) ≡ 0 → b.user.0 ≡ b.body.0
    no_bytes none = omega (arith, none, user_body, body_file, length-take (b.body.0 - b.user.0) (drop b.user.0 f), length-drop b.user.0 f)

    pub some_bytes : (length (take (b.body.0 - b.user.0) (drop b.user.0 f)) ≡ 0 → ⊥) → b.user.0 ≡ b.body.0 → ⊥
    some_bytes some same = some (omega (arith, same, length-take (b.body.0 - b.user.0) (drop b.user.0 f)))

    -- a box whose body starts where its user type does is not of `uuid`
    pub no_user : b.user.0 ≡ b.body.0 → [] ≡ user_field f (box_of b)
    unfolding user_field box_of
    no_user same = go (eqb b.kind.code uuid) refl
      where
        go : (vendor : Bool) → eqb b.kind.code uuid ≡ vendor → [] ≡ user_field f (box_of b)
        go true e = absurd (omega (arith, l.typed, user-vendor b.kind.code (eqb-true _ _ e), same))
        go false e = simp (user_field, e)

    pub some_user : (b.user.0 ≡ b.body.0 → ⊥)
        → (9 ∷ []) ++ each hex (take (b.body.0 - b.user.0) (drop b.user.0 f)) ≡ user_field f (box_of b)
    unfolding user_field box_of user_bytes bytes_in
    some_user other = go (eqb b.kind.code uuid) refl
      where
        go : (vendor : Bool) → eqb b.kind.code uuid ≡ vendor
            → (9 ∷ []) ++ each hex (take (b.body.0 - b.user.0) (drop b.user.0 f)) ≡ user_field f (box_of b)
        go true e = simp (user_field, e)
        go false e = absurd (other (omega (arith, l.typed, user_none b.kind.code (eqb-false _ _ e))))

  -- the type stands between the size and what follows both
  pub type_text : each shown (take (b.at.0 + 8 - (b.at.0 + 4)) (drop (b.at.0 + 4) f)) ≡ each shown (type_bytes f (box_of b))
  unfolding type_bytes bytes_in box_of
  type_text =
      let four : b.at.0 + 8 - (b.at.0 + 4) ≡ 4 = omega arith in
      ap (λ (n : ℕ). each shown (take n (drop (b.at.0 + 4) f))) four

  -- the fields of a box's line
  abbrev pub fields : List ℕ → List ℕ → List ℕ
  fields kind user = decimal b.at.0 ++ (9 ∷ (decimal (b.end.0 - b.at.0) ++ (9 ∷ (kind ++ (user ++ (10 ∷ []))))))

  pub line_fields : fields (each shown (type_bytes f (box_of b))) (user_field f (box_of b)) ≡ box_line f (box_of b)
  unfolding box_line line user_field box_of
  line_fields = go (eqb b.kind.code uuid) refl
    where
      go : (vendor : Bool) → eqb b.kind.code uuid ≡ vendor → fields (each shown (type_bytes f (box_of b))) (user_field f (box_of b)) ≡ box_line f (box_of b)
      go true e = simp (box_line, line, user_field, e)
      go false e = simp (box_line, line, user_field, e)

  -- put one behind the other
  pub fields_put : (kind user : List ℕ) {s t₁ t₂ t₃ t₄ t₅ t₆ t : List ℕ} {at first size second type third last next : ℕ} → at < 2 ^ 57
      → PutsPiece s at (decimal b.at.0) t₁ first
      → first ≤ at + 20
      → PutsPiece t₁ first (9 ∷ []) t₂ size
      → PutsPiece t₂ size (decimal (b.end.0 - b.at.0)) t₃ second
      → second ≤ size + 20
      → PutsPiece t₃ second (9 ∷ []) t₄ type
      → Puts t₄ type kind t₅ third
      → third ≤ type + 64
      → Puts t₅ third user t₆ last
      → last ≤ third + 65
      → PutsPiece t₆ last (10 ∷ []) t next
      → Puts s at (fields kind user) t next × (next ≤ at + 200)
  fields_put kind user {at = at} {size = size} {type = type} {next = next} low a a-few tab b b-few tab' c c-few d d-few end =
      let size_low : size ≤ at + 21 = omega (arith, tab.end) in
      let type-low : type ≤ at + 42 = omega (arith, tab'.end) in
      let next_low : next ≤ at + 200 = omega (arith, end.end) in
      let puts =
      puts_more (piece_puts (omega arith) a)
      (puts_more (piece_puts (omega arith) tab)
      (puts_more (piece_puts (omega arith) b)
      (puts_more (piece_puts (omega arith) tab') (puts_more c (puts_more d (piece_puts (omega arith) end)))))) in
      (puts, next_low)
