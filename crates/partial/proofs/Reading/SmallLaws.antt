-- How large what an accepted file tells of a chunk may be: its state, its place, where it ends in the file and in the
-- source.
use Prim.Native.Nat.{ℕ, zero, suc, ◌+◌, ◌/◌, ◌%◌, ◌≤◌, ◌<◌}
use mathlib.Core.Bool.{Bool, true, false}
use mathlib.Core.List.{List, [], ◌∷◌, ◌++◌}
use mathlib.Core.Logic.{◌⊎◌, inl, inr}
use mathlib.Core.Path.{◌≡◌, sym, ap, subst}
use native.Mathlib.Omega.{arith}
use borrow.Author.Tests.{leb-true}
use lib.Dec.{leb, ltb, eqb}
use lib.ListN.{length, get_or}
use Rattle.boxes.specs.Answer.{given}
use Rattle.boxes.specs.Framing.{Box, boxes_in}
use Rattle.boxes.specs.Kinds.{pseg, those, box_at}
use Rattle.boxes.specs.declared.kinds.Container.TheVariants.{File}
use Rattle.boxes.proofs.AnswerLaws.{given_same, both_given, held}
use Rattle.boxes.proofs.ContainerLaws.{boxes_standing}
use Rattle.partial.specs.ReadingDemands.{InData, Whole}
use Rattle.partial.specs.Entries.{Ploc, Entry, state, state_of, entry, place_of, Cursor, chunk_step, chunks_from}
use Rattle.partial.specs.Heading.{Heading, heading}
use Rattle.partial.specs.Limits.{file_limit}
use Rattle.partial.specs.Reading.{segment, segments_from, segments}
use Rattle.partial.specs.Segments.{Chunk, Segment, elsewhere, has_place, present}
use Rattle.partial.proofs.Meaning.MappedLaws.{lies, may_be}
use Rattle.partial.proofs.Reading.HeadingAppendLaws.{headed}
use Rattle.partial.proofs.Reading.KeptLaws.{stepped, segmented}
use Rattle.partial.proofs.Reading.ReadingLaws.{step_told}

-- a chunk of a file in which the source may have so many positions
pub record Small (limit : ℕ) (c : Chunk) : Type 0 where
  pub state : c.state ≤ elsewhere
  pub placed : has_place c.state c.size ≡ true → c.place + c.size ≤ file_limit
  pub unplaced : has_place c.state c.size ≡ false → c.place ≡ 0
  pub ends : c.start + c.size ≤ limit

-- chunks that follow each other from a position on, and those of segments
abbrev pub SmallFrom : ℕ → ℕ → List Chunk → Type 0
SmallFrom limit start [] = Unit {0}
SmallFrom limit start (c ∷ cs) = (c.start ≡ start) × Small limit c × SmallFrom limit (start + c.size) cs

abbrev pub AllSmall : ℕ → List Segment → Type 0
AllSmall limit [] = Unit {0}
AllSmall limit (s ∷ ss) = SmallFrom limit s.source_offset s.chunks × AllSmall limit ss

pub all_append : (limit : ℕ) (ss ts : List Segment) → AllSmall limit ss → AllSmall limit ts → AllSmall limit (ss ++ ts)
all_append limit [] ts a b = b
all_append limit (s ∷ ss) ts (one, rest) b = (one, all_append limit ss ts rest b)

-- ---- an entry

state_low : (a b : Bool) → state a b ≤ elsewhere
unfolding state
state_low false true = omega arith
state_low true true = omega arith
state_low true false = omega arith
state_low false false = omega arith

entry_low : (f : List ℕ) (l : Ploc) (at : ℕ) {e : Entry} → entry f l at ≡ given e → e.state ≤ elsewhere
unfolding entry state_of
entry_low f l at g =
    let (_, g) = held 17 (ltb at l.end) _ g in
    let (s, told, g) = both_given (state_of (get_or f at 0)) _ g in
    let (_, same) = held 20 (eqb (get_or f at 0 % 64) 0) _ told in
    let (_, whole) = held 17 (leb (at + 1 + l.length_size + (elim (present s) [ true ↦ l.offset_size | false ↦ 0 ])) l.end) _ g in
    let low = state_low (eqb (get_or f at 0 / 128) 1) (eqb (get_or f at 0 / 64 % 2) 1) in
    omega (arith, low, given_same same, ap (λ (e : Entry). e.state) (given_same whole))

place_none : (h : Heading) (from : ℕ) (e : Entry) {place : ℕ} → place_of h from e ≡ given place → has_place e.state e.size ≡ false → place ≡ 0
unfolding place_of
place_none h from e g none = sym (given_same (rw (place_of, none) at g))

-- ---- a file with the boxes of a heading

module _ (limit : ℕ) (f : List ℕ) (h : Heading) (small : length f ≤ file_limit) (known : boxes_in File f 0 (length f) ≡ given h.boxes) where
  -- what lies in the file ends in it
  inside : (c : Chunk) → InData h c ⊎ Whole h c → c.place + c.size ≤ file_limit
  inside c lies =
      let ends : (k : ℕ) → k < length h.boxes → (box_at k h.boxes).end ≤ length f = λ k less. (boxes_standing File f 0 (length f) known k less).inside.ends in
      elim lies [
        | inl d ↦ omega (arith, ends d.number d.there, d.to)
        | inr w ↦ omega (arith, ends (w.first + w.more) w.there, w.ends)
      ]

  step_small : (from : ℕ) (l : Ploc) (c : Cursor) {met : Chunk × Cursor} → chunk_step limit f h from l c ≡ given met → Small limit met.0
  unfolding chunk_step lies
  step_small from l c {met} g =
      let (_, _, lie) = step_told limit f h from l c g in
      let (e, read, g) = both_given (entry f l c.at) _ g in
      let (low, g) = held 23 (leb (c.start + e.size) limit) _ g in
      let (place, placed, g) = both_given (place_of h from e) _ g in
      subst (λ (met : Chunk × Cursor). (has_place met.0.state met.0.size ≡ true → met.0.place + met.0.size ≤ file_limit) → Small limit met.0) (given_same g)
      (λ within. record { state = entry_low f l c.at read; placed = within; unplaced = place_none h from e placed; ends = leb-true (c.start + e.size) limit low })
      (λ has. inside met.0 (may_be h met.0 (rw has at lie)))

  chunks_small : (from : ℕ) (l : Ploc) (n : ℕ) (c : Cursor) {cs : List Chunk} → chunks_from limit f h from l n c ≡ given cs → SmallFrom limit c.start cs
  unfolding chunks_from
  chunks_small from l zero c g = subst (SmallFrom limit c.start) (given_same (held 17 (eqb c.at l.end) _ g).1) tt
  chunks_small from l (suc n) c g =
      let (met, read, g) = both_given (chunk_step limit f h from l c) _ g in
      let (rest, others, g) = both_given (chunks_from limit f h from l n met.1) _ g in
      let (starts, on, _) = step_told limit f h from l c read in
      subst (SmallFrom limit c.start) (given_same g) (starts, step_small from l c read, rw on at (chunks_small from l n met.1 others))

  pub segment_small : (before : List Segment) (b : Box) {s : Segment} → segment limit f h before b ≡ given s → SmallFrom limit s.source_offset s.chunks
  segment_small before b g =
      let (inner, l, cs, t, same) = stepped limit f h before b g in
      subst (λ s. SmallFrom limit s.source_offset s.chunks) same (chunks_small b.at l l.count _ t.chunks)

  segments_small : (before : List Segment) (bs : List Box) {ss : List Segment} → AllSmall limit before → segments_from limit f h before bs ≡ given ss → AllSmall limit ss
  unfolding segments_from
  segments_small before [] all g = subst (AllSmall limit) (given_same g) all
  segments_small before (b ∷ bs) all g =
      let (s, read, g) = both_given (segment limit f h before b) _ g in
      segments_small (before ++ (s ∷ [])) bs (all_append limit before (s ∷ []) all (segment_small before b read, tt)) g

-- a file with a heading
pub all_small : (limit : ℕ) (f : List ℕ) (h : Heading) → heading f ≡ given h → {ss : List Segment} → segments limit f h ≡ given ss → AllSmall limit ss
all_small limit f h known g =
    let t = headed f h known in
    segments_small limit f h (leb-true (length f) file_limit t.small) t.boxes [] (those pseg h.boxes) tt (segmented limit f h g).read
