-- What the laws of the copy speak of: boxes and chunks at their new places, and bytes that were carried there.
use Prim.Native.Nat.{ℕ, ◌+◌, ◌-◌, ◌<◌, ◌≤◌}
use mathlib.Core.Bool.{true, false}
use mathlib.Core.List.{List, [], ◌∷◌, map}
use mathlib.Core.Path.{◌≡◌}
use lib.ListN.{get_or}
use Rattle.boxes.specs.Framing.{Box}
use Rattle.boxes.specs.Kinds.{ploc, pshd, is, first_of}
use Rattle.partial.specs.Segments.{Chunk, Segment, has_place}
use Rattle.rescue.specs.Kept.{dropped, whole, of_pfil, of_pseg, Fated}
use Rattle.rescue.specs.Copy.{unindexed, copy_size}

-- the bytes of g from c on are those of f from a on, so many of them
abbrev pub Alike : List ℕ → ℕ → List ℕ → ℕ → ℕ → Type 0
Alike f a g c n = (i : ℕ) → i < n → get_or g (c + i) 0 ≡ get_or f (a + i) 0

-- a box that starts at a place and has so many bytes, with the header of another
abbrev pub resized : ℕ → ℕ → Box → Box
resized at size b = record { kind = b.kind; at = at; user = at + (b.user - b.at); body = at + (b.body - b.at); end = at + size }

-- boxes of their old sizes, one behind the other from a place on
unfoldable pub row : ℕ → List Box → List Box
row at [] = []
row at (b ∷ bs) = resized at (b.end - b.at) b ∷ row (at + (b.end - b.at)) bs

-- a box of f and where it stands in g: as it was, or, a `ploc`, with other entries
pub record Carries (f g : List ℕ) (b c : Box) : Type 0 where
  pub typed : b.at ≤ b.user
  pub headed : b.user ≤ b.body
  pub ended : b.body ≤ b.end
  pub same : c ≡ resized c.at (b.end - b.at) b
  pub bytes : is ploc b ≡ false → Alike f b.at g c.at (b.end - b.at)

-- boxes of f and where they stand in g, one by one
abbrev pub Paired : List ℕ → List ℕ → List Box → List Box → Type 0
Paired f g [] [] = Unit {0}
Paired f g [] (c ∷ cs) = ⊥
Paired f g (b ∷ bs) [] = ⊥
Paired f g (b ∷ bs) (c ∷ cs) = Carries f g b c × Paired f g bs cs

-- a chunk at its new place
abbrev pub chunk_anew : (ℕ → ℕ) → Chunk → Chunk
chunk_anew new c =
    record { start = c.start; size = c.size; state = c.state; place = elim (has_place c.state c.size) [ true ↦ new c.place | false ↦ 0 ] }

-- places of a `pseg` and of data: the new ones are no further apart, and in the same order
pub record Nearer (new : ℕ → ℕ) (pseg place : ℕ) : Type 0 where
  pub ahead : pseg ≤ place → (new pseg ≤ new place) × (new place ≤ new pseg + (place - pseg))
  pub back : place < pseg → (new place < new pseg) × (new pseg ≤ new place + (pseg - place))

-- the boxes inside a `pseg` at their new places, without its index
abbrev pub inner_anew : (ℕ → ℕ) → Box → Segment → List Box
inner_anew new b s = row (new s.place + (b.body - b.at)) (unindexed s.inner)

-- the segment of a `pseg` in the copy
abbrev pub segment_anew : (ℕ → ℕ) → Box → Segment → Segment
segment_anew new b s =
    record {
      place = new s.place;
      inner = inner_anew new b s;
      urls = s.urls;
      source = s.source;
      source_offset = s.source_offset;
      flags = s.flags;
      repair_time = s.repair_time;
      header_place = (first_of pshd (inner_anew new b s)).body;
      header_length = s.header_length;
      chunks = map (chunk_anew new) s.chunks;
    }

-- the segments of the copy of a file whose boxes have these fates
unfoldable pub segments_anew : (ℕ → ℕ) → List Fated → List Segment
segments_anew new [] = []
segments_anew new (x ∷ xs) =
    elim x.fate [
      | dropped n ↦ segments_anew new xs
      | whole ↦ segments_anew new xs
      | of_pfil inner ↦ segments_anew new xs
      | of_pseg s ↦ segment_anew new x.box s ∷ segments_anew new xs
    ]

-- the boxes of the copy whose part for these starts at a place
unfoldable pub boxes_anew : ℕ → List Fated → List Box
boxes_anew at [] = []
boxes_anew at (x ∷ xs) =
    elim x.fate [
      | dropped n ↦ boxes_anew at xs
      | whole ↦ resized at (copy_size x) x.box ∷ boxes_anew (at + copy_size x) xs
      | of_pfil inner ↦ resized at (copy_size x) x.box ∷ boxes_anew (at + copy_size x) xs
      | of_pseg s ↦ resized at (copy_size x) x.box ∷ boxes_anew (at + copy_size x) xs
    ]
