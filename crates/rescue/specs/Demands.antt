-- Document 02, [9]: what salvage promises, as statements over its definitions at a source limit below 2 ^ 64; the
-- product's is `source_limit`. Each field has the sentence that it states.
use Rattle.std.specs.Prelude.{ℕ, zero, suc, ◌+◌, ◌-◌, ◌<◌, ◌≤◌, Bool, true, false, not, ◌||◌, ◌&&◌, ◌↔◌, ◌≡◌, length, get_or, take, T, leb}
use mathlib.Core.List.{List, [], ◌∷◌, ◌++◌, map, Memᴰ}
use Rattle.std.specs.Prelude.{Option, None, Some}
use Rattle.boxes.specs.Answer.{Answer, refused, given, ◌>>=◌, hold}
use Rattle.boxes.specs.Faults.{Follow, FirstFault}
use Rattle.boxes.specs.Framing.{Box, Fault, boxes_in, box_limit}
use Rattle.boxes.specs.Kinds.{ftyp, pfil, pseg, pdat, ploc, fidx, is, box_at, first_of}
use Rattle.boxes.specs.declared.kinds.Container.{Container}
use Rattle.boxes.specs.declared.kinds.Container.TheVariants.{File, Pfil, Pseg}
use Rattle.numerals.specs.declared.numbers.Offset.TheVariants.{Ahead}
use Rattle.partial.specs.BoxList.{each, fault_line}
use Rattle.partial.specs.Entries.{Ploc, Entry, ploc_head, entry}
use Rattle.partial.specs.Heading.{Heading, heading, bytes_in}
use Rattle.partial.specs.Index.{has_index}
use Rattle.partial.specs.Limits.{file_limit, segment_limit, layer_limit}
use Rattle.partial.specs.Map.{refused_line}
use Rattle.partial.specs.Meaning.{served}
use Rattle.partial.specs.Mixed.{allowed}
use Rattle.partial.specs.Reading.{segments, segments_from, earlier_segments}
use Rattle.partial.specs.Segments.{Chunk, Segment, good, has_place, chunks_of}
use Rattle.partial.specs.Sequences.{some_of, within}
use Rattle.partial.specs.Sources.{of_source, source_count, agreed}
use Rattle.partial.specs.declared.brand.Brand.{Brand}
use Rattle.additions.specs.Addition.{Addition}
use Rattle.additions.specs.Runs.{file_in, begin, append_all}
use Rattle.rescue.specs.Kept.{dropped, whole, of_pfil, of_pseg, Fated, lies_in, walk_of, framed, opening, kept_of, fates}
use Rattle.rescue.specs.Copy.{salvage, salvaged}
use Rattle.rescue.specs.Lines.{salvage_text}

-- a file is bytes
abbrev pub Bytes : List ℕ → Type 0
Bytes f = (k : ℕ) → get_or f k 0 < 256

-- the segments that are kept of a file with that heading
abbrev pub rescued_of : ℕ → List ℕ → Heading → List Segment
rescued_of limit f h = kept_of limit (framed f) h

-- a segment of the copy has the source, the offset, the flags and the repair time of one of the file, and its chunks
pub record SameSegment (s t : Segment) : Type 0 where
  pub urls : t.urls ≡ s.urls
  pub source : t.source ≡ s.source
  pub source_offset : t.source_offset ≡ s.source_offset
  pub flags : t.flags ≡ s.flags
  pub repair_time : t.repair_time ≡ s.repair_time
  pub starts : map (λ c. c.start) t.chunks ≡ map (λ c. c.start) s.chunks
  pub sizes : map (λ c. c.size) t.chunks ≡ map (λ c. c.size) s.chunks
  pub states : map (λ c. c.state) t.chunks ≡ map (λ c. c.state) s.chunks

-- segment by segment
abbrev pub SameSegments : List Segment → List Segment → Type 0
SameSegments [] [] = Unit {0}
SameSegments [] (t ∷ ts) = ⊥
SameSegments (s ∷ ss) [] = ⊥
SameSegments (s ∷ ss) (t ∷ ts) = SameSegment s t × SameSegments ss ts

-- the entries of a `ploc` that have no data have offset 0
abbrev pub ZeroOffsets : List ℕ → Ploc → ℕ → ℕ → Type 0
ZeroOffsets f l zero at = Unit {0}
ZeroOffsets f l (suc more) at = (e : Entry) → entry f l at ≡ given e → (has_place e.state e.size ≡ false → e.offset ≡ Ahead 0) × ZeroOffsets f l more e.next

-- behind the first two boxes are none but `pdat`, `pseg` and, mixed, such as good chunks lie in
abbrev pub OnlyData : Heading → List Segment → Type 0
OnlyData h ss =
    (k : ℕ) → 2 ≤ k → k < length h.boxes
    → T (is pdat (box_at k h.boxes) || (is pseg (box_at k h.boxes) || some_of (lies_in (box_at k h.boxes)) (chunks_of ss)))

-- a file has no other boxes and no index, and its empty chunks have offset 0
pub record Bare (f : List ℕ) (h : Heading) (ss : List Segment) : Type 0 where
  pub boxes : OnlyData h ss
  pub pfil : has_index h.inner ≡ false
  pub segments : (s : Segment) → Memᴰ s ss → has_index s.inner ≡ false
  pub zeros : (s : Segment) → Memᴰ s ss → (l : Ploc) → ploc_head f (first_of ploc s.inner) ≡ given l → ZeroOffsets f l l.count l.first

-- the bytes of a chunk, of a damaged one too
abbrev pub chunk_bytes : List ℕ → Chunk → List ℕ
chunk_bytes f c = bytes_in f (record { place = c.place; size = elim (has_place c.state c.size) [ true ↦ c.size | false ↦ 0 ] })

-- whether a box is dropped
abbrev pub goes : Fated → Bool
goes x = elim x.fate [ dropped n ↦ true | whole ↦ false | of_pfil inner ↦ false | of_pseg s ↦ false ]

-- of some boxes, in their order, those that stay and pass a test
abbrev pub staying_of : (Box → Bool) → List Fated → List Box
staying_of test [] = []
staying_of test (x ∷ xs) = elim (not (goes x) && test x.box) [ true ↦ x.box ∷ staying_of test xs | false ↦ staying_of test xs ]

-- boxes one by one
abbrev pub OneByOne : (Box → Box → Type 0) → List Box → List Box → Type 0
OneByOne P [] [] = Unit {0}
OneByOne P [] (c ∷ cs) = ⊥
OneByOne P (b ∷ bs) [] = ⊥
OneByOne P (b ∷ bs) (c ∷ cs) = P b c × OneByOne P bs cs

-- how many bytes of a box are what they were: all, but of a `ploc` that has new offsets those before its entries
abbrev pub same_size : Bool → Box → ℕ
same_size located b = elim (located && is ploc b) [ true ↦ b.body + 9 - b.at | false ↦ b.end - b.at ]

-- a box is as long as it was, and so many of its bytes are the same
abbrev pub AsItWas : Bool → List ℕ → List ℕ → Box → Box → Type 0
AsItWas located f g b c =
    (c.end - c.at ≡ b.end - b.at)
    × (bytes_in g (record { place = c.at; size = same_size located b }) ≡ bytes_in f (record { place = b.at; size = same_size located b }))

-- the boxes of a container but each index
abbrev pub no_index : List Box → List Box
no_index [] = []
no_index (b ∷ bs) = elim (is fidx b) [ true ↦ no_index bs | false ↦ b ∷ no_index bs ]

-- "as is each `fidx` (its container keeps its header form)": a container with its boxes, but each index
pub record Emptied (k : Container) (located : Bool) (f g : List ℕ) (b c : Box) : Type 0 where
  pub kind : c.kind ≡ b.kind
  pub form : c.body - c.at ≡ b.body - b.at
  pub was : List Box
  pub now : List Box
  pub was_framed : boxes_in k f b.body b.end ≡ given was
  pub now_framed : boxes_in k g c.body c.end ≡ given now
  pub boxes : OneByOne (AsItWas located f g) (no_index was) now

-- what stands in the copy for a box that stays: the box as it was, or that container
pub record StandsFor (f g : List ℕ) (b c : Box) : Type 0 where
  pub plain : is pfil b ≡ false → is pseg b ≡ false → AsItWas false f g b c
  pub in_pfil : T (is pfil b) → Emptied Pfil false f g b c
  pub in_pseg : T (is pseg b) → Emptied Pseg true f g b c

-- the copy of a file
pub record Rescued (limit : ℕ) (f : List ℕ) (h : Heading) (g : List ℕ) : Type 0 where
  -- "Its output is acceptable or has only refusal 12": these are its segments
  pub segments : List Segment
  pub read : earlier_segments limit g ≡ given segments
  -- it has no other boxes, no index, and offset 0 for each empty chunk
  pub head : Heading
  pub headed : heading g ≡ given head
  pub bare : Bare g head segments
  -- the boxes that stay, in their order
  pub boxes : OneByOne (StandsFor f g) (staying_of (λ _. true) (fates limit (framed f) h)) head.boxes
  -- each kept segment keeps its offset, flags, time, sizes, states and URLs
  pub same : SameSegments (rescued_of limit f h) segments
  -- each chunk has its old bytes, a damaged one too
  pub carried : map (chunk_bytes g) (chunks_of segments) ≡ map (chunk_bytes f) (chunks_of (rescued_of limit f h))
  -- "Each position supplied by a kept chunk is supplied with its old bytes", per source, and no other
  pub served : (source p : ℕ) → served g (of_source source segments) p ≡ served f (of_source source (rescued_of limit f h)) p
  -- it is no longer than the file
  pub shorter : length g ≤ length f

-- stages 13 to 25 and 40 of these `pseg` boxes, as if the file had no others
abbrev pub read_alone : ℕ → List ℕ → Heading → List Box → Answer (List Segment)
read_alone limit f h psegs = do
  _ ← hold 13 (leb (length psegs) segment_limit)
  ss ← segments_from limit f h [] psegs
  _ ← hold 25 (agreed ss)
  _ ← hold 40 (leb (source_count ss) layer_limit)
  given ss

-- a good chunk has a byte in a box
abbrev pub Holds : Box → Chunk → Type 0
Holds b c = (c.state ≡ good) × (0 < c.size) × (c.place < b.end) × (b.at < c.place + c.size)

-- what becomes of a box that stands behind these
pub record Judged (limit : ℕ) (f : List ℕ) (h : Heading) (before : List Fated) (x : Fated) : Type 0 where
  -- "A `pseg` with a framing fault inside, or that would refuse by any of 13 to 25, 40 or 41 beside the segments already
  -- kept, is left out", with that number
  pub left_out : T (is pseg x.box) → (n : ℕ)
      → (x.fate ≡ dropped n) ↔ (read_alone limit f h (staying_of (is pseg) before ++ (x.box ∷ [])) ≡ refused n)
  -- a later `ftyp` or `pfil` goes with the number of a second one
  pub later : T (is ftyp x.box) → x.fate ≡ dropped 7
  pub another : T (is pfil x.box) → x.fate ≡ dropped 9
  -- "each whole `pdat`" stays, used or not
  pub stored : T (is pdat x.box) → goes x ≡ false
  -- "Other top-level boxes are dropped, .. but in a `pmff` file those that kept chunks lie in stay", and if one goes
  -- "nothing was wrong"
  pub other : T (allowed x.box)
      → (goes x ≡ false) ↔ ((h.mixed ≡ true) × ((c : Chunk) × Memᴰ c (chunks_of (kept_of limit f h)) × Holds x.box c))
  pub nothing_wrong : T (allowed x.box) → (n : ℕ) → x.fate ≡ dropped n → n ≡ 0

-- place and number of each dropped box, in order
abbrev pub dropped_of : List Fated → List Fault
dropped_of [] = []
dropped_of (x ∷ xs) =
    elim x.fate [
      | dropped n ↦ record { at = x.box.at; number = n } ∷ dropped_of xs
      | whole ↦ dropped_of xs
      | of_pfil inner ↦ dropped_of xs
      | of_pseg s ↦ dropped_of xs
    ]

-- the framing error, if there is one
abbrev pub fault_of : Option Fault → List Fault
fault_of None = []
fault_of (Some x) = x ∷ []

-- places that ascend strictly, from one on
abbrev pub Ascending : {A : Type 0} → (A → ℕ) → ℕ → List A → Type 0
Ascending place low [] = Unit {0}
Ascending place low (x ∷ xs) = (low ≤ place x) × Ascending place (place x + 1) xs

-- document 02, [9]
pub record Salvage (limit : ℕ) : Type 0 where
  pub rescued : (f : List ℕ) (h : Heading) (g : List ℕ) → Bytes f → opening f ≡ given h → salvage limit f ≡ given g → Rescued limit f h g
  -- a file that opens is salvaged, and no other is
  pub opens : (f : List ℕ) (h : Heading) → opening f ≡ given h → (g : List ℕ) × (salvage limit f ≡ given g)
  pub refuses : (f : List ℕ) (n : ℕ) → (salvage limit f ≡ refused n) ↔ (opening f ≡ refused n)
  -- "Refusals: 1; 2 to 11 for the first two boxes"
  pub numbers : (f : List ℕ) (n : ℕ) → salvage limit f ≡ refused n → T (within 1 11 n)
  pub over_limit : (f : List ℕ) → file_limit < length f → salvage limit f ≡ refused 1
  pub of_two : (f : List ℕ) (a b : Box) (n : ℕ) → length f ≤ file_limit → Follow File f (length f) 0 (a ∷ b ∷ []) b.end
      → (salvage limit f ≡ refused n) ↔ (heading (take b.end f) ≡ refused n)
  pub of_fewer : (f : List ℕ) (n : ℕ) → length f ≤ file_limit → length (walk_of f).boxes < 2 → (salvage limit f ≡ refused n) ↔ (heading f ≡ refused n)
  -- the whole boxes before the first framing error, and that error; the whole file where there is none
  pub fault : (f : List ℕ) (x : Fault) → (walk_of f).fault ≡ Some x → FirstFault File f 0 (length f) box_limit (walk_of f).boxes x
  pub no_fault : (f : List ℕ) → (walk_of f).fault ≡ None → boxes_in File f 0 (length f) ≡ given (walk_of f).boxes
  -- what the first two say stands beside all of them
  pub opened : (f : List ℕ) (h : Heading) → opening f ≡ given h
      → (h.boxes ≡ (walk_of f).boxes)
      × ((k : Heading) × (heading (take (box_at 1 h.boxes).end f) ≡ given k) × (h.inner ≡ k.inner) × (h.urls ≡ k.urls) × (h.mixed ≡ k.mixed))
  -- each of them has its fate: the first two stay, and each behind them is judged beside those before it
  pub all : (f : List ℕ) (h : Heading) → opening f ≡ given h → map (λ x. x.box) (fates limit (framed f) h) ≡ h.boxes
  pub heads : (f : List ℕ) (h : Heading) (x : Fated) → opening f ≡ given h → Memᴰ x (take 2 (fates limit (framed f) h)) → goes x ≡ false
  pub judged : (f : List ℕ) (h : Heading) (before behind : List Fated) (x : Fated) → opening f ≡ given h
      → fates limit (framed f) h ≡ before ++ (x ∷ behind)
      → 2 ≤ length before
      → Judged limit (framed f) h before x
  -- what is kept is what reading gives of the `pseg` boxes that stay, as if there were no others
  pub kept : (f : List ℕ) (h : Heading) → opening f ≡ given h
      → read_alone limit (framed f) h (staying_of (is pseg) (fates limit (framed f) h)) ≡ given (rescued_of limit f h)
  -- every segment of a file is kept that passes 1 to 25 and 40, whatever its index
  pub keeps : (f : List ℕ) (h : Heading) (ss : List Segment) → heading f ≡ given h → segments limit f h ≡ given ss
      → (opening f ≡ given h) × (framed f ≡ f) × (rescued_of limit f h ≡ ss)
  -- of an acceptable file with no other top-level boxes nothing is dropped, and if it has no index and its empty chunks
  -- have offset 0 the bytes are the same
  pub unchanged : (f : List ℕ) (h : Heading) (ss : List Segment) → Bytes f → heading f ≡ given h → earlier_segments limit f ≡ given ss → Bare f h ss
      → salvage limit f ≡ given f
  pub nothing_dropped : (f : List ℕ) (h : Heading) (ss : List Segment) (most : ℕ) → Bytes f → heading f ≡ given h → earlier_segments limit f ≡ given ss → OnlyData h ss
      → length f ≤ most
      → salvage_text limit most f ≡ []
  -- so of a file that begin and append alone made
  pub made : (buffer : List ℕ) (brand : Brand) (u m : List ℕ) (additions : List Addition)
      → let f = file_in (append_all limit (begin buffer brand u m) additions) in
      Bytes f
      → (h : Heading)
      → heading f ≡ given h
      → salvage limit f ≡ given f
  -- salvaging twice gives the same bytes as once, and the second prints no line
  pub twice : (f g : List ℕ) → Bytes f → salvage limit f ≡ given g → salvage limit g ≡ given g
  pub no_line : (f g : List ℕ) (most : ℕ) → Bytes f → salvage limit f ≡ given g → length g ≤ most → salvage_text limit most g ≡ []
  -- "A program prints a line for every dropped top-level box, and for the first framing error": 27 and a refusal as the
  -- single line
  pub over_long : (most : ℕ) (input : List ℕ) → most < length input → salvage_text limit most input ≡ refused_line 27
  pub refusal : (most : ℕ) (input : List ℕ) (n : ℕ) → length input ≤ most → opening input ≡ refused n → salvage_text limit most input ≡ refused_line n
  pub lines : (most : ℕ) (input : List ℕ) (h : Heading) → length input ≤ most → opening input ≡ given h
      → salvage_text limit most input
      ≡ each fault_line (dropped_of (fates limit (framed input) h) ++ fault_of (walk_of input).fault)
  -- in file order, each once
  pub ascending : (input : List ℕ) (h : Heading) → opening input ≡ given h
      → Ascending (λ y. y.at) 0 (dropped_of (fates limit (framed input) h) ++ fault_of (walk_of input).fault)
  -- 33 where the buffer is too short for the copy, after its refusals
  pub handed_on : (f buffer : List ℕ) (n : ℕ) → salvage limit f ≡ refused n → salvaged limit f buffer ≡ refused n
  pub room : (f buffer g : List ℕ) → salvage limit f ≡ given g → length g ≤ length buffer → salvaged limit f buffer ≡ given g
  pub no_room : (f buffer g : List ℕ) → salvage limit f ≡ given g → length buffer < length g → salvaged limit f buffer ≡ refused 33
