-- A kept `pseg` reads back in the copy as its segment at its new place.
use Prim.Native.Nat.{ℕ, ◌+◌, ◌-◌, ◌^◌, ◌<◌, ◌≤◌}
use mathlib.Core.Bool.{Bool, true, false, false≢true}
use mathlib.Core.List.{List, [], ◌∷◌, map}
use mathlib.Core.Path.{◌≡◌, refl, sym, ap, subst, ◌∙◌}
use mathlib.Core.Logic.{inl, inr}
use native.Mathlib.Nat.{zero-add}
use native.Mathlib.Omega.{arith}
use borrow.Author.Tests.{leb-true, eqb-true}
use lib.ListN.{length, get_or, length-append}
use lib.Dec.{eqb, lit<}
use Rattle.boxes.specs.Answer.{given}
use Rattle.boxes.specs.Framing.{Box, uuid, header, boxes_in}
use Rattle.boxes.specs.Kinds.{pseg, ploc, pshd, fidx, is, those, first_of, box_at}
use Rattle.boxes.specs.declared.kinds.Container.{Container}
use Rattle.boxes.specs.declared.kinds.Container.TheVariants.{File, Pseg}
use Rattle.boxes.specs.declared.kinds.Kind.{Kind}
use Rattle.boxes.proofs.HeaderLaws.{Inside, header_inside}
use Rattle.boxes.proofs.ContainerLaws.{Filled, full, next, boxes_filled, boxes_standing, boxes_few, filled_boxes}
use Rattle.boxes.proofs.KindLaws.{right_one, those_nth, those-nil, those_one, those_other, first_one, first_other, first_of-those}
use Rattle.partial.specs.BoxList.{each}
use Rattle.partial.specs.Segments.{Segment, chunks_of}
use Rattle.partial.specs.Heading.{Heading, urls_in}
use Rattle.partial.specs.Entries.{Ploc, ploc_head, chunks_from}
use Rattle.partial.specs.Index.{has_index}
use Rattle.partial.specs.Reading.{segment, pshd_fields}
use Rattle.partial.specs.Sources.{source_beside, urls_for}
use Rattle.partial.proofs.Meaning.SequenceLaws.{which, Each}
use Rattle.partial.proofs.Reading.KeptLaws.{Stepped, found, stepped, segment-of}
use Rattle.additions.proofs.StandsLaws.{Stands, stands_left, stands_right}
use Rattle.rescue.specs.Kept.{of_pseg}
use Rattle.rescue.specs.Copy.{unindexed, size_of, inner_bytes, box_bytes, ploc_bytes, copy_of, copy_size}
use Rattle.rescue.proofs.Shapes.{Alike, resized, row, Paired, chunk_anew, inner_anew, segment_anew}
use Rattle.rescue.proofs.PieceLaws.{OneBox, front_alone, length-box_bytes, bytes_alike, whole_alone, row_of, pieces_stand}
use Rattle.rescue.proofs.PieceLaws.{length-reheaded, reheaded_alone, reheaded_body}
use Rattle.rescue.proofs.PlocLaws.{Lies, bytes_are, front_long, length-ploc, ploc-front, head_anew, head_back, chunks_anew}
use Rattle.rescue.proofs.CarriedLaws.{paired_many, paired_right, paired_first, paired_surls, paired_urls, paired_pshd, paired_fields}
use Rattle.rescue.proofs.CarriedLaws.{unindexed-those, unindexed-right, unindexed_few, unindexed-surls, unindexed_urls, unindexed-pshd, unindexed_none}

-- a piece of the copy for a box of f: one box with its header and its size and, unless it is a `ploc`, its bytes
pub record Piece (f p : List ℕ) (b : Box) : Type 0 where
  typed : b.at ≤ b.user
  headed : b.user ≤ b.body
  pub ended : b.body ≤ b.end
  pub started : b.at ≤ b.body
  pub inside : b.end ≤ length f
  pub long : length p ≡ b.end - b.at
  alone : OneBox Pseg p b
  pub bytes : is ploc b ≡ false → Alike f b.at p 0 (b.end - b.at)
  -- of a `ploc` those before its entries
  pub front : is ploc b ≡ true → (b.body + 9 ≤ b.end) × Alike f b.at p 0 (b.body + 9 - b.at)

-- pieces for some boxes, one behind the other
module _ (f : List ℕ) (text : Box → List ℕ) where
  abbrev pub Pieces : List Box → Type 0
  Pieces bs = Each (λ b. Piece f (text b) b) bs

  pieces_alone : (bs : List Box) → Pieces bs → Each (λ b. OneBox Pseg (text b) b) bs
  pieces_alone [] ps = tt
  pieces_alone (b ∷ bs) (p, ps) = (p.alone, pieces_alone bs ps)

  length_pieces : (bs : List Box) → Pieces bs → length (each text bs) ≡ size_of bs
  unfolding each size_of
  length_pieces [] ps = refl
  length_pieces (b ∷ bs) (p, ps) = rw (length-append, p.long, length_pieces bs ps)

  row_pieces : (at : ℕ) (bs : List Box) → Pieces bs → row_of text (λ b. b) at bs ≡ row at bs
  unfolding row_of row
  row_pieces at [] ps = refl
  row_pieces at (b ∷ bs) (p, ps) = rw (p.long, row_pieces (at + (b.end - b.at)) bs ps)

  -- where they stand the boxes are carried
  module _ (g : List ℕ) where
    behind : (at : ℕ) (b : Box) (bs : List Box) → Piece f (text b) b → Stands g at (each text (b ∷ bs)) → Stands g (at + (b.end - b.at)) (each text bs)
    unfolding each
    behind at b bs p stands = rw p.long at (stands_right g at (text b) (each text bs) stands)

    paired_row : (at : ℕ) (bs : List Box) → Pieces bs → Stands g at (each text bs) → Paired f g bs (row at bs)
    unfolding each row
    paired_row at [] ps stands = tt
    paired_row at (b ∷ bs) (p, ps) stands =
        let here = stands_left g at (text b) (each text bs) stands in (
          record {
            typed = p.typed;
            headed = p.headed;
            ended = p.ended;
            same = refl;
            bytes = λ other i less. here i (omega (arith, p.long)) ∙ rw zero-add at (p.bytes other i less);
          },
          paired_row (at + (b.end - b.at)) bs ps (behind at b bs p stands),
        )

    -- the first of a kind stands where its box is in the row
    first_stands : (k : Kind) (at : ℕ) (bs : List Box) → 0 < length (those k bs) → Pieces bs → Stands g at (each text bs)
        → Stands g (first_of k (row at bs)).at (text (first_of k bs))
    unfolding is row each
    first_stands k at [] some ps stands = absurd (omega (arith, ap length (those-nil k)))
    first_stands k at (b ∷ bs) some (p, ps) stands =
        let on = at + (b.end - b.at) in
        let there = resized at (b.end - b.at) b in
        elim (which (is k b)) [
          | inl e ↦ rw (first_one k b bs e, first_one k there (row on bs) e) (stands_left g at (text b) (each text bs) stands)
          | inr e ↦
              rw (first_other k b bs e, first_other k there (row on bs) e)
              (first_stands k on bs (omega (arith, ap length (those_other k b bs e))) ps (behind at b bs p stands))
        ]

-- boxes without their index: what holds of each, how many bytes they have, and the first of another kind
each_unindexed : (P : Box → Type 0) (bs : List Box) → Each P bs → Each P (unindexed bs)
unfolding unindexed
each_unindexed P [] ps = tt
each_unindexed P (b ∷ bs) (p, ps) = go (is fidx b) (each_unindexed P bs ps)
  where
    go : (t : Bool) → Each P (unindexed bs) → Each P (elim t [ true ↦ unindexed bs | false ↦ b ∷ unindexed bs ])
    go true others = others
    go false others = (p, others)

size_unindexed : (bs : List Box) → size_of (unindexed bs) ≤ size_of bs
unfolding unindexed size_of
size_unindexed [] = omega arith
size_unindexed (b ∷ bs) = go (is fidx b) (size_unindexed bs)
  where
    go : (t : Bool) → size_of (unindexed bs) ≤ size_of bs → size_of (elim t [ true ↦ unindexed bs | false ↦ b ∷ unindexed bs ]) ≤ b.end - b.at + size_of bs
    go true less = omega arith
    go false less = omega arith

first_unindexed : (k : Kind) → eqb k.code fidx.code ≡ false → (bs : List Box) → first_of k (unindexed bs) ≡ first_of k bs
first_unindexed k other bs = first_of-those k (unindexed bs) ∙ ap (box_at 0) (unindexed-those k other bs) ∙ sym (first_of-those k bs)

-- boxes that fill a container have no more bytes than it
size_filled : {c : Container} {f : List ℕ} {end at : ℕ} {bs : List Box} → Filled c f end at bs → at ≤ end → at + size_of bs ≤ end
unfolding size_of
size_filled (full e) low = omega arith
size_filled (next short read rest) low =
    let inside = header_inside _ _ _ _ read in
    omega (arith, size_filled rest inside.ends)

-- the only one of a kind is the first
each_only : (P : Box → Type 0) (k : Kind) (bs : List Box) → length (those k bs) ≡ 1 → P (first_of k bs) → Each P (those k bs)
unfolding box_at
each_only P k bs one first = go (those k bs) one (subst P (first_of-those k bs) first)
  where
    go : (cs : List Box) → length cs ≡ 1 → P (box_at 0 cs) → Each P cs
    go [] one p = tt
    go (c ∷ []) one p = (p, tt)
    go (c ∷ d ∷ cs) one p = absurd (omega arith)

-- the boxes inside a `pseg` that was read, whose `ploc` has that head
module _ (limit : ℕ) (f : List ℕ) (h : Heading) (s : Segment) (l : Ploc) (end : ℕ) (inside : end ≤ length f)
    (bytes : (k : ℕ) → get_or f k 0 < 256)
    (low : s.source_offset ≤ limit)
    (read : chunks_from limit f h s.place l l.count (record { at = l.first; start = s.source_offset }) ≡ given s.chunks)
    (new : ℕ → ℕ) where
  piece : (b : Box) → header Pseg f b.at end ≡ given b → (is ploc b ≡ true → ploc_head f b ≡ given l) → Piece f (inner_bytes f new s b) b
  unfolding inner_bytes
  piece b stood head = let box = header_inside Pseg f b.at end stood in go box (is ploc b) refl
    where
      go : Inside b.at end b → (t : Bool) → is ploc b ≡ t → Piece f (elim t [ true ↦ ploc_bytes f new s b | false ↦ box_bytes f b ]) b
      go box true e =
          let long = length-ploc limit f h s b l (omega arith) (omega arith) bytes (head e) s.source_offset low read new in
          let front = ploc-front limit f h s b l (omega arith) (omega arith) bytes (head e) s.source_offset low read new in
          let parts = bytes_are limit f h s b l (omega arith) (omega arith) bytes (head e) s.source_offset low read new in
          let size = front_long limit f h s b l (omega arith) (omega arith) bytes (head e) s.source_offset low read new in
          let room = simp (parts, length-append, size) at long in
          record {
            typed = omega arith;
            headed = omega arith;
            ended = box.whole;
            started = omega arith;
            inside = omega arith;
            long = long;
            alone = front_alone Pseg f end stood (ploc_bytes f new s b) long (λ i less. front i (omega arith));
            bytes = λ other. absurd (false≢true (sym other ∙ e));
            front = λ _. (omega arith, front);
          }
      go box false e =
          record {
            typed = omega arith;
            headed = omega arith;
            ended = box.whole;
            started = omega arith;
            inside = omega arith;
            long = length-box_bytes Pseg f end stood (omega arith);
            alone = whole_alone Pseg f end stood (omega arith);
            bytes = λ _. bytes_alike Pseg f end stood (omega arith);
            front = λ one. absurd (false≢true (sym e ∙ one));
          }

  pieces : {at : ℕ} {bs : List Box} → Filled Pseg f end at bs → Each (λ b. ploc_head f b ≡ given l) (those ploc bs) → Pieces f (inner_bytes f new s) bs
  pieces (full e) heads = tt
  pieces (next {b = b} {bs = bs} short stood rest) heads =
      let here = rw (← (header_inside Pseg f _ end stood).starts) at stood in
      elim (which (is ploc b)) [
        | inl e ↦ let (head, others) = subst (Each (λ b. ploc_head f b ≡ given l)) (those_one ploc b bs e) heads in (piece b here (λ _. head), pieces rest others)
        | inr e ↦
            let others = subst (Each (λ b. ploc_head f b ≡ given l)) (those_other ploc b bs e) heads in
            (piece b here (λ one. absurd (false≢true (sym e ∙ one))), pieces rest others)
      ]

-- what was read of a segment, with that `ploc`
pub record Was (limit : ℕ) (f : List ℕ) (h : Heading) (before : List Segment) (b : Box) (s : Segment) (l : Ploc) : Type 0 where
  pub step : Stepped limit f h before b s.inner l s.chunks
  same : found f h before b s.inner s.chunks ≡ s
  pub low : s.source_offset ≤ limit
  pub chunks : chunks_from limit f h s.place l l.count (record { at = l.first; start = s.source_offset }) ≡ given s.chunks

-- a `pseg` of a file that was read beside some segments
module _ (limit : ℕ) (f : List ℕ) (h : Heading) (before : List Segment) (b : Box) (s : Segment)
    (end : ℕ) (stood : header File f b.at end ≡ given b) (kind : is pseg b ≡ true)
    (inside : b.end ≤ length f) (low : length f < 2 ^ 32)
    (bytes : (k : ℕ) → get_or f k 0 < 256)
    (read : segment limit f h before b ≡ given s)
    (new : ℕ → ℕ) where
  pub was : (l : Ploc) × Was limit f h before b s l
  was =
      let (inner, l, cs, t, same) = stepped limit f h before b read in (
        l,
        subst (λ (s : Segment). Was limit f h before b s l) same
            (record { step = t; same = refl; low = leb-true (pshd_fields f (first_of pshd inner)).source_offset limit t.low; chunks = t.chunks }),
      )

  -- it stands at its own place
  pub segment_place : s.place ≡ b.at
  segment_place = sym (ap (λ (s : Segment). s.place) was.1.same)

  filled : Filled Pseg f b.end b.body s.inner
  filled = boxes_filled Pseg f b.body b.end was.1.step.boxes

  -- what stands in the copy for the boxes inside it
  abbrev inner : List Box
  inner = unindexed s.inner

  pub kept : Pieces f (inner_bytes f new s) inner
  kept =
      let one = right_one Pseg ploc s.inner refl was.1.step.single in
      let heads = each_only (λ c. ploc_head f c ≡ given was.0) ploc s.inner one was.1.step.head in
      each_unindexed (λ c. Piece f (inner_bytes f new s c) c) s.inner
      (pieces limit f h s was.0 b.end inside bytes was.1.low was.1.chunks new filled heads)

  abbrev body : List ℕ
  body = each (inner_bytes f new s) inner

  long : length body ≡ size_of inner
  long = length_pieces f (inner_bytes f new s) inner kept

  box : Inside b.at end b
  box = header_inside File f b.at end stood

  short : size_of inner ≤ b.end - b.body
  short = omega (arith, size_unindexed s.inner, size_filled filled box.whole, box.whole)

  typed : b.kind ≡ pseg.code
  unfolding is
  typed = eqb-true b.kind pseg.code kind

  other : eqb b.kind uuid ≡ false
  other = rw typed

  -- what stands in the copy for it is one box of its new size
  pub length-segment : length (copy_of f new (record { box = b; fate = of_pseg s })) ≡ copy_size (record { box = b; fate = of_pseg s })
  unfolding copy_of copy_size
  length-segment = length-reheaded File f end stood other body ∙ ap (λ (n : ℕ). b.body - b.at + n) long

  pub segment_shorter : copy_size (record { box = b; fate = of_pseg s }) ≤ b.end - b.at
  unfolding copy_size
  segment_shorter = omega (arith, short, box)

  pub segment-header : 8 ≤ copy_size (record { box = b; fate = of_pseg s })
  unfolding copy_size
  segment-header = omega (arith, box)

  pub segment_alone : OneBox File (copy_of f new (record { box = b; fate = of_pseg s })) b
  unfolding copy_of
  segment_alone = reheaded_alone File f end stood other body (rw typed (lit< tt)) (omega arith) (omega (arith, long, short))

  -- its `ploc`, which lies in the file
  abbrev location : Box
  location = first_of ploc s.inner

  pub located : (is ploc location ≡ true) × (location.at ≤ location.body) × (location.end ≤ length f)
  located =
      let one = right_one Pseg ploc s.inner refl was.1.step.single in
      let (m, nth) = those_nth ploc s.inner 0 (omega arith) in
      let lies = (boxes_standing Pseg f b.body b.end was.1.step.boxes m nth.there).inside in
      subst (λ (x : Box). (is ploc x ≡ true) × (x.at ≤ x.body) × (x.end ≤ length f)) (sym (first_of-those ploc s.inner ∙ nth.same)) (nth.kind, omega arith, omega arith)

  -- and it reads as that segment, beside segments of as many chunks and the same sources
  module _ (g : List ℕ) (h' : Heading) (before' : List Segment)
      (stands : Stands g (new s.place) (copy_of f new (record { box = b; fate = of_pseg s })))
      (urls : h'.urls ≡ h.urls)
      (many : length (chunks_of before') ≡ length (chunks_of before))
      (sources : (us : List (List ℕ)) → source_beside before' us ≡ source_beside before us)
      (lie : Each (Lies new s.place h') s.chunks) where
    abbrev start : ℕ
    start = new s.place + (b.body - b.at)

    abbrev inner' : List Box
    inner' = inner_anew new b s

    pub body_stands : Stands g start body
    unfolding copy_of
    body_stands = reheaded_body File f end stood other body g (new s.place) stands

    paired : Paired f g inner inner'
    paired = paired_row f (inner_bytes f new s) g start inner kept body_stands

    pub boxes-back : boxes_in Pseg g start (new s.place + copy_size (record { box = b; fate = of_pseg s })) ≡ given inner'
    unfolding copy_size
    boxes-back =
        let all = pieces_stand (inner_bytes f new s) (λ b. b) Pseg g start inner (pieces_alone f (inner_bytes f new s) inner kept) body_stands in
        let ends : start + length body ≡ new s.place + (b.body - b.at + size_of inner) = omega (arith, long) in
        let most = boxes_few Pseg f b.body b.end was.1.step.boxes in
        filled_boxes Pseg (rw (ends, row_pieces f (inner_bytes f new s) start inner kept) at all) (omega (arith, paired_many f g inner inner' paired, unindexed_few s.inner))

    urls_back : urls_for (urls_in g inner') h'.urls ≡ urls_for (urls_in f s.inner) h.urls
    urls_back = rw (paired_urls f g inner inner' paired (unindexed-surls f s.inner ∙ was.1.step.formed), unindexed_urls f s.inner, urls)

    -- its `ploc` stands where the box of it is
    abbrev location' : Box
    location' = first_of ploc inner'

    pub location-box : location' ≡ resized location'.at (location.end - location.at) location
    location-box = rw (first_unindexed ploc refl s.inner) at (paired_first f g ploc inner inner' paired).same

    pub location_stands : Stands g location'.at (ploc_bytes f new s location)
    unfolding inner_bytes
    location_stands =
        let one = right_one Pseg ploc inner refl (unindexed-right Pseg ploc refl s.inner ∙ was.1.step.single) in
        let text : inner_bytes f new s (first_of ploc inner) ≡ ploc_bytes f new s location = ap (inner_bytes f new s) (first_unindexed ploc refl s.inner) ∙ rw (located.0, inner_bytes) in
        subst (Stands g location'.at) text (first_stands f (inner_bytes f new s) g ploc start inner (omega arith) kept body_stands)

    pub segment-back : segment limit g h' before' (resized (new s.place) (copy_size (record { box = b; fate = of_pseg s })) b) ≡ given (segment_anew new b s)
    segment-back =
        let (l, w) = was in
        let t = w.step in
        let (_, typed, ends) = located in
        let l' : Ploc = head_anew limit f h s location l typed ends bytes t.head s.source_offset w.low w.chunks new g h' location'.at location_stands lie in
        let head = head_back limit f h s location l typed ends bytes t.head s.source_offset w.low w.chunks new g h' location'.at location_stands lie in
        let chunks = chunks_anew limit f h s location l typed ends bytes t.head s.source_offset w.low w.chunks new g h' location'.at location_stands lie in
        let header = unindexed-pshd f s.inner t.header in
        let (flags, offset, time, size) = rw (first_unindexed pshd refl s.inner) at (paired_fields f g inner inner' paired header) in
        let b' = resized (new s.place) (copy_size (record { box = b; fate = of_pseg s })) b in
        let back : Stepped limit g h' before' b' inner' l' (map (chunk_anew new) s.chunks) = record {
          boxes = boxes-back;
          header = paired_pshd f g inner inner' paired header;
          single = paired_right f g Pseg ploc inner inner' paired ∙ unindexed-right Pseg ploc refl s.inner ∙ t.single;
          formed = paired_surls f g inner inner' paired (unindexed-surls f s.inner ∙ t.formed);
          listed = rw urls_back t.listed;
          head = rw location-box head;
          few = rw many t.few;
          low = rw offset t.low;
          chunks = rw (offset, ap (λ (r : Segment). r.source_offset) w.same) chunks;
        } in
        segment-of limit g h' before' b' back
        ∙ rw (urls_back, sources (urls_for (urls_in f s.inner) h.urls), flags, offset, time, size)
        (ap (λ (r : Segment). given (record {
          place = new s.place;
          inner = inner';
          urls = r.urls;
          source = r.source;
          source_offset = r.source_offset;
          flags = r.flags;
          repair_time = r.repair_time;
          header_place = (first_of pshd inner').body;
          header_length = r.header_length;
          chunks = map (chunk_anew new) s.chunks;
        })) w.same)

    -- it has no index
    pub segment-unindexed : has_index (segment_anew new b s).inner ≡ false
    segment-unindexed = unindexed_none f g s.inner inner' paired
