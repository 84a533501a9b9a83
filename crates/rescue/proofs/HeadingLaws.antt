-- The first two boxes read back in the copy as they were.
use Prim.Native.Nat.{ℕ, zero, suc, ◌+◌, ◌-◌, ◌*◌, ◌/◌, ◌%◌, ◌<◌, ◌≤◌}
use mathlib.Core.Bool.{Bool, true, false, ◌&&◌, ◌||◌}
use mathlib.Core.List.{List, [], ◌∷◌, ◌++◌}
use mathlib.Core.Path.{◌≡◌, refl, sym, ap, ap₂, subst, ◌∙◌}
use native.Mathlib.Decide.{dec_le}
use native.Mathlib.Nat.{zero-add, add-zero, add_assoc, le_refl}
use native.Mathlib.Omega.{arith}
use borrow.Author.Tests.{le-leb, lt-leb, leb-true, eqb-true}
use lib.Dec.{leb, eqb, lit<}
use lib.ListN.{length, take, drop, length-append, take-append-drop}
use lib.Seq.{length-take-le, get_or-take}
use Rattle.boxes.specs.Answer.{Answer, refused, given}
use Rattle.boxes.specs.Framing.{Box, Walked, header, broken, followed, walked, walked_in, boxes_in, box_limit, uuid}
use Rattle.boxes.specs.Kinds.{ftyp, pfil, fidx, is, right, those, box_at}
use Rattle.boxes.specs.declared.kinds.Container.TheVariants.{File, Pfil}
use Rattle.boxes.specs.declared.kinds.Container.{Container}
use Rattle.boxes.specs.declared.kinds.Kind.{Kind}
use Rattle.boxes.proofs.ContainerLaws.{Filled, full, next, walked_end, walked_over, walked_next, header_same, boxes_standing, boxes_kept, filled_boxes, boxes_filled, boxes_few, Standing}
use Rattle.boxes.proofs.FaultLaws.{no-fault}
use Rattle.boxes.proofs.AnswerLaws.{both_given, held, given_same}
use Rattle.boxes.proofs.KindLaws.{is_there, those-nil, those_one, those_other, one_right}
use Rattle.boxes.proofs.HeaderLaws.{header_inside, header_further, header_moved, moved}
use Rattle.numerals.proofs.NumberLaws.{number_same}
use Rattle.partial.specs.Limits.{file_limit}
use Rattle.partial.specs.Heading.{Heading, heading, ftyp_right, brands_from, brands, branded, paff, pmff, brand_right, pfil_right, pfhd_right, surl_right, urls_in}
use Rattle.partial.specs.BoxList.{each}
use Rattle.partial.specs.Sequences.{some_of}
use Rattle.partial.specs.Index.{has_index}
use Rattle.partial.proofs.Meaning.SequenceLaws.{both, Each}
use Rattle.partial.proofs.Reading.HeadingAppendLaws.{Headed, headed, heading-of, brand_kept, inner_lie, pfhd_right_kept, surl_right_kept, urls_kept}
use Rattle.additions.proofs.StandsLaws.{Stands, stands_left, stands_right}
use Rattle.rescue.specs.Kept.{whole, of_pfil, Fated, walk_of, first_two, opening}
use Rattle.rescue.specs.Copy.{box_bytes, copy_of, copy_size, unindexed, size_of}
use Rattle.rescue.proofs.Shapes.{Alike, resized, row, Paired}
use Rattle.rescue.proofs.PieceLaws.{OneBox, length-box_bytes, bytes_alike, whole_alone, length-reheaded, reheaded_alone, reheaded_body, row_of, pieces_stand}
use Rattle.rescue.proofs.CarriedLaws.{paired_pfhd, paired_surls, paired_urls, unindexed-pfhd, unindexed-surls, unindexed_urls, unindexed_few, paired_many}

-- ---- the boxes that a walk met

-- a box at the start of its own bytes, moved to its place
box-back : (b : Box) (n : ℕ) → b.at ≤ b.user → b.at ≤ b.body → b.at + n ≡ b.end → moved b.at (resized 0 n b) ≡ b
box-back b n typed headed ends =
    let at : b.at + 0 ≡ b.at = omega arith in
    let user : b.at + (0 + (b.user - b.at)) ≡ b.user = omega arith in
    let body : b.at + (0 + (b.body - b.at)) ≡ b.body = omega arith in
    let end : b.at + (0 + n) ≡ b.end = omega arith in
    rw (at, user, body, end)

-- a box is read the same wherever its container ends behind it
pub header_nearer : (c : Container) (f : List ℕ) (at end end' : ℕ) {b : Box} → header c f at end ≡ given b → b.end ≤ length f → b.end ≤ end'
    → header c f at end' ≡ given b
header_nearer c f at end end' {b} known inside on =
    let i = header_inside c f at end known in
    let read : header c f b.at end ≡ given b = subst (λ (n : ℕ). header c f n end ≡ given b) (sym i.starts) known in
    let p : List ℕ = box_bytes f b in
    let long = length-box_bytes c f end read inside in
    let ends : b.at + length p ≡ b.end = omega arith in
    let alone = header_moved p f b.at 0 (length p) (λ k less. sym (rw zero-add at (bytes_alike c f end read inside k (omega arith)))) c in
    subst (λ (n : ℕ). header c f n end' ≡ given b) i.starts
    (header_further f b.at b.end end' on c
    (rw (add-zero, ends) at alone ∙ rw (whole_alone c f end read inside, box-back b (length p) (omega arith) (omega arith) ends)))

-- where the boxes that a walk met end, and that they fill what lies before
record Met (c : Container) (s : List ℕ) (end more at : ℕ) (bs : List Box) : Type 0 where
  to : ℕ
  low : at ≤ to
  inside : to ≤ end
  filled : Filled c s to at bs
  few : length bs ≤ more

module _ (c : Container) (s : List ℕ) (end : ℕ) (within : end ≤ length s) where
  met_none : (more at : ℕ) → at ≤ end → Met c s end more at []
  met_none more at h = record { to = at; low = le_refl at; inside = h; filled = full (le_refl at); few = omega arith }

  met : (more at : ℕ) → at ≤ end → Met c s end more at (walked c s end more at).boxes
  met zero at h =
      elim (dec_le end at) [
        | yes e ↦ rw (walked_end c s end at zero e) (met_none zero at h)
        | no short ↦ rw (walked_over c s end at (omega arith)) (met_none zero at h)
      ]
  met (suc more) at h =
      elim (dec_le end at) [
        | yes e ↦ rw (walked_end c s end at (suc more) e) (met_none (suc more) at h)
        | no short ↦ rw (walked_next c s end at (omega arith) more) (go (met more) (header c s at end) refl)
      ]
    where
      go : ((at : ℕ) → at ≤ end → Met c s end more at (walked c s end more at).boxes) → (x : Answer Box) → header c s at end ≡ x
          → Met c s end (suc more) at (elim x as (λ _. Walked) [ refused n ↦ broken at n | given b ↦ followed b (walked c s end more b.end) ]).boxes
      go rest (refused n) e = met_none (suc more) at h
      go rest (given b) e =
          let i = header_inside c s at end e in
          let m = rest b.end i.ends in
          record {
            to = m.to;
            low = omega arith;
            inside = m.inside;
            filled = next {at = at} (omega arith) (header_nearer c s at end m.to e (omega arith) m.low) m.filled;
            few = omega arith;
          }

-- ---- the file cut behind its second box

-- its boxes are the first two
pub cut-filled : (f : List ℕ) {to : ℕ} {bs : List Box} → Filled File f to 0 bs → to ≤ length f → 2 ≤ length bs
    → Filled File (take (box_at 1 bs).end f) (box_at 1 bs).end 0 (box_at 0 bs ∷ box_at 1 bs ∷ [])
unfolding box_at
cut-filled f (full e) inside two = absurd (omega arith)
cut-filled f (next short read (full e)) inside two = absurd (omega arith)
cut-filled f {to} (next {b = a} short read (next {b = b} short' read' rest)) inside two =
    let one = header_inside File f 0 to read in
    let other = header_inside File f a.end to read' in
    let same = header_same f (take b.end f) b.end (λ i less. get_or-take b.end f i 0 less) File in
    next {at = 0} (omega arith) (same 0 ∙ header_nearer File f 0 to b.end read (omega arith) (omega arith))
    (next {at = a.end} (omega arith) (same a.end ∙ header_nearer File f a.end to b.end read' (omega arith) (omega arith))
    (full {at = b.end} (le_refl b.end)))

-- what the first two boxes of a file say
pub record Says (f : List ℕ) (a b : Box) (bs : List Box) (us : List (List ℕ)) (mix : Bool) : Type 0 where
  pub first : is ftyp a ≡ true
  pub room : a.body + 8 ≤ a.end
  pub fours : eqb ((a.end - a.body) % 4) 0 ≡ true
  pub brand : (some_of (eqb paff) (brands f a) || some_of (eqb pmff) (brands f a)) ≡ true
  pub mixed : mix ≡ some_of (eqb pmff) (brands f a)
  pub second : is pfil b ≡ true
  pub inner : boxes_in Pfil f b.body b.end ≡ given bs
  pub pfhd : pfhd_right f bs ≡ true
  pub surl : surl_right f bs ≡ true
  pub urls : us ≡ urls_in f bs

-- also with more behind it
pub says : (f g : List ℕ) (h : Heading) → Headed f h → Says (f ++ g) (box_at 0 h.boxes) (box_at 1 h.boxes) h.inner h.urls h.mixed
unfolding ftyp_right brand_right branded pfil_right
says f g h t =
    let a = box_at 0 h.boxes in
    let b = box_at 1 h.boxes in
    let (three, _) = both (is ftyp a && leb (a.body + 8) a.end && eqb ((a.end - a.body) % 4) 0) (right File ftyp h.boxes) t.ftyp in
    let (two, fours) = both (is ftyp a && leb (a.body + 8) a.end) (eqb ((a.end - a.body) % 4) 0) three in
    let (first, room) = both (is ftyp a) (leb (a.body + 8) a.end) two in
    let (second, _) = both (is pfil b) (right File pfil h.boxes) t.pfil in
    let wide : a.body + 8 ≤ a.end = leb-true (a.body + 8) a.end room in
    let standing = boxes_standing File f 0 (length f) t.boxes in
    let one = (standing 0 (is_there ftyp (lit< tt) 0 h.boxes first)).inside in
    let other = (standing 1 (is_there pfil (lit< tt) 1 h.boxes second)).inside in
    let kept = brand_kept f g a wide one.ends in
    let lie = inner_lie f h t in
    record {
      first = first;
      room = wide;
      fours = fours;
      brand = rw kept t.brand;
      mixed = rw kept t.mixed;
      second = second;
      inner = boxes_kept f g b.end other.ends Pfil b.body ∙ t.inner;
      pfhd = pfhd_right_kept f g h.inner t.pfhd lie;
      surl = surl_right_kept f g h.inner t.surl lie;
      urls = t.urls ∙ sym (urls_kept f g h.inner lie);
    }

-- so the file says what it says cut there
cut-says : (f : List ℕ) {to : ℕ} {bs : List Box} → Filled File f to 0 bs → to ≤ length f → length bs ≤ box_limit → 2 ≤ length bs → (h : Heading)
    → heading (first_two f bs) ≡ given h
    → Says f (box_at 0 bs) (box_at 1 bs) h.inner h.urls h.mixed
unfolding box_at box_limit first_two
cut-says f {to} {bs} filled inside few two h known =
    let m : ℕ = (box_at 1 bs).end in
    let other = (boxes_standing File f 0 to (filled_boxes File filled few) 1 (omega arith)).inside in
    let long = length-take-le m f (omega arith) in
    let t = headed (take m f) h (rw (le-leb 2 (length bs) two, first_two) at known) in
    let boxes : h.boxes ≡ box_at 0 bs ∷ box_at 1 bs ∷ [] = given_same (sym t.boxes ∙ rw long (filled_boxes File (cut-filled f filled inside two) (omega arith))) in
    rw (take-append-drop m f, boxes) at (says (take m f) (drop m f) h t)

-- a file of fewer has no heading
two_whole : (f : List ℕ) (h : Heading) → heading (first_two f (walk_of f).boxes) ≡ given h → 2 ≤ length (walk_of f).boxes
unfolding walk_of first_two boxes_in pfil_right
two_whole f h known =
    let bs : List Box = (walk_of f).boxes in
    elim (dec_le 2 (length bs)) [
      | yes two ↦ two
      | no fewer ↦
          let t = headed f h (rw (lt-leb 2 (length bs) (omega arith), first_two) at known) in
          let all = no-fault (walked_in File f 0 (length f)) t.boxes in
          let (second, _) = both (is pfil (box_at 1 h.boxes)) (right File pfil h.boxes) t.pfil in
          let there = is_there pfil (lit< tt) 1 h.boxes second in
          absurd (omega (arith, ap (λ (w : Walked). length w.boxes) all))
    ]

-- ---- boxes without an index, where they stand and carried

-- what holds of them, by whether the first is one
by_index : (P : List Box → Type 0) (b : Box) (bs : List Box) → P (unindexed bs) → (is fidx b ≡ false → P (b ∷ unindexed bs)) → P (unindexed (b ∷ bs))
unfolding unindexed
by_index P b bs gone stays = go (is fidx b) refl
  where
    go : (t : Bool) → is fidx b ≡ t → P (elim t as (λ _. List Box) [ true ↦ unindexed bs | false ↦ b ∷ unindexed bs ])
    go true e = gone
    go false e = stays e

row_unindexed : (bs : List Box) (at : ℕ) → those fidx (row at (unindexed bs)) ≡ []
unfolding unindexed row is
row_unindexed [] at = those-nil fidx
row_unindexed (b ∷ bs) at =
    by_index (λ l. those fidx (row at l) ≡ []) b bs (row_unindexed bs at)
    (λ other. those_other fidx (resized at (b.end - b.at) b) (row (at + (b.end - b.at)) (unindexed bs)) other ∙ row_unindexed bs (at + (b.end - b.at)))

module _ (c : Container) (f : List ℕ) (end : ℕ) where
  -- a box that is read in f, and lies there
  abbrev pub Read : Box → Type 0
  Read b = (header c f b.at end ≡ given b) × (b.end ≤ length f)

  filled_read : {at : ℕ} {bs : List Box} → end ≤ length f → Filled c f end at bs → Each Read (unindexed bs)
  unfolding unindexed
  filled_read inside (full e) = tt
  filled_read inside (next {at = at} {b = b} {bs = bs} short read rest) =
      let i = header_inside c f at end read in
      let others = filled_read inside rest in
      by_index (Each Read) b bs others (λ _. ((subst (λ (n : ℕ). header c f n end ≡ given b) (sym i.starts) read, omega arith), others))

  -- they have no more bytes than all
  pub filled_size : {at : ℕ} {bs : List Box} → at ≤ end → Filled c f end at bs → at + size_of (unindexed bs) ≤ end
  unfolding unindexed size_of
  filled_size low (full e) = omega arith
  filled_size low (next {at = at} {b = b} {bs = bs} short read rest) =
      let i = header_inside c f at end read in
      let others = filled_size i.ends rest in
      by_index (λ l. at + size_of l ≤ end) b bs (omega arith) (λ _. omega arith)

  -- each is a piece
  read_size : (bs : List Box) → Each Read bs → length (each (box_bytes f) bs) ≡ size_of bs
  unfolding each size_of
  read_size [] reads = refl
  read_size (b ∷ bs) ((read, inside), reads) = rw (length-append, length-box_bytes c f end read inside, read_size bs reads)

  read_ones : (bs : List Box) → Each Read bs → Each (λ b. OneBox c (box_bytes f b) b) bs
  read_ones [] reads = tt
  read_ones (b ∷ bs) ((read, inside), reads) = (whole_alone c f end read inside, read_ones bs reads)

  read_row : (bs : List Box) → Each Read bs → (at : ℕ) → row_of (box_bytes f) (λ b. b) at bs ≡ row at bs
  unfolding row_of row
  read_row [] reads at = refl
  read_row (b ∷ bs) ((read, inside), reads) at = rw (length-box_bytes c f end read inside, read_row bs reads (at + (b.end - b.at)))

  -- and carried where the pieces stand
  read_paired : (g : List ℕ) (bs : List Box) → Each Read bs → (at : ℕ) → Stands g at (each (box_bytes f) bs) → Paired f g bs (row at bs)
  unfolding each row
  read_paired g [] reads at stands = tt
  read_paired g (b ∷ bs) ((read, inside), reads) at stands =
      let i = header_inside c f b.at end read in
      let long = length-box_bytes c f end read inside in
      let here = stands_left g at (box_bytes f b) (each (box_bytes f) bs) stands in
      let there = stands_right g at (box_bytes f b) (each (box_bytes f) bs) stands in (
        record {
          typed = omega arith;
          headed = omega arith;
          ended = i.whole;
          same = refl;
          bytes = λ _ k less. here k (omega arith) ∙ rw zero-add at (bytes_alike c f end read inside k less);
        },
        read_paired g bs reads (at + (b.end - b.at)) (rw long at there),
      )

  -- where they are the boxes
  read_boxes : (g : List ℕ) (bs : List Box) → Each Read bs → length bs ≤ box_limit → (at : ℕ) → Stands g at (each (box_bytes f) bs)
      → boxes_in c g at (at + size_of bs) ≡ given (row at bs)
  read_boxes g bs reads few at stands =
      filled_boxes c
      (rw (read_row bs reads at, read_size bs reads) at (pieces_stand (box_bytes f) (λ b. b) c g at bs (read_ones bs reads) stands))
      (rw (paired_many f g bs (row at bs) (read_paired g bs reads at stands)) few)

-- brands are read the same where a box was carried
brands_alike : (f g : List ℕ) (n at to : ℕ) → Alike f at g to (4 * n) → brands_from g n to ≡ brands_from f n at
unfolding brands_from
brands_alike f g zero at to same = refl
brands_alike f g (suc n) at to same =
    ap₂ (λ (m : ℕ) (ms : List ℕ). m ∷ ms) (number_same g f to at 4 (λ k less. same k (omega arith)))
    (brands_alike f g n (at + 4) (to + 4) (λ i less. rw (add_assoc to 4 i, add_assoc at 4 i) (same (4 + i) (omega arith))))

brand_carried : (f g : List ℕ) (a : Box) (to : ℕ) → a.at ≤ a.body → a.body + 8 ≤ a.end → Alike f a.at g to (a.end - a.at)
    → brands g (resized to (a.end - a.at) a) ≡ brands f a
unfolding brands
brand_carried f g a to headed room same =
    let many : to + (a.end - a.at) - (to + (a.body - a.at)) - 8 ≡ a.end - a.body - 8 = omega arith in
    rw many
    (brands_alike f g ((a.end - a.body - 8) / 4) (a.body + 8) (to + (a.body - a.at) + 8)
    (λ i less.
    let from : a.body + 8 + i ≡ a.at + (a.body - a.at + 8 + i) = omega arith in
    let on : to + (a.body - a.at) + 8 + i ≡ to + (a.body - a.at + 8 + i) = omega arith in
    rw (from, on) (same (a.body - a.at + 8 + i) (omega arith))))

-- a box of one kind is of no other
pub other_kind : (k l : Kind) (b : Box) → eqb k.code l.code ≡ false → is k b ≡ true → is l b ≡ false
unfolding is
other_kind k l b apart h = rw (eqb-true b.kind k.code h) apart

-- the first two boxes keep their rules before others of other kinds
module _ (a b : Box) (rest : List Box) where
  pub ftyp-right : is ftyp a ≡ true → is ftyp b ≡ false → those ftyp rest ≡ [] → a.body + 8 ≤ a.end → eqb ((a.end - a.body) % 4) 0 ≡ true
      → ftyp_right (a ∷ b ∷ rest) ≡ true
  unfolding ftyp_right box_at
  ftyp-right first other none room fours =
      let one = one_right File ftyp (a ∷ b ∷ rest) refl (rw (those_one ftyp a (b ∷ rest) first, those_other ftyp b rest other, none)) in
      rw (first, le-leb (a.body + 8) a.end room, fours, one)

  pub pfil-right : is pfil a ≡ false → is pfil b ≡ true → those pfil rest ≡ [] → pfil_right (a ∷ b ∷ rest) ≡ true
  unfolding pfil_right box_at
  pfil-right other second none =
      let one = one_right File pfil (a ∷ b ∷ rest) refl (rw (those_other pfil a (b ∷ rest) other, those_one pfil b rest second, none)) in
      rw (second, one)

-- what is known of a file whose first two boxes are right
pub record Opened (f : List ℕ) (h : Heading) : Type 0 where
  pub small : length f ≤ file_limit
  pub boxes : h.boxes ≡ (walk_of f).boxes
  -- the whole boxes stand one behind the other, and are no more than may be
  pub end : ℕ
  pub inside : end ≤ length f
  pub filled : Filled File f end 0 h.boxes
  pub few : length h.boxes ≤ box_limit
  pub two : 2 ≤ length h.boxes
  pub first : is ftyp (box_at 0 h.boxes) ≡ true
  pub second : is pfil (box_at 1 h.boxes) ≡ true

-- that file is one of at least two whole boxes, and they say what the heading says
opened_says : (f : List ℕ) (h : Heading) → opening f ≡ given h → Opened f h × Says f (box_at 0 h.boxes) (box_at 1 h.boxes) h.inner h.urls h.mixed
unfolding opening walk_of walked_in
opened_says f h opens =
    let (small, e) = held 1 (leb (length f) file_limit) _ opens in
    let bs : List Box = (walk_of f).boxes in
    let (k, known, same) = both_given (heading (first_two f bs)) _ e in
    let m : Met File f (length f) box_limit 0 bs = met File f (length f) (le_refl (length f)) box_limit 0 (omega arith) in
    let two = two_whole f k known in
    let said = cut-says f m.filled m.inside m.few two k known in
    subst (λ (h : Heading). Opened f h × Says f (box_at 0 h.boxes) (box_at 1 h.boxes) h.inner h.urls h.mixed) (given_same same) (
      record {
        small = leb-true (length f) file_limit small;
        boxes = refl;
        end = m.to;
        inside = m.inside;
        filled = m.filled;
        few = m.few;
        two = two;
        first = said.first;
        second = said.second;
      },
      said,
    )

module _ (f : List ℕ) (h : Heading) (opens : opening f ≡ given h) where
  pub opened : Opened f h
  opened = (opened_says f h opens).0

  pub said : Says f (box_at 0 h.boxes) (box_at 1 h.boxes) h.inner h.urls h.mixed
  said = (opened_says f h opens).1

  -- both stand in the file
  standing : (k : ℕ) → k < 2 → Standing File f 0 opened.end (box_at k h.boxes)
  standing k less = let o = opened in boxes_standing File f 0 o.end (filled_boxes File o.filled o.few) k (omega arith)

  within_file : (k : ℕ) → k < 2 → (box_at k h.boxes).end ≤ length f
  within_file k less = omega (arith, (standing k less).inside.ends, opened.inside)

  no_uuid : eqb (box_at 1 h.boxes).kind uuid ≡ false
  unfolding is
  no_uuid = rw (eqb-true (box_at 1 h.boxes).kind pfil.code said.second)

  -- and so do the boxes in `pfil`
  pub inner_read : Each (Read Pfil f (box_at 1 h.boxes).end) (unindexed h.inner)
  inner_read =
      let b = box_at 1 h.boxes in
      filled_read Pfil f b.end (within_file 1 (lit< tt)) (boxes_filled Pfil f b.body b.end said.inner)

  inner_size : (box_at 1 h.boxes).body + size_of (unindexed h.inner) ≤ (box_at 1 h.boxes).end
  inner_size =
      let b = box_at 1 h.boxes in
      filled_size Pfil f b.end (standing 1 (lit< tt)).inside.whole (boxes_filled Pfil f b.body b.end said.inner)

  -- what stands in the copy for the first two boxes
  abbrev pub first_fated : Fated
  first_fated = record { box = box_at 0 h.boxes; fate = whole }

  abbrev pub second_fated : Fated
  second_fated = record { box = box_at 1 h.boxes; fate = of_pfil h.inner }

  module _ (new : ℕ → ℕ) where
    pub first_long : length (copy_of f new first_fated) ≡ copy_size first_fated
    unfolding copy_of copy_size
    first_long = length-box_bytes File f opened.end (standing 0 (lit< tt)).read (within_file 0 (lit< tt))

    pub first_alone : OneBox File (copy_of f new first_fated) (box_at 0 h.boxes)
    unfolding copy_of
    first_alone = whole_alone File f opened.end (standing 0 (lit< tt)).read (within_file 0 (lit< tt))

    pub second_long : length (copy_of f new second_fated) ≡ copy_size second_fated
    unfolding copy_of copy_size
    second_long =
        let b = box_at 1 h.boxes in
        length-reheaded File f opened.end (standing 1 (lit< tt)).read no_uuid (each (box_bytes f) (unindexed h.inner))
        ∙ ap (λ (n : ℕ). b.body - b.at + n) (read_size Pfil f b.end (unindexed h.inner) inner_read)

    pub second_shorter : copy_size second_fated ≤ (box_at 1 h.boxes).end - (box_at 1 h.boxes).at
    unfolding copy_size
    second_shorter = let i = (standing 1 (lit< tt)).inside in omega (arith, inner_size)

    pub second_alone : OneBox File (copy_of f new second_fated) (box_at 1 h.boxes)
    unfolding copy_of is
    second_alone =
        let b = box_at 1 h.boxes in
        let bs : List Box = unindexed h.inner in
        let known : b.kind ≡ pfil.code = eqb-true b.kind pfil.code said.second in
        let room = inner_size in
        let small = opened.small in
        reheaded_alone File f opened.end (standing 1 (lit< tt)).read no_uuid (each (box_bytes f) bs) (omega arith)
        (omega (arith, within_file 1 (lit< tt)))
        (rw (read_size Pfil f b.end bs inner_read) (omega arith))

  -- the boxes in `pfil` at their new places
  abbrev pub pfil_anew : List Box
  pfil_anew = row (copy_size first_fated + ((box_at 1 h.boxes).body - (box_at 1 h.boxes).at)) (unindexed h.inner)

  -- the heading of a file that begins with them and has these boxes, of which no other is `ftyp` or `pfil`
  abbrev pub heading_anew : List Box → Heading
  heading_anew bs = record { boxes = bs; inner = pfil_anew; urls = h.urls; mixed = h.mixed }

  module _ (new : ℕ → ℕ) (g : List ℕ) (rest : List Box) where
    abbrev pub all_anew : List Box
    all_anew =
        resized 0 (copy_size first_fated) (box_at 0 h.boxes)
        ∷ resized (copy_size first_fated) (copy_size second_fated) (box_at 1 h.boxes)
        ∷ rest

    pub heading-back : length g ≤ file_limit
        → Filled File g (length g) 0 all_anew
        → length all_anew ≤ box_limit
        → Stands g 0 (copy_of f new first_fated)
        → Stands g (copy_size first_fated) (copy_of f new second_fated)
        → those ftyp rest ≡ []
        → those pfil rest ≡ []
        → heading g ≡ given (heading_anew all_anew)
    unfolding copy_of copy_size is box_at brand_right branded
    heading-back small filled few first second noFtyp noPfil =
        let a = box_at 0 h.boxes in
        let b = box_at 1 h.boxes in
        let bs : List Box = unindexed h.inner in
        let one = standing 0 (lit< tt) in
        let other = standing 1 (lit< tt) in
        let ends = within_file 0 (lit< tt) in
        let long = length-box_bytes File f opened.end one.read ends in
        let alike : Alike f a.at g 0 (a.end - a.at) = λ i less.
        first i (omega arith) ∙ rw zero-add at (bytes_alike File f opened.end one.read ends i less) in
        let kept = brand_carried f g a 0 (omega (arith, one.inside)) said.room alike in
        let pieces = reheaded_body File f opened.end other.read no_uuid (each (box_bytes f) bs) g (a.end - a.at) second in
        let place : ℕ = a.end - a.at + (b.body - b.at) in
        let paired = read_paired Pfil f b.end g bs inner_read place pieces in
        let firstAnew : Box = resized 0 (a.end - a.at) a in
        let secondAnew : Box = resized (a.end - a.at) (copy_size second_fated) b in
        let span : 0 + (a.end - a.at) - (0 + (a.body - a.at)) ≡ a.end - a.body = omega (arith, one.inside) in
        let most = boxes_few Pfil f b.body b.end said.inner in
        let surls = unindexed-surls f h.inner ∙ said.surl in
        let inside = read_boxes Pfil f b.end g bs inner_read (omega (arith, unindexed_few h.inner)) place pieces in
        heading-of g (heading_anew all_anew)
        (record {
          small = le-leb (length g) file_limit small;
          boxes = filled_boxes File filled few;
          ftyp =
              ftyp-right firstAnew secondAnew rest said.first (other_kind pfil ftyp b refl said.second) noFtyp (omega (arith, said.room)) (rw span said.fours);
          brand = rw kept said.brand;
          pfil = pfil-right firstAnew secondAnew rest (other_kind ftyp pfil a refl said.first) said.second noPfil;
          inner = rw (add_assoc (a.end - a.at) (b.body - b.at) (size_of bs)) at inside;
          pfhd = paired_pfhd f g bs pfil_anew paired (unindexed-pfhd f h.inner said.pfhd);
          surl = paired_surls f g bs pfil_anew paired surls;
          urls = said.urls ∙ sym (paired_urls f g bs pfil_anew paired surls ∙ unindexed_urls f h.inner);
          mixed = rw kept said.mixed;
        })

  pub pfil-unindexed : has_index pfil_anew ≡ false
  unfolding has_index
  pfil-unindexed = rw (row_unindexed h.inner (copy_size first_fated + ((box_at 1 h.boxes).body - (box_at 1 h.boxes).at)))
