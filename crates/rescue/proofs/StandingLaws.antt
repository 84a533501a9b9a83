-- What stands in the copy: for each box that stays that box, none but data, no index, and for each chunk the bytes that
-- it had.
use Prim.Native.Nat.{ℕ, zero, suc, ◌+◌, ◌-◌, ◌^◌, ◌<◌, ◌≤◌}
use mathlib.Core.Bool.{Bool, true, false, ◌&&◌, ◌||◌, or-true, false≢true}
use mathlib.Core.List.{List, [], ◌∷◌, ◌++◌, map, map-append, append_assoc, Memᴰ}
use mathlib.Core.Logic.{inl, inr, ⊎_elim}
use mathlib.Core.Path.{◌≡◌, refl, sym, ap, ap₂, subst, ◌∙◌}
use native.Mathlib.Nat.{zero-add, add-zero, le_refl}
use native.Mathlib.Omega.{arith}
use borrow.Author.Tests.{eqb-true}
use lib.Dec.{T, eqb}
use lib.ListN.{length, get_or, take, drop, length-take, length-drop}
use lib.Seq.{ext_get_or, get_or-take, get_or-drop}
use Rattle.boxes.specs.Answer.{given}
use Rattle.boxes.specs.Framing.{Box, uuid, boxes_in}
use Rattle.boxes.specs.Kinds.{ftyp, pfil, pseg, pdat, ploc, fidx, is, box_at, no_box}
use Rattle.boxes.specs.declared.kinds.Container.{Container}
use Rattle.boxes.specs.declared.kinds.Container.TheVariants.{File, Pfil, Pseg}
use Rattle.boxes.proofs.ContainerLaws.{boxes_standing, boxes_same}
use Rattle.boxes.proofs.HeaderLaws.{header_inside}
use Rattle.partial.specs.BoxList.{each}
use Rattle.partial.specs.Entries.{may_lie}
use Rattle.partial.specs.Heading.{Heading, bytes_in}
use Rattle.partial.specs.Segments.{Chunk, Segment, has_place, chunks_of}
use Rattle.partial.specs.Sequences.{some_of, sum}
use Rattle.partial.proofs.Meaning.MappedLaws.{may_be}
use Rattle.partial.proofs.Meaning.SequenceLaws.{which, passes, Each, each_member}
use Rattle.partial.proofs.Reading.HeadingAppendLaws.{headed}
use Rattle.additions.proofs.StandsLaws.{Stands, stands_left, stands_right}
use Rattle.rescue.specs.Kept.{Fate, dropped, whole, of_pfil, of_pseg, Fated, lies_in, opening, kept_with, kept_of, stays, fates_from, fates}
use Rattle.rescue.specs.Copy.{box_bytes, unindexed, size_of, inner_bytes, copy_of, copy_size, copied}
use Rattle.rescue.specs.Demands.{OnlyData, Bare, chunk_bytes, staying_of, OneByOne, same_size, AsItWas, no_index, Emptied, StandsFor}
use Rattle.rescue.proofs.Shapes.{Alike, resized, row, chunk_anew, segments_anew, boxes_anew}
use Rattle.rescue.proofs.CopyLaws.{staying, pieces_long, copy_stands}
use Rattle.rescue.proofs.FateLaws.{segments_of, by_fate, fate_pseg, fate_whole, fate_no_pfil, beside_given}
use Rattle.rescue.proofs.HeadingLaws.{Read, other_kind, opened, said, first_fated, second_fated, inner_read}
use Rattle.rescue.proofs.LieLaws.{new_places, may-lie, chunk_carried, kept_lie, kept_alike}
use Rattle.rescue.proofs.PieceLaws.{length-box_bytes, bytes_alike, reheaded_body}
use Rattle.rescue.proofs.PlaceLaws.{sizes}
use Rattle.rescue.proofs.ReadingLaws.{Anew, none_anew, one_anew, anew_many, anew_beside, anew_fates, sizes_more, segments_back, all_split, stands_new, new_there, stood_there, fate_there, kept_there, kept_anew}
use Rattle.rescue.proofs.SegmentLaws.{Piece, kept, body_stands, boxes-back, was, segment_place}
use Rattle.rescue.proofs.TwiceLaws.{kept_again, copy_clean}
use Rattle.rescue.proofs.WholeLaws.{each_by, fates_stood, fates_ready, heading_back, heading-copied}

-- ---- none but data

each_nth : (P : Box → Type 0) (bs : List Box) → Each P bs → (n : ℕ) → n < length bs → P (box_at n bs)
unfolding box_at
each_nth P [] all n less = absurd (omega arith)
each_nth P (b ∷ bs) all zero less = all.0
each_nth P (b ∷ bs) all (suc n) less = each_nth P bs all.1 n (omega arith)

module _ (limit : ℕ) (f : List ℕ) (h : Heading) where
  abbrev Data : Box → Type 0
  Data b = (is pdat b || (is pseg b || some_of (lies_in b) (chunks_of (kept_of limit f h)))) ≡ true

  -- a box that stays behind the first two is data
  stays_data : (kept : List Segment) (bs : List Box) → Each (λ x. staying x.fate ≡ true) (fates_from limit f h kept bs) → Each Data bs
  unfolding fates_from stays
  stays_data kept [] stay = tt
  stays_data kept (b ∷ bs) (here, stay) = (
    by_fate limit f h (λ t _. staying t ≡ true → Data b) kept b (λ n e. absurd (false≢true e))
        (λ (_, _, _, e) _. go (is pdat b) (is pseg b) h.mixed (some_of (lies_in b) (chunks_of (kept_of limit f h))) e)
        (λ s kind _ _. rw (kind, or-true)) here,
    stays_data (kept_with limit f h kept b) bs stay,
  )
    where
      go : (d s m l : Bool) → (d || (m && l)) ≡ true → (d || (s || l)) ≡ true
      go true s m l e = refl
      go false s true l e = rw (e, or-true)
      go false s false l e = absurd (false≢true e)

  only_data : Each (λ x. staying x.fate ≡ true) (fates limit f h) → OnlyData h (kept_of limit f h)
  unfolding fates box_at
  only_data stay k two less =
      let others : List Box = drop 2 h.boxes in
      let there = each_nth Data others (stays_data [] others stay.1.1) (k - 2) (omega (arith, length-drop 2 h.boxes)) in
      let on : 2 + (k - 2) ≡ k = omega arith in
      let same : box_at (k - 2) others ≡ box_at k h.boxes = get_or-drop 2 h.boxes (k - 2) no_box ∙ ap (λ (n : ℕ). get_or h.boxes n no_box) on in
      subst T (sym (subst Data same there)) tt

-- ---- parts that were carried

part_alike : (f g : List ℕ) (a c n : ℕ) → a + n ≤ length f → c + n ≤ length g → Alike f a g c n
    → bytes_in g (record { place = c; size = n }) ≡ bytes_in f (record { place = a; size = n })
unfolding bytes_in
part_alike f g a c n here there same =
    let one : length (take n (drop c g)) ≡ n = simp (length-take, length-drop) (omega arith) in
    let other : length (take n (drop a f)) ≡ n = simp (length-take, length-drop) (omega arith) in
    ext_get_or 0 (take n (drop c g)) (take n (drop a f)) (one ∙ sym other)
    (λ i less.
    get_or-take n (drop c g) i 0 (omega arith)
    ∙ get_or-drop c g i 0
    ∙ same i (omega arith)
    ∙ sym (get_or-take n (drop a f) i 0 (omega arith) ∙ get_or-drop a f i 0))

module _ (f g : List ℕ) (new : ℕ → ℕ) where
  abbrev Carried : Chunk → Type 0
  Carried c =
      has_place c.state c.size ≡ true
      → (c.place + c.size ≤ length f) × (new c.place + c.size ≤ length g) × Alike f c.place g (new c.place) c.size

  chunk-bytes : (c : Chunk) → Carried c → chunk_bytes g (chunk_anew new c) ≡ chunk_bytes f c
  unfolding bytes_in
  chunk-bytes c so =
      elim (which (has_place c.state c.size)) [
        | inl e ↦ let (here, there, same) = so e in rw (chunk_anew, e) (part_alike f g c.place (new c.place) c.size here there same)
        | inr e ↦ rw (chunk_anew, e)
      ]

  list_bytes : (cs : List Chunk) → ((c : Chunk) → Memᴰ c cs → Carried c) → map (chunk_bytes g) (map (chunk_anew new) cs) ≡ map (chunk_bytes f) cs
  list_bytes [] so = refl
  list_bytes (c ∷ cs) so =
      ap₂ (λ (b : List ℕ) (bs : List (List ℕ)). b ∷ bs) (chunk-bytes c (so c (Memᴰ.head refl))) (list_bytes cs (λ d there. so d (Memᴰ.tail there)))

  all_bytes : {ss ts : List Segment} → Anew new ss ts → ((s : Segment) → Memᴰ s ss → (c : Chunk) → Memᴰ c s.chunks → Carried c)
      → map (chunk_bytes g) (chunks_of ts) ≡ map (chunk_bytes f) (chunks_of ss)
  unfolding chunks_of
  all_bytes none_anew so = refl
  all_bytes (one_anew {ss} {ts} b s rest) so =
      map-append (chunk_bytes g) (map (chunk_anew new) s.chunks) (chunks_of ts)
      ∙ ap₂ (λ (one other : List (List ℕ)). one ++ other) (list_bytes s.chunks (so s (Memᴰ.head refl))) (all_bytes rest (λ t there. so t (Memᴰ.tail there)))
      ∙ sym (map-append (chunk_bytes f) s.chunks (chunks_of ss))

-- where a chunk may lie, it ends in the file
ends_in : (g : List ℕ) (h : Heading) → boxes_in File g 0 (length g) ≡ given h.boxes → (c : Chunk) → may_lie h c.state c.place c.size ≡ true
    → c.place + c.size ≤ length g
ends_in g h boxes c may =
    let ends = boxes_standing File g 0 (length g) boxes in
    ⊎_elim (λ d. omega (arith, (ends d.number d.there).inside.ends, d.to))
    (λ w. omega (arith, (ends (w.first + w.more) w.there).inside.ends, w.ends))
    (may_be h c may)

-- ---- boxes that were carried, one by one

no_index_lem : (bs : List Box) → unindexed bs ≡ no_index bs
unfolding unindexed
no_index_lem [] = refl
no_index_lem (b ∷ bs) = go (is fidx b) (no_index_lem bs)
  where
    go : (t : Bool) → unindexed bs ≡ no_index bs
        → ◌≡◌ {A = List Box} (elim t [ true ↦ unindexed bs | false ↦ b ∷ unindexed bs ]) (elim t [ true ↦ no_index bs | false ↦ b ∷ no_index bs ])
    go true e = e
    go false e = ap (λ (l : List Box). b ∷ l) e

-- a file and a longer one, and a copy
module _ (f all g : List ℕ) (longer : length f ≤ length all) (same : (k : ℕ) → k < length f → get_or f k 0 ≡ get_or all k 0) where
  part_carried : (a c n : ℕ) → a + n ≤ length f → c + n ≤ length g → Alike f a g c n
      → bytes_in g (record { place = c; size = n }) ≡ bytes_in all (record { place = a; size = n })
  part_carried a c n here there alike = part_alike all g a c n (omega arith) there (λ i less. alike i less ∙ same (a + i) (omega arith))

  boxes_longer : (k : Container) (start end : ℕ) → end ≤ length f → boxes_in k all start end ≡ boxes_in k f start end
  boxes_longer k start end inside = boxes_same f all end (λ i less. sym (same i (omega arith))) k start

  -- the piece of a box: as long, and its first bytes
  record Fitting (located : Bool) (text : Box → List ℕ) (b : Box) : Type 0 where
    order : b.at ≤ b.end
    inside : b.end ≤ length f
    long : length (text b) ≡ b.end - b.at
    most : same_size located b ≤ b.end - b.at
    alike : Alike f b.at (text b) 0 (same_size located b)

  rows : (located : Bool) (text : Box → List ℕ) (at : ℕ) (bs : List Box) → Each (Fitting located text) bs → Stands g at (each text bs) → at + size_of bs ≤ length g
      → OneByOne (AsItWas located all g) bs (row at bs)
  unfolding each row size_of
  rows located text at [] fit stands ends = tt
  rows located text at (b ∷ bs) (p, fit) stands ends =
      let order = p.order in
      let inside = p.inside in
      let long = p.long in
      let most = p.most in
      let here = stands_left g at (text b) (each text bs) stands in
      let there = rw long at (stands_right g at (text b) (each text bs) stands) in (
        (
          omega arith,
          part_carried b.at at (same_size located b) (omega arith) (omega arith) (λ i less. here i (omega arith) ∙ rw zero-add at (p.alike i less)),
        ),
        rows located text (at + (b.end - b.at)) bs fit there (omega arith),
      )

  -- of a box as it is, and of one inside a `pseg`
  fit_whole : (c : Container) (end : ℕ) (b : Box) → Read c f end b → Fitting false (box_bytes f) b
  fit_whole c end b (read, inside) =
      let i = header_inside c f b.at end read in
      record { order = omega arith; inside = inside; long = length-box_bytes c f end read inside; most = le_refl _; alike = bytes_alike c f end read inside }

  fit_piece : (text : Box → List ℕ) (b : Box) → Piece f (text b) b → Fitting true text b
  fit_piece text b p =
      let ended = p.ended in
      let started = p.started in
      elim (which (is ploc b)) [
        | inl e ↦
            let (room, front) = p.front e in
            record { order = omega arith; inside = p.inside; long = p.long; most = rw (same_size, e) (omega arith); alike = rw (same_size, e) front }
        | inr e ↦ record { order = omega arith; inside = p.inside; long = p.long; most = rw (same_size, e) (le_refl _); alike = rw (same_size, e) (p.bytes e) }
      ]

  -- what stands for a box that stays whole
  plain_stands : (at : ℕ) (b : Box) (end : ℕ) → Read File f end b → is pfil b ≡ false → is pseg b ≡ false → Stands g at (box_bytes f b) → at + (b.end - b.at) ≤ length g
      → StandsFor all g b (resized at (b.end - b.at) b)
  plain_stands at b end read no_pfil no-pseg stands ends =
      let fit = fit_whole File end b read in
      let order = fit.order in
      let inside = fit.inside in
      let long = fit.long in
      record {
        plain = λ _ _. (omega arith, part_carried b.at at (b.end - b.at) (omega arith) ends (λ i less. stands i (omega arith) ∙ rw zero-add at (fit.alike i less)));
        in_pfil = λ kind. absurd (false≢true (sym no_pfil ∙ passes (is pfil b) kind));
        in_pseg = λ kind. absurd (false≢true (sym no-pseg ∙ passes (is pseg b) kind));
      }

  -- and for a container
  emptied : (k : Container) (located : Bool) (text : Box → List ℕ) (b : Box) (inner : List Box) (at size : ℕ)
      → b.at ≤ b.body
      → b.end ≤ length f
      → boxes_in k f b.body b.end ≡ given inner
      → boxes_in k g (at + (b.body - b.at)) (at + size) ≡ given (row (at + (b.body - b.at)) (unindexed inner))
      → Each (Fitting located text) (unindexed inner)
      → Stands g (at + (b.body - b.at)) (each text (unindexed inner))
      → at + (b.body - b.at) + size_of (unindexed inner) ≤ length g
      → Emptied k located all g b (resized at size b)
  emptied k located text b inner at size started inside was now fit stands ends =
      let place : ℕ = at + (b.body - b.at) in
      record {
        kind = refl;
        form = omega arith;
        was = inner;
        now = row place (unindexed inner);
        was_framed = boxes_longer k b.body b.end inside ∙ was;
        now_framed = now;
        boxes = subst (λ (bs : List Box). OneByOne (AsItWas located all g) bs (row place (unindexed inner))) (no_index_lem inner) (rows located text place (unindexed inner) fit stands ends);
      }

sizes_split : (xs ys : List Fated) → sizes (xs ++ ys) ≡ sizes xs + sizes ys
unfolding sum
sizes_split [] ys = omega arith
sizes_split (x ∷ xs) ys = omega (arith, sizes_split xs ys)

-- ---- the copy of a file

module _ (limit : ℕ) (f : List ℕ) (h : Heading) (opens : opening f ≡ given h) (bytes : (k : ℕ) → get_or f k 0 < 256) where
  abbrev copy : List ℕ
  copy = copied f (fates limit f h)

  abbrev back : Heading
  back = heading_back limit f h opens bytes

  abbrev new : ℕ → ℕ
  new = new_places limit f h opens bytes

  pub bare_back : Bare (copied f (fates limit f h)) (heading_back limit f h opens bytes) (segments_back limit f h opens bytes)
  bare_back =
      let clean = copy_clean limit f h opens bytes in
      let again = kept_again limit f h opens bytes in
      record {
        boxes = subst (OnlyData back) again (only_data limit copy back clean.stay);
        pfil = clean.pfil;
        segments = each_member _ (segments_back limit f h opens bytes) (rw again at clean.segments);
        zeros = each_member _ (segments_back limit f h opens bytes) (rw again at clean.zeros);
      }

  -- the boxes behind the first two, and the first two before some of them
  abbrev others : List Fated
  others = fates_from limit f h [] (drop 2 h.boxes)

  abbrev up_to : List Fated → List Fated
  up_to before = first_fated f h opens ∷ second_fated f h opens ∷ before

  -- what stands for a box ends in the copy
  ends_copied : (before : List Fated) (x : Fated) (behind : List Fated) → fates limit f h ≡ before ++ (x ∷ behind) → sizes before + copy_size x ≤ length copy
  unfolding copied sum
  ends_copied before x behind split =
      omega (arith, pieces_long f new (fates limit f h) (fates_ready limit f h opens bytes new), ap sizes split, sizes_split before (x ∷ behind))

  module _ (all : List ℕ) (longer : length f ≤ length all) (same : (k : ℕ) → k < length f → get_or f k 0 ≡ get_or all k 0) where
    abbrev For : Box → Box → Type 0
    For = StandsFor all copy

    first_stands : For (box_at 0 h.boxes) (resized 0 (copy_size (first_fated f h opens)) (box_at 0 h.boxes))
    unfolding fates copied copy_of copy_size sum
    first_stands =
        let b = box_at 0 h.boxes in
        let stood = (fates_stood limit f h opens bytes).0 in
        let kind = (opened f h opens).first in
        plain_stands f all copy longer same 0 b stood.end (stood.read, stood.inside) (other_kind ftyp pfil b refl kind) (other_kind ftyp pseg b refl kind)
        (copy_stands f new [] (first_fated f h opens) (second_fated f h opens ∷ others) (fates_ready limit f h opens bytes new))
        (ends_copied [] (first_fated f h opens) (second_fated f h opens ∷ others) refl)

    second_stands : (at : ℕ) → at ≡ copy_size (first_fated f h opens) → For (box_at 1 h.boxes) (resized at (copy_size (second_fated f h opens)) (box_at 1 h.boxes))
    unfolding fates copied copy_of copy_size sum is box_at boxes_anew
    second_stands at here =
        let b = box_at 1 h.boxes in
        let one = first_fated f h opens in
        let other = second_fated f h opens in
        let stood = (fates_stood limit f h opens bytes).1.0 in
        let i = header_inside File f b.at stood.end stood.read in
        let kind = (opened f h opens).second in
        let no_uuid : eqb b.kind uuid ≡ false = rw (eqb-true b.kind pfil.code kind) in
        let body : List ℕ = each (box_bytes f) (unindexed h.inner) in
        let stands = rw (add-zero, ← here) at (copy_stands f new (one ∷ []) other others (fates_ready limit f h opens bytes new)) in
        let there = reheaded_body File f stood.end stood.read no_uuid body copy at stands in
        let fit = each_by (Read Pfil f b.end) (Fitting f all copy longer same false (box_bytes f)) (fit_whole f all copy longer same Pfil b.end) (unindexed h.inner) (inner_read f h opens) in
        let now = rw (← here, zero-add) at (headed copy back (heading-copied limit f h opens bytes)).inner in
        let ends = ends_copied (one ∷ []) other others refl in
        record {
          plain = λ no_pfil. absurd (false≢true (sym no_pfil ∙ kind));
          in_pfil = λ _. emptied f all copy longer same Pfil false (box_bytes f) b h.inner at (copy_size other) (omega arith) stood.inside (said f h opens).inner now fit there (omega arith);
          in_pseg = λ other-one. absurd (false≢true (sym (other_kind pfil pseg b refl kind) ∙ passes (is pseg b) other-one));
        }

    pseg_stands : (before : List Fated) (b : Box) (s : Segment) (behind : List Fated) → others ≡ before ++ (record { box = b; fate = of_pseg s } ∷ behind)
        → (at : ℕ) → at ≡ sizes (up_to before)
        → For b (resized at (copy_size (record { box = b; fate = of_pseg s })) b)
    unfolding copied copy_size
    pseg_stands before b s behind split at here =
        let x : Fated = record { box = b; fate = of_pseg s } in
        let before' = segments_of before in
        let stood = stood_there limit f h opens bytes before x behind split in
        let i = header_inside File f b.at stood.end stood.read in
        let (kind, taken) = fate_pseg limit f h before' b (fate_there limit f h opens bytes before x behind split) in
        let read = (beside_given limit f h before' b taken).1 in
        let low : length f < 2 ^ 32 = omega (arith, (opened f h opens).small) in
        let place = segment_place limit f h before' b s stood.end stood.read kind stood.inside low bytes read new in
        let put : new s.place ≡ sizes (up_to before) = rw place (new_there limit f h opens bytes before x behind split) in
        let stands : Stands copy (new s.place) (copy_of f new x) = rw put (stands_new limit f h opens bytes before x behind split new) in
        let anew = anew_fates new before in
        let lie = kept_lie limit f h opens bytes s (kept_there limit f h opens bytes before x behind split s refl) in
        let there = body_stands limit f h before' b s stood.end stood.read kind stood.inside low bytes read new copy back (segments_anew new before) stands refl (anew_many anew) (anew_beside anew) lie in
        let now = boxes-back limit f h before' b s stood.end stood.read kind stood.inside low bytes read new copy back (segments_anew new before) stands refl (anew_many anew) (anew_beside anew) lie in
        let pieces = kept limit f h before' b s stood.end stood.read kind stood.inside low bytes read new in
        let (_, w) = was limit f h before' b s stood.end stood.read kind stood.inside low bytes read new in
        let fit = each_by (λ c. Piece f (inner_bytes f new s c) c) (Fitting f all copy longer same true (inner_bytes f new s)) (fit_piece f all copy longer same (inner_bytes f new s)) (unindexed s.inner) pieces in
        let ends = ends_copied (up_to before) x behind (all_split limit f h opens bytes before x behind split) in
        subst (λ (at : ℕ). For b (resized at (copy_size x) b)) (put ∙ sym here)
        (record {
          plain = λ _ no-pseg. absurd (false≢true (sym no-pseg ∙ kind));
          in_pfil = λ other-one. absurd (false≢true (sym (other_kind pseg pfil b refl kind) ∙ passes (is pfil b) other-one));
          in_pseg = λ _. emptied f all copy longer same Pseg true (inner_bytes f new s) b s.inner (new s.place) (copy_size x) (omega arith) stood.inside w.step.boxes now fit there (omega arith);
        })

    one_stands : (before : List Fated) (b : Box) (fate : Fate) (behind : List Fated) → others ≡ before ++ (record { box = b; fate = fate } ∷ behind)
        → (at : ℕ) → at ≡ sizes (up_to before)
        → OneByOne For (staying_of (λ _. true) behind) (boxes_anew (at + copy_size (record { box = b; fate = fate })) behind)
        → OneByOne For (staying_of (λ _. true) (record { box = b; fate = fate } ∷ behind)) (boxes_anew at (record { box = b; fate = fate } ∷ behind))
    unfolding boxes_anew copy_size copy_of copied
    one_stands before b (dropped n) behind split at here rest = rw add-zero at rest
    one_stands before b whole behind split at here rest =
        let x : Fated = record { box = b; fate = whole } in
        let stood = stood_there limit f h opens bytes before x behind split in
        let (no-pseg, _, no_pfil, _) = fate_whole limit f h (segments_of before) b (fate_there limit f h opens bytes before x behind split) in
        let stands = rw (← here) at (stands_new limit f h opens bytes before x behind split new) in
        let ends = ends_copied (up_to before) x behind (all_split limit f h opens bytes before x behind split) in
        (plain_stands f all copy longer same at b stood.end (stood.read, stood.inside) no_pfil no-pseg stands (omega arith), rest)
    one_stands before b (of_pfil inner) behind split at here rest =
        absurd (fate_no_pfil limit f h (segments_of before) b (fate_there limit f h opens bytes before (record { box = b; fate = of_pfil inner }) behind split))
    one_stands before b (of_pseg s) behind split at here rest = (pseg_stands before b s behind split at here, rest)

    all_stand : (behind before : List Fated) → others ≡ before ++ behind → (at : ℕ) → at ≡ sizes (up_to before) → OneByOne For (staying_of (λ _. true) behind) (boxes_anew at behind)
    unfolding boxes_anew
    all_stand [] before split at here = tt
    all_stand (x ∷ behind) before split at here =
        one_stands before x.box x.fate behind split at here
        (all_stand behind (before ++ (x ∷ [])) (split ∙ sym (append_assoc before (x ∷ []) behind)) (at + copy_size x) (unfold sum in omega (arith, sizes_more before x)))

    pub boxes_stand : OneByOne (StandsFor all (copied f (fates limit f h))) (staying_of (λ _. true) (fates limit f h)) (boxes_anew 0 (fates limit f h))
    unfolding fates boxes_anew
    boxes_stand = (first_stands, (second_stands _ (zero-add (copy_size (first_fated f h opens))), all_stand others [] refl _ (unfold sum in omega arith)))

  module _ (boxes : boxes_in File f 0 (length f) ≡ given h.boxes) (all : List ℕ) (longer : length f ≤ length all) (same : (k : ℕ) → k < length f → get_or f k 0 ≡ get_or all k 0) where
    pub carried-back : map (chunk_bytes (copied f (fates limit f h))) (chunks_of (segments_back limit f h opens bytes)) ≡ map (chunk_bytes all) (chunks_of (kept_of limit f h))
    carried-back =
        all_bytes all copy new (kept_anew limit f h opens bytes)
        (λ s there c chunk placed.
        let lie = (chunk_carried limit f h opens bytes s there c chunk placed).1 in
        let here = ends_in f h boxes c (may-lie limit f h opens bytes s there c chunk placed) in
        let ends = ends_in copy back (headed copy back (heading-copied limit f h opens bytes)).boxes (record { start = 0; size = c.size; state = c.state; place = new c.place }) lie in
        (omega arith, ends, λ i less. kept_alike limit f h opens bytes s there c chunk placed i less ∙ same (c.place + i) (omega arith)))
