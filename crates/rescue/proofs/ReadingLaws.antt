-- The copy is acceptable or has only refusal 12: it reads back as the segments that are kept, with their bytes.
use Prim.Native.Nat.{ℕ, suc, ◌+◌, ◌-◌, ◌^◌, ◌<◌, ◌≤◌, max}
use mathlib.Core.Bool.{Bool, true, false, not, ◌&&◌, ◌||◌}
use mathlib.Core.List.Memᴰ
use mathlib.Core.List.{List, [], ◌∷◌, ◌++◌, map, map-map, append-nil, append_assoc, Memᴰ}
use mathlib.Core.Logic.{inl, inr}
use Rattle.std.specs.Prelude.{Option, None, Some}
use mathlib.Core.Path.{◌≡◌, refl, sym, ap, ◌∙◌}
use native.Mathlib.Nat.{add-zero, zero-add}
use native.Mathlib.Omega.{arith}
use borrow.Author.Tests.{eqb-true, le-leb, lt-ltb, ltb-false}
use lib.Dec.{leb, eqb}
use lib.ListN.{length, get_or, drop, length-append, length-map}
use Rattle.boxes.specs.Answer.{refused, given}
use Rattle.boxes.specs.Framing.{Box}
use Rattle.boxes.specs.Kinds.{ftyp, pfil, pseg, fidx, rules, is, rule_in, right, those, box_at}
use Rattle.boxes.specs.declared.kinds.Container.{Container}
use Rattle.boxes.specs.declared.kinds.Container.TheVariants.{File, Pfil, Pseg}
use Rattle.boxes.specs.declared.kinds.Count.TheVariants.{AtMostOne}
use Rattle.boxes.proofs.KindLaws.{those_one, those_other, right_some, some_right, few_right}
use Rattle.partial.specs.BoxList.{each}
use Rattle.partial.specs.Limits.{segment_limit, layer_limit}
use Rattle.partial.specs.Sequences.{all_of, sum, largest}
use Rattle.partial.specs.Segments.{Chunk, Segment, good, present, has_place, is_open, is_last, end_of, chunks_of}
use Rattle.partial.specs.Heading.{Heading}
use Rattle.partial.specs.Index.{boxes_alone, belonging, size_for, index_for, index_of_segments, has_index, indexed}
use Rattle.partial.specs.Meaning.{gives_size, known_size, agree, covers, supplies, served}
use Rattle.partial.specs.Reading.{segment, segments_from, reading}
use Rattle.partial.specs.Sources.{same_urls, source_count, source_among, source_beside, of_source, agreed}
use Rattle.partial.proofs.Meaning.SequenceLaws.{which, both, within_true, Each, each_member}
use Rattle.partial.proofs.Meaning.SourceLaws.{member_of}
use Rattle.partial.proofs.Meaning.SupplyLaws.{byte_from, served_from}
use Rattle.partial.proofs.Reading.IndexedLaws.{index_none, whole_indexed}
use Rattle.partial.proofs.Reading.KeptLaws.{segments-of}
use Rattle.partial.proofs.Reading.LimitLaws.{segments-many}
use Rattle.partial.proofs.Reading.ReadingLaws.{read_reading, reading_none}
use Rattle.additions.proofs.StandsLaws.{Stands}
use Rattle.rescue.specs.Kept.{Fate, dropped, whole, of_pfil, of_pseg, Fated, opening, kept_of, fate_of, fates_from, fates}
use Rattle.rescue.specs.Copy.{copy_of, copied, copy_size}
use Rattle.rescue.proofs.Shapes.{Alike, resized, chunk_anew, inner_anew, segment_anew, segments_anew, boxes_anew}
use Rattle.rescue.proofs.PlaceLaws.{sizes, new_at}
use Rattle.rescue.proofs.CopyLaws.{copy_stands}
use Rattle.rescue.proofs.FateLaws.{segments_of, segments_split, kept_all, fate-at, fate_pseg, fate_whole, fate_no_pfil, beside_given, kept_sound}
use Rattle.rescue.proofs.HeadingLaws.{opened, first_fated, second_fated, pfil-unindexed}
use Rattle.rescue.proofs.SegmentLaws.{segment_place, segment-back, segment-unindexed}
use Rattle.rescue.proofs.WholeLaws.{Stood, fates_stood, fates_ready, fates_chained, heading_back, heading-copied}
use Rattle.rescue.proofs.LieLaws.{new_places, kept_lie, kept_alike}

-- ---- what the places of segments do not change

-- segments, and those of the copy
pub data Anew (new : ℕ → ℕ) : List Segment → List Segment → Type 0 where
  none_anew : Anew new [] []
  one_anew : {ss ts : List Segment} (b : Box) (s : Segment) → Anew new ss ts → Anew new (s ∷ ss) (segment_anew new b s ∷ ts)

-- a segment beside a known size
abbrev under : ℕ → Segment → Bool
under n s = leb (end_of s) n && (not (gives_size s) || eqb (end_of s) n)

module _ (new : ℕ → ℕ) (b : Box) (s : Segment) where
  anew_ends : end_of (segment_anew new b s) ≡ end_of s
  unfolding end_of
  anew_ends = rw map-map

  anew_gives : gives_size (segment_anew new b s) ≡ gives_size s
  unfolding gives_size is_open
  anew_gives = ap (λ (t : Bool). is_last s.flags && not t) (go s.chunks)
    where
      go : (cs : List Chunk) → ◌≡◌ {A = Bool} (elim (map (chunk_anew new) cs) [ [] ↦ true | _ ∷ _ ↦ false ]) (elim cs [ [] ↦ true | _ ∷ _ ↦ false ])
      go [] = refl
      go (c ∷ cs) = refl

module _ {new : ℕ → ℕ} where
  pub anew_long : {ss ts : List Segment} → Anew new ss ts → length ts ≡ length ss
  anew_long none_anew = refl
  anew_long (one_anew b s rest) = ap suc (anew_long rest)

  pub anew_many : {ss ts : List Segment} → Anew new ss ts → length (chunks_of ts) ≡ length (chunks_of ss)
  unfolding chunks_of
  anew_many none_anew = refl
  anew_many (one_anew b s rest) = simp (length-append, length-map, anew_many rest)

  pub anew_count : {ss ts : List Segment} → Anew new ss ts → source_count ts ≡ source_count ss
  unfolding source_count largest
  anew_count none_anew = refl
  anew_count (one_anew b s rest) = ap (max (suc s.source)) (anew_count rest)

  anew_among : {ss ts : List Segment} → Anew new ss ts → (next : ℕ) (us : List (List ℕ)) → source_among next ts us ≡ source_among next ss us
  unfolding source_among
  anew_among none_anew next us = refl
  anew_among (one_anew b s rest) next us =
      elim (which (same_urls us s.urls)) [ inl e ↦ rw (source_among, e) | inr e ↦ rw (source_among, e) (anew_among rest next us) ]

  pub anew_beside : {ss ts : List Segment} → Anew new ss ts → (us : List (List ℕ)) → source_beside ts us ≡ source_beside ss us
  unfolding source_beside
  anew_beside {ss} a us = rw (anew_count a) (anew_among a (source_count ss) us)

  -- and of each source
  anew_of : {ss ts : List Segment} → Anew new ss ts → (n : ℕ) → Anew new (of_source n ss) (of_source n ts)
  unfolding of_source
  anew_of none_anew n = none_anew
  anew_of (one_anew b s rest) n =
      elim (which (eqb s.source n)) [
        | inl e ↦ rw (of_source, e) (one_anew b s (anew_of rest n))
        | inr e ↦ rw (of_source, e) (anew_of rest n)
      ]

  anew_all : (one two : Segment → Bool) → ((b : Box) (s : Segment) → two (segment_anew new b s) ≡ one s) → {ss ts : List Segment} → Anew new ss ts
      → all_of two ts ≡ all_of one ss
  unfolding all_of
  anew_all one two same none_anew = refl
  anew_all one two same (one_anew b s rest) = rw (same b s, anew_all one two same rest)

  anew_known : {ss ts : List Segment} → Anew new ss ts → known_size ts ≡ known_size ss
  unfolding known_size
  anew_known none_anew = refl
  anew_known (one_anew b s rest) =
      elim (which (gives_size s)) [
        | inl e ↦ rw (known_size, anew_gives new b s, e, anew_ends new b s)
        | inr e ↦ rw (known_size, anew_gives new b s, e) (anew_known rest)
      ]

  anew_agree : {ss ts : List Segment} → Anew new ss ts → agree ts ≡ agree ss
  unfolding agree
  anew_agree {ss} {ts} a = rw (agree, anew_known a) (go (known_size ss))
    where
      go : (known : Option ℕ) → ◌≡◌ {A = Bool} (elim known [ Some n ↦ all_of (under n) ts | None ↦ true ]) (elim known [ Some n ↦ all_of (under n) ss | None ↦ true ])
      go None = refl
      go (Some n) = anew_all (under n) (under n) (λ b s. rw (anew_ends new b s, anew_gives new b s)) a

  pub anew_agreed : {ss ts : List Segment} → Anew new ss ts → agreed ts ≡ agreed ss
  unfolding agreed
  anew_agreed {ss} {ts} a = anew_all (λ s. agree (of_source s.source ss)) (λ s. agree (of_source s.source ts)) (λ b s. anew_agree (anew_of a s.source)) a

-- ---- the bytes that they supply

module _ (f g : List ℕ) (new : ℕ → ℕ) (p : ℕ) where
  -- the bytes of a chunk were carried to its new place
  abbrev Carried : Chunk → Type 0
  Carried c = has_place c.state c.size ≡ true → Alike f c.place g (new c.place) c.size

  chunks_anew : (cs ds es : List Chunk) → ((c : Chunk) → Memᴰ c cs → Carried c) → byte_from g es p ≡ byte_from f ds p
      → byte_from g (map (chunk_anew new) cs ++ es) p ≡ byte_from f (cs ++ ds) p
  unfolding byte_from covers
  chunks_anew [] ds es carried rest = rest
  chunks_anew (c ∷ cs) ds es carried rest =
      elim (which (supplies p c)) [
        | inl e ↦
            let (is-good, covered) = both (eqb c.state good) (covers p c) e in
            let (low, high) = within_true c.start c.size p covered in
            let placed : has_place c.state c.size ≡ true = unfold has_place present in rw (eqb-true c.state good is-good, lt-ltb 0 c.size (omega arith)) in
            rw (byte_from, e, chunk_anew, placed) (ap Some (carried c (Memᴰ.head refl) placed (p - c.start) (omega arith)))
        | inr e ↦ rw (byte_from, e) (chunks_anew cs ds es (λ d there. carried d (Memᴰ.tail there)) rest)
      ]

  bytes_anew : {ss ts : List Segment} → Anew new ss ts → ((s : Segment) → Memᴰ s ss → (c : Chunk) → Memᴰ c s.chunks → Carried c)
      → byte_from g (chunks_of ts) p ≡ byte_from f (chunks_of ss) p
  unfolding chunks_of byte_from
  bytes_anew none_anew carried = refl
  bytes_anew (one_anew {ss} {ts} b s rest) carried =
      chunks_anew s.chunks (chunks_of ss) (chunks_of ts) (carried s (Memᴰ.head refl)) (bytes_anew rest (λ t there. carried t (Memᴰ.tail there)))

-- ---- a file without an index

module _ (limit : ℕ) (f : List ℕ) where
  lacks_index : (bs : List Box) → has_index bs ≡ false → those fidx bs ≡ []
  unfolding has_index
  lacks_index bs e = go (those fidx bs) (ltb-false 0 (length (those fidx bs)) e)
    where
      go : (cs : List Box) → length cs ≤ 0 → cs ≡ []
      go [] few = refl
      go (c ∷ cs) few = absurd (omega arith)

  index_less : (size : List (List ℕ) → Option ℕ) (us : List (List ℕ)) (c : Container) (bs : List Box) (start : ℕ)
      → rule_in rules c fidx ≡ AtMostOne → has_index bs ≡ false → index_for limit f size us c bs start ≡ given []
  unfolding index_for belonging
  index_less size us c bs start rule e =
      let lacks = lacks_index bs e in
      rw (index_none limit f bs lacks c (size us) start (few_right c fidx bs rule (rw lacks (omega arith))))

  segments-index_less : (size : List (List ℕ) → Option ℕ) (ss : List Segment) → Each (λ s. has_index s.inner ≡ false) ss
      → index_of_segments limit f size ss ≡ given []
  unfolding index_of_segments
  segments-index_less size [] less = refl
  segments-index_less size (s ∷ ss) (here, there) =
      rw (index_less size s.urls Pseg s.inner s.source_offset refl here, segments-index_less size ss there)

  unindexed_file : (h : Heading) (ss : List Segment) → has_index h.inner ≡ false → Each (λ s. has_index s.inner ≡ false) ss
      → indexed limit f h ss ≡ given []
  unfolding boxes_alone all_of
  unindexed_file h ss here there =
      whole_indexed limit f h ss
      (record {
        in_pfil = index_less (size_for ss) h.urls Pfil h.inner 0 refl here;
        in_segments = segments-index_less (size_for ss) ss there;
        shallow = refl;
        apart = rw here;
        ended = refl;
      })

-- ---- the segments of boxes, and of their copies

module _ (new : ℕ → ℕ) where
  pub anew_fates : (xs : List Fated) → Anew new (segments_of xs) (segments_anew new xs)
  unfolding segments_of segments_anew
  anew_fates [] = none_anew
  anew_fates (x ∷ xs) = go x.fate (anew_fates xs)
    where
      go : (fate : Fate) → Anew new (segments_of xs) (segments_anew new xs)
          → Anew new (segments_of (record { box = x.box; fate = fate } ∷ xs)) (segments_anew new (record { box = x.box; fate = fate } ∷ xs))
      go (dropped n) rest = rest
      go whole rest = rest
      go (of_pfil inner) rest = rest
      go (of_pseg s) rest = one_anew x.box s rest

  pub anew_split : (before behind : List Fated) → segments_anew new (before ++ behind) ≡ segments_anew new before ++ segments_anew new behind
  unfolding segments_anew
  anew_split [] behind = refl
  anew_split (x ∷ xs) behind = go x.fate (anew_split xs behind)
    where
      go : (fate : Fate) → segments_anew new (xs ++ behind) ≡ segments_anew new xs ++ segments_anew new behind
          → segments_anew new (record { box = x.box; fate = fate } ∷ (xs ++ behind)) ≡ segments_anew new (record { box = x.box; fate = fate } ∷ xs) ++ segments_anew new behind
      go (dropped n) rest = rest
      go whole rest = rest
      go (of_pfil inner) rest = rest
      go (of_pseg s) rest = ap (λ (ts : List Segment). segment_anew new x.box s ∷ ts) rest

pub sizes_more : (before : List Fated) (x : Fated) → sizes (before ++ (x ∷ [])) ≡ sizes before + copy_size x
unfolding sum
sizes_more [] x = omega arith
sizes_more (y ∷ ys) x = omega (arith, sizes_more ys x)

module _ (limit : ℕ) (f : List ℕ) (h : Heading) (opens : opening f ≡ given h) (bytes : (k : ℕ) → get_or f k 0 < 256) where
  abbrev pub segments_back : List Segment
  segments_back = segments_anew (new_places limit f h opens bytes) (fates limit f h)

  abbrev new : ℕ → ℕ
  new = new_places limit f h opens bytes

  abbrev copy : List ℕ
  copy = copied f (fates limit f h)

  abbrev back : Heading
  back = heading_back limit f h opens bytes

  -- the boxes behind the first two
  abbrev others : List Fated
  others = fates_from limit f h [] (drop 2 h.boxes)

  abbrev front : List Fated → List Fated
  front before = first_fated f h opens ∷ second_fated f h opens ∷ before

  -- ---- each of them reads back

  module _ (before : List Fated) (x : Fated) (behind : List Fated) (split : others ≡ before ++ (x ∷ behind)) where
    pub all_split : fates limit f h ≡ front before ++ (x ∷ behind)
    unfolding fates
    all_split = rw split

    pub stands_new : (places : ℕ → ℕ) → Stands (each (copy_of f places) (fates limit f h)) (sizes (front before)) (copy_of f places x)
    stands_new places = rw all_split (copy_stands f places (front before) x behind (rw all_split at (fates_ready limit f h opens bytes places)))

    pub new_there : new x.box.at ≡ sizes (front before)
    new_there = rw all_split (new_at 0 0 (front before) x behind (rw all_split at (fates_chained limit f h opens bytes)) ∙ zero-add (sizes (front before)))

    pub stood_there : Stood f x
    stood_there = each_member (Stood f) (fates limit f h) (fates_stood limit f h opens bytes) x (rw all_split (Memᴰ.append_right (front before) (Memᴰ.head refl)))

    pub fate_there : fate_of limit f h (segments_of before) x.box ≡ x.fate
    fate_there = sym (fate-at limit f h [] (drop 2 h.boxes) before x behind split)

    pub kept_there : (s : Segment) → x.fate ≡ of_pseg s → Memᴰ s (kept_of limit f h)
    unfolding segments_of
    kept_there s e = rw (kept_all limit f h, all_split, segments_split, e) (Memᴰ.append_right (segments_of (front before)) (Memᴰ.head refl))

  pub segment_there : (before : List Fated) (b : Box) (s : Segment) (behind : List Fated) → others ≡ before ++ (record { box = b; fate = of_pseg s } ∷ behind)
      → (at : ℕ) → at ≡ sizes (front before)
      → (segment limit copy back (segments_anew new before) (resized at (copy_size (record { box = b; fate = of_pseg s })) b) ≡ given (segment_anew new b s)) × (has_index (inner_anew new b s) ≡ false)
  unfolding copied
  segment_there before b s behind split at here =
      let x : Fated = record { box = b; fate = of_pseg s } in
      let stood = stood_there before x behind split in
      let (kind, kept) = fate_pseg limit f h (segments_of before) b (fate_there before x behind split) in
      let read = (beside_given limit f h (segments_of before) b kept).1 in
      let low : length f < 2 ^ 32 = omega (arith, (opened f h opens).small) in
      let place = segment_place limit f h (segments_of before) b s stood.end stood.read kind stood.inside low bytes read new in
      let put : new s.place ≡ at = rw place (new_there before x behind split ∙ sym here) in
      let stands : Stands copy (new s.place) (copy_of f new x) = rw (put, here) (stands_new before x behind split new) in
      let anew = anew_fates new before in
      let lie = kept_lie limit f h opens bytes s (kept_there before x behind split s refl) in (
        rw (← put) (segment-back limit f h (segments_of before) b s stood.end stood.read kind stood.inside low bytes read new copy back (segments_anew new before) stands refl (anew_many anew) (anew_beside anew) lie),
        segment-unindexed limit f h (segments_of before) b s stood.end stood.read kind stood.inside low bytes read new copy back (segments_anew new before) stands refl (anew_many anew) (anew_beside anew) lie,
      )

  -- the copies of boxes read on as their segments, none of which has an index
  abbrev ReadsOn : List Segment → List Fated → ℕ → Type 0
  ReadsOn ts behind at =
      (segments_from limit copy back ts (those pseg (boxes_anew at behind)) ≡ given (ts ++ segments_anew new behind))
      × Each (λ s. has_index s.inner ≡ false) (segments_anew new behind)

  one_more : (before : List Fated) (b : Box) (fate : Fate) (behind : List Fated) → others ≡ before ++ (record { box = b; fate = fate } ∷ behind)
      → (at : ℕ) → at ≡ sizes (front before)
      → ReadsOn (segments_anew new before ++ segments_anew new (record { box = b; fate = fate } ∷ [])) behind (at + copy_size (record { box = b; fate = fate }))
      → ReadsOn (segments_anew new before) (record { box = b; fate = fate } ∷ behind) at
  unfolding segments_anew boxes_anew segments_from copy_size is
  one_more before b (dropped n) behind split at here rest = rw (append-nil, add-zero) at rest
  one_more before b whole behind split at here rest =
      let kind = (fate_whole limit f h (segments_of before) b (fate_there before (record { box = b; fate = whole }) behind split)).0 in
      rw (those_other pseg _ _ kind) (rw append-nil at rest)
  one_more before b (of_pfil inner) behind split at here rest =
      absurd (fate_no_pfil limit f h (segments_of before) b (fate_there before (record { box = b; fate = of_pfil inner }) behind split))
  one_more before b (of_pseg s) behind split at here rest =
      let (kind, _) = fate_pseg limit f h (segments_of before) b (fate_there before (record { box = b; fate = of_pseg s }) behind split) in
      let (back-there, bare) = segment_there before b s behind split at here in
      (rw (those_one pseg _ _ kind, back-there) (rest.0 ∙ ap given (append_assoc (segments_anew new before) (segment_anew new b s ∷ []) (segments_anew new behind))), (bare, rest.1))

  reads_on : (behind before : List Fated) → others ≡ before ++ behind → (at : ℕ) → at ≡ sizes (front before) → ReadsOn (segments_anew new before) behind at
  unfolding segments_anew boxes_anew segments_from those
  reads_on [] before split at here = (rw append-nil, tt)
  reads_on (x ∷ behind) before split at here =
      one_more before x.box x.fate behind split at here
      (rw (anew_split new before (x ∷ [])) at (reads_on behind (before ++ (x ∷ [])) (split ∙ sym (append_assoc before (x ∷ []) behind)) (at + copy_size x) (unfold sum in omega (arith, sizes_more before x))))

  pub all_read : ReadsOn [] (fates limit f h) 0
  unfolding fates segments_anew boxes_anew is
  all_read =
      let first : (box_at 0 h.boxes).kind ≡ ftyp.code = eqb-true _ _ (opened f h opens).first in
      let second : (box_at 1 h.boxes).kind ≡ pfil.code = eqb-true _ _ (opened f h opens).second in
      let not_first : is pseg (box_at 0 h.boxes) ≡ false = rw first in
      let not_second : is pseg (box_at 1 h.boxes) ≡ false = rw second in
      rw (those_other pseg _ _ not_first, those_other pseg _ _ not_second) (reads_on others [] refl _ (unfold sum in omega arith))

  pub kept_anew : Anew new (kept_of limit f h) segments_back
  kept_anew = rw (kept_all limit f h) (anew_fates new (fates limit f h))

  -- as many as there are
  psegs_back : length (those pseg back.boxes) ≡ length (kept_of limit f h)
  psegs_back = omega (arith, segments-many limit copy back (those pseg back.boxes) [] all_read.0, anew_long kept_anew)

  pub reads-back : 0 < length (kept_of limit f h) → reading limit (copied f (fates limit f h)) ≡ given segments_back
  reads-back there =
      let (few, agree, layers) = kept_sound limit f h in
      read_reading limit copy
      (record {
        headed = heading-copied limit f h opens bytes;
        there = some_right File pseg back.boxes refl (omega (arith, psegs_back));
        segmented =
            segments-of limit copy back
            (record {
              few = le-leb (length (those pseg back.boxes)) segment_limit (omega (arith, psegs_back));
              read = all_read.0;
              agree = anew_agreed kept_anew ∙ agree;
              layers = le-leb (source_count segments_back) layer_limit (omega (arith, anew_count kept_anew));
            });
        told = unindexed_file limit copy back segments_back (pfil-unindexed f h opens) all_read.1;
      })

  pub only_12 : kept_of limit f h ≡ [] → reading limit (copied f (fates limit f h)) ≡ refused 12
  only_12 empty =
      reading_none limit copy (heading-copied limit f h opens bytes)
      (elim (which (right File pseg back.boxes)) [
        | inl there ↦ absurd (omega (arith, right_some File pseg back.boxes refl there, psegs_back, ap length empty))
        | inr lacks ↦ lacks
      ])

  -- what the copy supplies is what the kept segments supply, with its old bytes
  pub served-back : (source p : ℕ) → served (copied f (fates limit f h)) (of_source source segments_back) p ≡ served f (of_source source (kept_of limit f h)) p
  served-back source p =
      let kept = of_source source (kept_of limit f h) in
      served_from copy (of_source source segments_back) p
      ∙ bytes_anew f copy new p (anew_of kept_anew source) (λ s there. kept_alike limit f h opens bytes s (member_of source (kept_of limit f h) s there).0)
      ∙ sym (served_from f kept p)
