-- A segment that append adds reads back: the longer file has the segments of the file before and then the new one.
use Prim.Native.Nat.{ℕ, ◌+◌, ◌^◌, ◌≤◌, ◌<◌}
use mathlib.Core.Bool.{Bool, true, false, ◌&&◌}
use mathlib.Core.List.{List, [], ◌∷◌, ◌++◌, map}
use mathlib.Core.Path.{◌≡◌, refl, sym, ap, subst, ◌∙◌}
use native.Mathlib.Decide.{dec_le}
use native.Mathlib.Omega.{arith}
use borrow.Author.Tests.{le-leb, lt-leb, leb-true, lt-ltb, ltb-true}
use lib.Dec.{leb, ltb, eqb}
use lib.ListN.{length, take, drop, length-append}
use lib.Seq.{length-take-le, take_at}
use Rattle.boxes.specs.Answer.{Answer, refused, given, ◌>>=◌, hold}
use Rattle.boxes.specs.Framing.{Box, box_limit}
use Rattle.boxes.specs.Kinds.{ftyp, pfil, pseg, pdat, is, right, those}
use Rattle.boxes.specs.declared.kinds.Container.TheVariants.{File}
use Rattle.boxes.specs.declared.kinds.Kind.{Kind}
use Rattle.boxes.proofs.AnswerLaws.{both_given, held, given_same}
use Rattle.boxes.proofs.KindLaws.{those-append, those_one, is-eqb, some_right, those-nil, those_other}
use Rattle.boxes.proofs.ContainerLaws.{Filled, boxes_filled, boxes_crowded}
use Rattle.partial.specs.Limits.{file_limit, segment_limit, chunk_limit, layer_limit}
use Rattle.partial.specs.Sequences.{all_of, sum}
use Rattle.partial.specs.Segments.{Segment, end_of, chunks_of}
use Rattle.partial.specs.Heading.{Heading, heading, file_boxes}
use Rattle.partial.specs.Mixed.{allowed}
use Rattle.partial.specs.Sources.{source_count, agreed}
use Rattle.partial.specs.Index.{SourceBox, indexed}
use Rattle.partial.specs.Reading.{segment, segments_from, segments, reading, earlier_segments}
use Rattle.additions.specs.Append.{admitted}
use Rattle.partial.specs.Memory.{after, filled}
use Rattle.additions.specs.Begin.{is_text}
use Rattle.additions.specs.Addition.{items, Addition, list_right, lengths_right, lists_right, data_right, texts_right, bytes_right, outside_right}
use Rattle.additions.specs.Append.{added_boxes, inner_boxes, added, new_urls, new_segment, appended, result, admission, pseg_place, placed}
use Rattle.additions.specs.Runs.{lent, file_in, size_after, append}
use Rattle.additions.specs.Demands.{Taking, Sound}
use Rattle.partial.proofs.Meaning.SequenceLaws.{both, passes}
use Rattle.additions.proofs.PlacedLaws.{list_formed, sizes_placed}
use Rattle.partial.proofs.Reading.HeadingAppendLaws.{headed, heading-of, headed_appended, inner_lie, lies, boxes_lie, those_all, with_boxes}
use Rattle.partial.proofs.Reading.KeptLaws.{segmented, segments_kept, segments_inside}
use Rattle.partial.proofs.Reading.IndexKeptLaws.{then-known}
use Rattle.partial.proofs.Reading.IndexedLaws.{indexed_kept}
use Rattle.partial.proofs.Reading.ReadingLaws.{reading_headless, reading_some}
use Rattle.partial.proofs.Reading.LimitLaws.{segments-many}
use Rattle.partial.proofs.Reading.RefusalLaws.{earlier_read}
use Rattle.additions.proofs.FieldsBackLaws.{sizes_eight}
use Rattle.additions.proofs.WholeLaws.{allowed_other, filled_row, row_starts}
use Rattle.additions.proofs.AddedBoxesLaws.{segment_box, new_boxes, boxes_added, added_moved, those_new, data_low, length-added}
use Rattle.additions.proofs.AddedBoxesLaws.{added-many, lie_longer, lie_new, out_lie}
use Rattle.additions.proofs.NewSegmentLaws.{Sayable, length_new, urls_new, new-segment, end_new, no_index_new, new_longer}

-- segments are read box by box
module _ (limit : ℕ) (f : List ℕ) (h : Heading) where
  segments_on : (bs cs : List Box) (before : List Segment) {ss : List Segment} → segments_from limit f h before bs ≡ given ss
      → segments_from limit f h before (bs ++ cs) ≡ segments_from limit f h ss cs
  unfolding segments_from
  segments_on [] cs before e = ap (λ (ss : List Segment). segments_from limit f h ss cs) (given_same e)
  segments_on (b ∷ bs) cs before e =
      let (s, read, e1) = both_given (segment limit f h before b) _ e in
      rw read (segments_on bs cs (before ++ (s ∷ [])) e1)

-- an addition, right in itself, to a file that append takes
pub record Offered (limit : ℕ) (f : List ℕ) (h : Heading) (ss : List Segment) (a : Addition) : Type 0 where
  pub headed : heading f ≡ given h
  pub before : earlier_segments limit f ≡ given ss
  pub list : list_right a.list ≡ true
  pub lengths : lengths_right a.lengths ≡ true
  pub carried : data_right a ≡ true
  pub texts : texts_right a ≡ true
  pub outside : outside_right h a ≡ true
  pub text : is_text a.texts ≡ true

-- it has the tests of 31 and 32 two by two
module _ (limit : ℕ) (f : List ℕ) (h : Heading) (ss : List Segment) (a : Addition) where
  pub offered_of : heading f ≡ given h → earlier_segments limit f ≡ given ss → Sound h a → Offered limit f h ss a
  unfolding lists_right bytes_right
  offered_of head before sound =
      let (list, lengths) = both (list_right a.list) (lengths_right a.lengths) (passes _ sound.lists) in
      let (carried, texts) = both (data_right a) (texts_right a) (passes _ sound.bytes) in
      record {
        headed = head;
        before = before;
        list = list;
        lengths = lengths;
        carried = carried;
        texts = texts;
        outside = passes _ sound.outside;
        text = passes _ sound.texts;
      }

  pub lists_offered : Offered limit f h ss a → lists_right a ≡ true
  unfolding lists_right
  lists_offered t = rw (t.list, t.lengths)

  pub bytes_offered : Offered limit f h ss a → bytes_right a ≡ true
  unfolding bytes_right
  bytes_offered t = rw (t.carried, t.texts)

  pub sound_offered : Offered limit f h ss a → Sound h a
  sound_offered t = record { lists = rw (lists_offered t) tt; bytes = rw (bytes_offered t) tt; outside = rw t.outside tt; texts = rw t.text tt }

-- and one that is admitted, beside an index that is told
pub record Taken (limit : ℕ) (f : List ℕ) (h : Heading) (ss : List Segment) (a : Addition) : Type 0 where
  pub offered : Offered limit f h ss a
  pub admits : admission limit h ss (length f) a ≡ given (ss ++ (new_segment h ss (pseg_place (length f) a) a ∷ []))
  pub index : (is : List SourceBox) × (indexed limit f h (ss ++ (new_segment h ss (pseg_place (length f) a) a ∷ [])) ≡ given is)

-- what admission tests
pub record Admits (limit : ℕ) (h : Heading) (ss : List Segment) (n : ℕ) (a : Addition) : Type 0 where
  pub small : n + length (added a) ≤ file_limit
  pub boxes : length h.boxes + added_boxes a ≤ box_limit
  pub inner : inner_boxes a ≤ box_limit
  pub few : length ss + 1 ≤ segment_limit
  pub listed : 0 < length (new_urls h a)
  pub chunks : length (chunks_of ss) + length (items a.list) ≤ chunk_limit
  pub low : a.source_offset + sum (map (λ i. i.size) (items a.list)) ≤ limit
  pub agreed : agreed (ss ++ (new_segment h ss (pseg_place n a) a ∷ [])) ≡ true
  pub layers : source_count (ss ++ (new_segment h ss (pseg_place n a) a ∷ [])) ≤ layer_limit

module _ (limit : ℕ) (h : Heading) (ss : List Segment) (n : ℕ) (a : Addition) where
  pub admits : {ts : List Segment} → admission limit h ss n a ≡ given ts → Admits limit h ss n a × (ts ≡ ss ++ (new_segment h ss (pseg_place n a) a ∷ []))
  unfolding admission admitted
  admits e =
      let new : Segment = new_segment h ss (pseg_place n a) a in
      let (small, e6) = held 1 (leb (n + length (added a)) file_limit) _ e in
      let (boxes-both, e7) = held 6 (leb (length h.boxes + added_boxes a) box_limit && leb (inner_boxes a) box_limit) _ e6 in
      let (boxes, inner) = both (leb (length h.boxes + added_boxes a) box_limit) (leb (inner_boxes a) box_limit) boxes-both in
      let (few, e8) = held 13 (leb (length ss + 1) segment_limit) _ e7 in
      let (listed, e9) = held 41 (ltb 0 (length new.urls)) _ e8 in
      let (chunks, e10) = held 22 (leb (length (chunks_of ss) + length new.chunks) chunk_limit) _ e9 in
      let (low, e11) = held 23 (leb (end_of new) limit) _ e10 in
      let (agreed, e12) = held 25 (agreed (ss ++ (new ∷ []))) _ e11 in
      let (layers, e13) = held 40 (leb (source_count (ss ++ (new ∷ []))) layer_limit) _ e12 in (
        record {
          small = leb-true (n + length (added a)) file_limit small;
          boxes = leb-true (length h.boxes + added_boxes a) box_limit boxes;
          inner = leb-true (inner_boxes a) box_limit inner;
          few = leb-true (length ss + 1) segment_limit few;
          listed = rw (urls_new h ss (pseg_place n a) a) at (ltb-true 0 (length new.urls) listed);
          chunks = rw (length_new h ss (pseg_place n a) a) at (leb-true (length (chunks_of ss) + length new.chunks) chunk_limit chunks);
          low = rw (end_new h ss (pseg_place n a) a) at (leb-true (end_of new) limit low);
          agreed = agreed;
          layers = leb-true (source_count (ss ++ (new ∷ []))) layer_limit layers;
        },
        sym (given_same e13),
      )

  pub admission-of : Admits limit h ss n a → admission limit h ss n a ≡ given (ss ++ (new_segment h ss (pseg_place n a) a ∷ []))
  unfolding admission admitted
  admission-of t =
      rw (
        le-leb (n + length (added a)) file_limit t.small,
        le-leb (length h.boxes + added_boxes a) box_limit t.boxes,
        le-leb (inner_boxes a) box_limit t.inner,
        le-leb (length ss + 1) segment_limit t.few,
        ap (λ (us : List (List ℕ)). ltb 0 (length us)) (urls_new h ss (pseg_place n a) a) ∙ lt-ltb 0 (length (new_urls h a)) t.listed,
        length_new h ss (pseg_place n a) a,
        le-leb (length (chunks_of ss) + length (items a.list)) chunk_limit t.chunks,
        end_new h ss (pseg_place n a) a,
        le-leb (a.source_offset + sum (map (λ i. i.size) (items a.list))) limit t.low,
        t.agreed,
        le-leb (source_count (ss ++ (new_segment h ss (pseg_place n a) a ∷ []))) layer_limit t.layers,
      )

-- what is admitted is the segment behind those before it
pub admitted_given : (limit : ℕ) (ss : List Segment) (s : Segment) {ts : List Segment} → admitted limit ss s ≡ given ts → ts ≡ ss ++ (s ∷ [])
unfolding admitted
admitted_given limit ss s e =
    let (_, e1) = held 13 (leb (length ss + 1) segment_limit) _ e in
    let (_, e2) = held 41 (ltb 0 (length s.urls)) _ e1 in
    let (_, e3) = held 22 (leb (length (chunks_of ss) + length s.chunks) chunk_limit) _ e2 in
    let (_, e4) = held 23 (leb (end_of s) limit) _ e3 in
    let (_, e5) = held 25 (agreed (ss ++ (s ∷ []))) _ e4 in
    sym (given_same (held 40 (leb (source_count (ss ++ (s ∷ []))) layer_limit) _ e5).1)

-- an accepted addition is one to a file that append takes, and there is room for it
pub taken_any : (limit : ℕ) (buffer : List ℕ) (n : ℕ) (a : Addition) (size : ℕ) → appended limit buffer n a ≡ given size
    → (h : Heading) × (ss : List Segment) × Taken limit (take n buffer) h ss a × (n ≡ length (take n buffer)) × (size ≡ n + length (added a))
    × (size ≤ length buffer)
unfolding appended
taken_any limit buffer n a size e =
    let f : List ℕ = take n buffer in
    let (lent-enough, e1) = held 30 (leb n (length buffer)) _ e in
    let (h, head, e2) = both_given (heading f) _ e1 in
    let (ss, before, e3) = both_given (earlier_segments limit f) _ e2 in
    let (lists, e4) = held 31 (lists_right a) _ e3 in
    let (bytes, e5) = held 32 (bytes_right a) _ e4 in
    let (outer, e6) = held 35 (outside_right h a) _ e5 in
    let (text, e7) = held 34 (is_text a.texts) _ e6 in
    let (us, admitted-there, e8) = both_given (admission limit h ss n a) _ e7 in
    let (is, told, e9) = both_given (indexed limit f h us) _ e8 in
    let (room, e10) = held 33 (leb (n + length (added a)) (length buffer)) _ e9 in
    let long : length f ≡ n = length-take-le n buffer (leb-true n (length buffer) lent-enough) in
    let (ok, same) = admits limit h ss n a {ts = us} admitted-there in
    let sound : Sound h a = record { lists = rw lists tt; bytes = rw bytes tt; outside = rw outer tt; texts = rw text tt } in
    let total = given_same e10 in (
      h,
      ss,
      record {
        offered = offered_of limit f h ss a head before sound;
        admits = rw long (admission-of limit h ss n a ok);
        index = (is, rw long (ap (indexed limit f h) (sym same) ∙ told));
      },
      sym long,
      sym total,
      omega (arith, leb-true (n + length (added a)) (length buffer) room),
    )

-- of a file whose heading and segments are known
pub taken : (limit : ℕ) (buffer : List ℕ) (n : ℕ) (a : Addition) (size : ℕ) (h : Heading) (ss : List Segment) → heading (take n buffer) ≡ given h
    → earlier_segments limit (take n buffer) ≡ given ss
    → appended limit buffer n a ≡ given size
    → Taken limit (take n buffer) h ss a × (n ≡ length (take n buffer)) × (size ≡ n + length (added a))
taken limit buffer n a size h ss head before e =
    let (k, ts, t, long, total, _) = taken_any limit buffer n a size e in
    let same_head : k ≡ h = given_same (sym t.offered.headed ∙ head) in
    let same : ts ≡ ss = given_same (sym t.offered.before ∙ before) in
    (subst (λ us. Taken limit (take n buffer) h us a) same (subst (λ (j : Heading). Taken limit (take n buffer) j ts a) same_head t), long, total)

module _ (limit : ℕ) (f : List ℕ) (h : Heading) (ss : List Segment) (a : Addition) where
  -- the heading of the longer file
  abbrev pub grown_heading : Heading
  grown_heading = with_boxes h (new_boxes (length f) a)

  abbrev new_box : Box
  new_box = segment_box (length f) a

  -- of the new boxes the last alone is a `pseg`
  new_psegs : those pseg (new_box ∷ []) ≡ new_box ∷ []
  new_psegs = those_one pseg new_box [] (is-eqb pseg new_box) ∙ ap (λ (bs : List Box). new_box ∷ bs) (those-nil pseg)

  module _ (t : Offered limit f h ss a) where
    -- the segments of the file before
    before : segments_from limit f h [] (those pseg h.boxes) ≡ given ss
    before = (segmented limit f h (earlier_read limit f t.headed t.before)).read

    psegs_added : those pseg grown_heading.boxes ≡ those pseg h.boxes ++ (new_box ∷ [])
    psegs_added =
        those-append pseg h.boxes (new_boxes (length f) a)
        ∙ ap (λ (bs : List Box). those pseg h.boxes ++ bs) (those_new h a t.list t.carried t.outside (length f) pseg refl (λ b free. (allowed_other b free).2) ∙ new_psegs)

    -- and none of them is of a kind that the file has once
    none_new : (k : Kind) → eqb pdat.code k.code ≡ false → eqb pseg.code k.code ≡ false → ((b : Box) → allowed b ≡ true → is k b ≡ false)
        → those k (new_boxes (length f) a) ≡ []
    none_new k no-data no-segment free =
        those_new h a t.list t.carried t.outside (length f) k no-data free ∙ those_other k new_box [] (is-eqb k new_box ∙ no-segment) ∙ those-nil k

    pseg_there : right File pseg grown_heading.boxes ≡ true
    pseg_there =
        let long = length-append (those pseg h.boxes) (new_box ∷ []) in
        some_right File pseg grown_heading.boxes refl (rw psegs_added (omega arith))

    heading-large : file_limit < length f + length (added a) → heading (f ++ added a) ≡ refused 1
    unfolding heading file_boxes
    heading-large over = rw (lt-leb (length (f ++ added a)) file_limit (rw length-append over))

    module _ (small : length f + length (added a) ≤ file_limit) where
      new_filled : Filled File (added a) (length (added a)) 0 (new_boxes 0 a)
      new_filled = boxes_added h a t.list t.carried t.outside (omega arith)

      heading_crowded : box_limit < length h.boxes + added_boxes a → heading (f ++ added a) ≡ refused 6
      unfolding heading file_boxes
      heading_crowded over =
          let head = headed f h t.headed in
          rw (
            le-leb (length (f ++ added a)) file_limit (rw length-append small),
            boxes_crowded File f (added a) head.boxes new_filled (rw (added-many a) over),
          )

      pub heading-added : length h.boxes + added_boxes a ≤ box_limit → heading (f ++ added a) ≡ given grown_heading
      heading-added room =
          let moved-there = added_moved a (length f) in
          heading-of (f ++ added a) grown_heading
          (rw moved-there at
          (headed_appended f (added a) h (new_boxes 0 a) (headed f h t.headed) (rw length-append small) new_filled (rw (added-many a) room)
          (rw moved-there (none_new ftyp refl refl (λ b free. (allowed_other b free).0))) (rw moved-there (none_new pfil refl refl (λ b free. (allowed_other b free).1)))))

      -- nothing of its index changes, with the new segment beside the others
      index-added : let ts = ss ++ (new_segment h ss (pseg_place (length f) a) a ∷ []) in
          indexed limit (f ++ added a) grown_heading ts ≡ indexed limit f h ts
      unfolding all_of
      index-added =
          let n = length f in
          let old : List Box = those pseg h.boxes in
          let head = headed f h t.headed in
          let lie = those_all pseg (lies n) h.boxes (boxes_lie File f 0 n h.boxes head.boxes) in
          let new : Segment = new_segment h ss (pseg_place n a) a in
          indexed_kept f (added a) limit h grown_heading refl refl new (no_index_new h ss (pseg_place n a) a) ss (inner_lie f h head) (segments_inside limit f h old [] lie refl before)

      segments-added : Sayable a
          → inner_boxes a ≤ box_limit
          → segments limit (f ++ added a) grown_heading ≡ admitted limit ss (new_segment h ss (pseg_place (length f) a) a)
      unfolding segments segments_from admitted
      segments-added says few =
          let n = length f in
          let new : Segment = new_segment h ss (pseg_place n a) a in
          let old : List Box = those pseg h.boxes in
          let framed = (headed f h t.headed).boxes in
          let lie = those_all pseg (lies n) h.boxes (boxes_lie File f 0 n h.boxes framed) in
          let first = row_starts 0 n h.boxes (filled_row (omega arith) (boxes_filled File f 0 n framed)) n (omega arith) in
          let kept = segments_kept f (added a) h grown_heading refl (lie_longer h (new_boxes n a)) limit old [] ss lie before in
          let many = segments-many limit f h old [] before in
          let long : length (old ++ (new_box ∷ [])) ≡ length ss + 1 = length-append old (new_box ∷ []) ∙ omega arith in
          let size = length-added a in
          let longer = new_longer h ss (pseg_place n a) a (new_boxes n a) in
          let read-new = rw longer at (new-segment limit f grown_heading ss a says few t.text (list_formed a.list t.list) (omega arith) t.carried (omega (arith, data_low a t.carried)) (lie_new h n a t.carried) (out_lie h a t.list t.carried t.outside n first)) in
          rw (psegs_added, long, segments_on limit (f ++ added a) grown_heading old (new_box ∷ []) [] kept, read-new)
          (go (leb (length ss + 1) segment_limit) (ltb 0 (length new.urls)) (leb (length (chunks_of ss) + length new.chunks) chunk_limit) (leb (end_of new) limit))
        where
          last : List Segment → Answer (List Segment)
          last ts = hold 25 (agreed ts) >>= λ _. hold 40 (leb (source_count ts) layer_limit) >>= λ _. given ts

          go : (few listed chunks low : Bool)
              → (hold 13 few
              >>= λ _. (hold 41 listed >>= λ _. hold 22 chunks >>= λ _. hold 23 low >>= λ _. given (new_segment h ss (pseg_place (length f) a) a)) >>= (λ s. given (ss ++ (s ∷ []))) >>= last)
              ≡ (hold 13 few >>= λ _. hold 41 listed >>= λ _. hold 22 chunks >>= λ _. hold 23 low >>= λ _. last (ss ++ (new_segment h ss (pseg_place (length f) a) a ∷ [])))
          go true true true true = refl
          go true true true false = refl
          go true true false low = refl
          go true false chunks low = refl
          go false listed chunks low = refl

    -- reading the longer file: the refusals that the result would have, in their order, or its segments
    pub reading-result : Sayable a → inner_boxes a ≤ box_limit → reading limit (f ++ added a) ≡ (admission limit h ss (length f) a >>= λ ts. indexed limit f h ts >>= λ _. given ts)
    unfolding admission
    reading-result says few =
        let size : ℕ = length f + length (added a) in
        let many : ℕ = length h.boxes + added_boxes a in
        elim (dec_le size file_limit) [
          | no over ↦ reading_headless limit (f ++ added a) (heading-large (omega arith)) ∙ rw (lt-leb size file_limit (omega arith))
          | yes small ↦
              elim (dec_le many box_limit) [
                | no over ↦
                    reading_headless limit (f ++ added a) (heading_crowded small (omega arith))
                    ∙ rw (le-leb size file_limit small, lt-leb many box_limit (omega arith))
                | yes room ↦
                    reading_some limit (f ++ added a) (heading-added small room) pseg_there
                    ∙ rw (segments-added small says few, le-leb size file_limit small, le-leb many box_limit room, le-leb (inner_boxes a) box_limit few)
                    (then-known (admitted limit ss (new_segment h ss (pseg_place (length f) a) a)) _ _ (λ ts e.
                    let same = admitted_given limit ss (new_segment h ss (pseg_place (length f) a) a) e in
                    rw same (ap (λ (x : Answer (List SourceBox)). x >>= λ _. given (ss ++ (new_segment h ss (pseg_place (length f) a) a ∷ []))) (index-added small))))
              ]
        ]

-- an accepted addition can be said
pub taken_sayable : (limit : ℕ) (f : List ℕ) (h : Heading) (ss : List Segment) (a : Addition) → Taken limit f h ss a → limit < 2 ^ 64 → a.repair_time < 2 ^ 64 → Sayable a
taken_sayable limit f h ss a t below time =
    let (ok, same) = admits limit h ss (length f) a t.admits in
    record { offset = omega arith; time = time; sizes = sizes_eight (placed a.outside (items a.list)) (rw sizes_placed (omega arith)); count = omega arith }

pub reading-added : (limit : ℕ) (f : List ℕ) (h : Heading) (ss : List Segment) (a : Addition) → Taken limit f h ss a → Sayable a
    → reading limit (f ++ added a) ≡ given (ss ++ (new_segment h ss (pseg_place (length f) a) a ∷ []))
reading-added limit f h ss a t says =
    reading-result limit f h ss a t.offered says (admits limit h ss (length f) a t.admits).0.inner ∙ rw (t.admits, t.index.1)

-- the file that an accepted addition leaves
pub file_after : (limit : ℕ) (buffer : List ℕ) (n : ℕ) (a : Addition) (size : ℕ) → appended limit buffer n a ≡ given size → n ≡ length (take n buffer)
    → size ≡ n + length (added a)
    → file_in (append limit (lent buffer n) a) ≡ take n buffer ++ added a
unfolding append file_in size_after after result filled
file_after limit buffer n a size e long total =
    let whole : length (take n buffer ++ added a) ≡ size = rw (length-append, total) (ap (λ (m : ℕ). m + length (added a)) (sym long)) in
    rw e (take_at (take n buffer ++ added a) (drop (length (take n buffer ++ added a)) buffer) size whole)

-- a segment that our writer adds reads back with its fields, its chunks, the boxes inside and its source
pub reads-back : (limit : ℕ) → limit < 2 ^ 64 → (buffer : List ℕ) (n : ℕ) (a : Addition) (size : ℕ) (file : Taking limit buffer n)
    → a.repair_time < 2 ^ 64
    → appended limit buffer n a ≡ given size
    → reading limit (file_in (append limit (lent buffer n) a)) ≡ given (file.ss ++ (new_segment file.h file.ss (pseg_place n a) a ∷ []))
unfolding file_in
reads-back limit below buffer n a size file time e =
    let h = file.h in
    let ss = file.ss in
    let (t, long, total) = taken limit buffer n a size h ss file.headed file.before e in
    rw (file_after limit buffer n a size e long total)
    (reading-added limit (take n buffer) h ss a t (taken_sayable limit (take n buffer) h ss a t below time) ∙ ap (λ (m : ℕ). given (ss ++ (new_segment h ss (pseg_place m a) a ∷ []))) (sym long))
