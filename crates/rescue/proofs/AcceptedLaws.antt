-- Every segment of an acceptable file is kept, and where nothing else is in it, it is its own copy.
use Prim.Native.Nat.{ℕ, zero, suc, ◌+◌, ◌-◌, ◌%◌, ◌<◌, ◌≤◌}
use mathlib.Core.Bool.{true, false, ◌&&◌, true≢false}
use mathlib.Core.List.Memᴰ
use mathlib.Core.List.{List, [], ◌∷◌, ◌++◌, append-nil, append_assoc}
use mathlib.Core.Logic.{inl, inr, ⊎_elim}
use Rattle.std.specs.Prelude.{None}
use mathlib.Core.Path.{◌≡◌, refl, sym, ap, ◌∙◌}
use native.Mathlib.Decide.{dec_le}
use native.Mathlib.Omega.{arith}
use borrow.Author.Tests.{le-leb, leb-true, lt-ltb, eqb-true}
use lib.Dec.{leb, eqb, lit<}
use lib.ListN.{length, get_or, take, drop, take-append-drop, length-append, length-drop}
use lib.Seq.{length-take-le, get_or-take, get_or-drop}
use Rattle.boxes.specs.Answer.{given}
use Rattle.boxes.specs.declared.kinds.Container.TheVariants.{File, Pfil}
use Rattle.boxes.specs.declared.kinds.Container.{Container}
use Rattle.boxes.specs.declared.kinds.Kind.{Kind}
use Rattle.boxes.specs.Framing.{Box, Walked, boxes_in, box_limit}
use Rattle.boxes.specs.Kinds.{ftyp, pfil, pseg, pdat, is, right, those, no_box, box_at}
use Rattle.boxes.proofs.AnswerLaws.{both_given, given_same}
use Rattle.boxes.proofs.ContainerLaws.{Filled, full, next, boxes_filled, filled_boxes, boxes_same, boxes_standing, boxes_apart}
use Rattle.boxes.proofs.FaultLaws.{no-fault}
use Rattle.boxes.proofs.HeaderLaws.{header_inside}
use Rattle.boxes.proofs.KindLaws.{is_there, those-nil, those_one, those_other, right_one}
use Rattle.partial.specs.Heading.{Heading, heading, ftyp_right, brand_right, branded, pfil_right}
use Rattle.partial.specs.Limits.{file_limit, segment_limit, layer_limit}
use Rattle.partial.specs.Mixed.{allowed}
use Rattle.partial.specs.Reading.{segment, segments_from, segments}
use Rattle.partial.specs.ReadingDemands.{InData}
use Rattle.partial.specs.Segments.{Chunk, Segment, good, present, has_place, chunks_of}
use Rattle.partial.specs.Sequences.{some_of, all_of}
use Rattle.partial.specs.Sources.{source_count, agreed}
use Rattle.partial.proofs.Meaning.MappedLaws.{lies, may_be}
use Rattle.partial.proofs.Meaning.SequenceLaws.{which, both, passes, Each, none_by, largest-append}
use Rattle.partial.proofs.Meaning.SourceLaws.{in-agreement, agreement}
use Rattle.partial.proofs.Reading.HeadingAppendLaws.{Headed, headed, heading-of, brand_kept}
use Rattle.partial.proofs.Reading.KeptLaws.{segmented}
use Rattle.partial.proofs.Reading.LimitLaws.{segments_limited}
use Rattle.rescue.specs.Kept.{whole, of_pseg, lies_in, walk_of, framed, opening, beside, kept_with, kept_from, kept_of, fate_of, fates_from, fates}
use Rattle.rescue.specs.Copy.{salvage}
use Rattle.rescue.specs.Lines.{salvage_text}
use Rattle.rescue.specs.Demands.{OnlyData, Bare}
use Rattle.rescue.proofs.Shapes.{Paired}
use Rattle.rescue.proofs.CarriedLaws.{paired_pfhd, paired_surls, paired_urls}
use Rattle.rescue.proofs.CopyLaws.{staying}
use Rattle.rescue.proofs.FateLaws.{fate_data, fate_lain}
use Rattle.rescue.proofs.FramedLaws.{faultless-framed}
use Rattle.rescue.proofs.JudgedLaws.{cut-behind, kept_lying}
use Rattle.rescue.proofs.LineLaws.{lines_none}
use Rattle.rescue.proofs.LieLaws.{each_by}
use Rattle.rescue.proofs.WholeLaws.{two_first}
use Rattle.rescue.proofs.SameLaws.{Clean, copy_same}
use Rattle.rescue.proofs.HeadingLaws.{cut-filled, Says, says, other_kind, ftyp-right, pfil-right}

-- ---- an acceptable file opens

-- boxes that fill a container stand in another file that has the same bytes up to its end
filled_paired : (c : Container) (f g : List ℕ) (end : ℕ) → ((i : ℕ) → i < end → get_or g i 0 ≡ get_or f i 0) → {at : ℕ} {bs : List Box} → Filled c f end at bs → Paired f g bs bs
filled_paired c f g end same (full e) = tt
filled_paired c f g end same (next {at = at} {b = b} short read rest) =
    let i = header_inside c f at end read in
    let user : b.at + (b.user - b.at) ≡ b.user = omega arith in
    let body : b.at + (b.body - b.at) ≡ b.body = omega arith in
    let ends : b.at + (b.end - b.at) ≡ b.end = omega arith in (
      record { typed = omega arith; headed = omega arith; ended = i.whole; same = rw (user, body, ends); bytes = λ _ k less. same (b.at + k) (omega arith) },
      filled_paired c f g end same rest,
    )

module _ (f : List ℕ) (h : Heading) (head : heading f ≡ given h) where
  accepted_walk : walk_of f ≡ record { boxes = h.boxes; fault = None }
  unfolding walk_of boxes_in
  accepted_walk = no-fault (walk_of f) (headed f h head).boxes

  pub accepted_faultless : (walk_of f).fault ≡ None
  accepted_faultless = ap (λ (w : Walked). w.fault) accepted_walk

  pub accepted_framed : framed f ≡ f
  accepted_framed = faultless-framed f accepted_faultless

  accepted_says : Says f (box_at 0 h.boxes) (box_at 1 h.boxes) h.inner h.urls h.mixed
  accepted_says = rw append-nil at (says f [] h (headed f h head))

  -- its second box is `pfil`
  pub two_boxes : 2 ≤ length h.boxes
  two_boxes = is_there pfil (lit< tt) 1 h.boxes accepted_says.second

  -- it says the same cut behind its second box
  abbrev cut : List ℕ
  cut = take (box_at 1 h.boxes).end f

  cut_headed : Headed cut (record { boxes = box_at 0 h.boxes ∷ box_at 1 h.boxes ∷ []; inner = h.inner; urls = h.urls; mixed = h.mixed })
  unfolding brand_right branded box_at box_limit
  cut_headed =
      let t = headed f h head in
      let said = accepted_says in
      let a : Box = box_at 0 h.boxes in
      let b : Box = box_at 1 h.boxes in
      let m : ℕ = b.end in
      let second = (boxes_standing File f 0 (length f) t.boxes 1 two_boxes).inside in
      let apart : a.end ≤ b.at = boxes_apart File f 0 (length f) t.boxes 0 1 (omega arith) two_boxes in
      let long = length-take-le m f second.ends in
      let same : (i : ℕ) → i < m → get_or cut i 0 ≡ get_or f i 0 = λ i less. get_or-take m f i 0 less in
      let paired = filled_paired Pfil f cut m same (boxes_filled Pfil f b.body m said.inner) in
      let kept = rw take-append-drop at (brand_kept cut (drop m f) a said.room (omega arith)) in
      record {
        small = le-leb (length cut) file_limit (omega (arith, leb-true (length f) file_limit t.small));
        boxes = rw long (filled_boxes File (cut-filled f (boxes_filled File f 0 (length f) t.boxes) (omega arith) two_boxes) (omega arith));
        ftyp = ftyp-right a b [] said.first (other_kind pfil ftyp b refl said.second) (those-nil ftyp) said.room said.fours;
        brand = rw (← kept) said.brand;
        pfil = pfil-right a b [] (other_kind ftyp pfil a refl said.first) said.second (those-nil pfil);
        inner = boxes_same f cut m same Pfil b.body ∙ said.inner;
        pfhd = paired_pfhd f cut h.inner h.inner paired said.pfhd;
        surl = paired_surls f cut h.inner h.inner paired said.surl;
        urls = said.urls ∙ sym (paired_urls f cut h.inner h.inner paired said.surl);
        mixed = rw (← kept) said.mixed;
      }

  pub accepted_opens : opening f ≡ given h
  unfolding opening
  accepted_opens = rw ((headed f h head).small, accepted_walk, cut-behind f h.boxes two_boxes, heading-of cut _ cut_headed)

-- ---- each of its segments is kept

-- what agrees does so with fewer
agreed_first : (ss ts : List Segment) → agreed (ss ++ ts) ≡ true → agreed ss ≡ true
agreed_first ss ts all =
    in-agreement ss (λ s t here there. agreement (ss ++ ts) all s t (Memᴰ.append_left ts here) (Memᴰ.append_left ts there))

module _ (limit : ℕ) (f : List ℕ) (h : Heading) where
  -- what is read on stands behind what was read
  reads_on : (bs : List Box) (before : List Segment) {ss : List Segment} → segments_from limit f h before bs ≡ given ss
      → (rest : List Segment) × (ss ≡ before ++ rest)
  unfolding segments_from
  reads_on [] before e = ([], sym (given_same e) ∙ sym (append-nil before))
  reads_on (b ∷ bs) before e =
      let (s, _, on) = both_given (segment limit f h before b) _ e in
      let (rest, all) = reads_on bs (before ++ (s ∷ [])) on in
      (s ∷ rest, all ∙ append_assoc before (s ∷ []) rest)

  -- a box that is no `pseg` stays whole
  abbrev Held : Box → Type 0
  Held b = is pseg b ≡ false → (kept : List Segment) → fate_of limit f h kept b ≡ whole

  module _ (ss : List Segment) (few : length ss ≤ segment_limit) (agree : agreed ss ≡ true) (layers : source_count ss ≤ layer_limit) where
    -- what is read of a box is kept beside those before it
    beside_read : (kept : List Segment) (b : Box) (bs : List Box) (s : Segment) → segment limit f h kept b ≡ given s
        → segments_from limit f h (kept ++ (s ∷ [])) bs ≡ given ss
        → beside limit f h kept b ≡ given s
    unfolding beside source_count
    beside_read kept b bs s read on =
        let (rest, all) = reads_on bs (kept ++ (s ∷ [])) on in
        let long = simp length-append at (ap length all) in
        let fewer = largest-append (λ t. suc t.source) (kept ++ (s ∷ [])) rest in
        rw (
          le-leb (length kept + 1) segment_limit (omega arith),
          read,
          agreed_first (kept ++ (s ∷ [])) rest (rw all at agree),
          le-leb (source_count (kept ++ (s ∷ []))) layer_limit (omega (arith, ap source_count all)),
        )

    all_kept : (kept : List Segment) (bs : List Box) → segments_from limit f h kept (those pseg bs) ≡ given ss
        → (kept_from limit f h kept bs ≡ ss) × (Each Held bs → Each (λ x. staying x.fate ≡ true) (fates_from limit f h kept bs))
    unfolding kept_from fates_from segments_from kept_with fate_of
    all_kept kept [] read = (given_same (rw those-nil at read), λ _. tt)
    all_kept kept (b ∷ bs) read =
        elim (which (is pseg b)) [
          | inl e ↦
              let (s, here, on) = both_given (segment limit f h kept b) _ (rw (those_one pseg b bs e) at read) in
              let taken = beside_read kept b (those pseg bs) s here on in
              let more : kept_with limit f h kept b ≡ kept ++ (s ∷ []) = rw (kept_with, e, taken) in
              let fate : fate_of limit f h kept b ≡ of_pseg s = rw (fate_of, e, taken) in
              let (all, stay) = all_kept (kept ++ (s ∷ [])) bs on in
              (rw more all, λ held. (rw fate, rw more (stay held.1)))
          | inr e ↦
              let same : kept_with limit f h kept b ≡ kept = rw (kept_with, e) in
              let (all, stay) = all_kept kept bs (rw (those_other pseg b bs e) at read) in
              (rw same all, λ held. (rw (held.0 e kept), rw same (stay held.1)))
        ]

-- ---- where the chunks of kept segments lie

-- a chunk of a file that is not mixed lies in one `pdat`, so that no other box lies in it
module _ (f : List ℕ) (h : Heading) (boxes : boxes_in File f 0 (length f) ≡ given h.boxes) (plain : h.mixed ≡ false) (k : ℕ) (less : k < length h.boxes) where
  none_in : (c : Chunk) → lies h c ≡ true → lies_in (box_at k h.boxes) c ≡ false
  unfolding lies_in lies
  none_in c lie =
      let b : Box = box_at k h.boxes in
      elim (which (lies_in b c)) [
        | inr e ↦ e
        | inl e ↦
            let (front, high) = both (eqb c.state good && leb c.place b.at) (leb b.end (c.place + c.size)) e in
            let (is-good, low) = both (eqb c.state good) (leb c.place b.at) front in
            let from = leb-true c.place b.at low in
            let to = leb-true b.end (c.place + c.size) high in
            let i = (boxes_standing File f 0 (length f) boxes k less).inside in
            let placed : has_place c.state c.size ≡ true = unfold has_place present in rw (eqb-true c.state good is-good, lt-ltb 0 c.size (omega arith)) in
            ⊎_elim
            (λ (d : InData h c).
            let n = d.number in
            let j = (boxes_standing File f 0 (length f) boxes n d.there).inside in
            elim (dec_le (n + 1) k) [
              | yes before ↦ absurd (omega (arith, boxes_apart File f 0 (length f) boxes n k (omega arith) less))
              | no other ↦
                  elim (dec_le (k + 1) n) [
                    | yes behind ↦ absurd (omega (arith, boxes_apart File f 0 (length f) boxes k n (omega arith) d.there))
                    | no neither ↦
                        let same : n ≡ k = omega arith in
                        absurd (omega (arith, ap (λ (m : ℕ). (box_at m h.boxes).body) same))
                  ]
            ])
            (λ w. absurd (true≢false (sym w.mixed ∙ plain)))
            (may_be h c (rw placed at lie))
      ]

  none_lies : (cs : List Chunk) → all_of (lies h) cs ≡ true → some_of (lies_in (box_at k h.boxes)) cs ≡ false
  none_lies = none_by (lies_in (box_at k h.boxes)) (lies h) none_in

-- ---- nothing goes of a bare one

-- a file whose boxes all stay prints no line, and one of which nothing goes is salvaged as it is
module _ (limit : ℕ) (f : List ℕ) (h : Heading) (opens : opening f ≡ given h) where
  pub stay_silent : (walk_of f).fault ≡ None → Each (λ x. staying x.fate ≡ true) (fates limit f h) → (most : ℕ) → length f ≤ most
      → salvage_text limit most f ≡ []
  unfolding salvage_text
  stay_silent faultless stay most few =
      rw (salvage_text, le-leb (length f) most few, opens, faultless-framed f faultless, faultless) (lines_none (fates limit f h) stay)

  pub clean_same : ((k : ℕ) → get_or f k 0 < 256) → Clean limit f h → salvage limit f ≡ given f
  unfolding salvage
  clean_same bytes clean = rw (opens, faultless-framed f clean.faultless) (ap given (copy_same limit f h opens bytes clean))

-- what holds of each box by its number
each_at : (P : Box → Type 0) (bs : List Box) → ((n : ℕ) → n < length bs → P (box_at n bs)) → Each P bs
unfolding box_at
each_at P [] all = tt
each_at P (b ∷ bs) all = (all 0 (omega arith), each_at P bs (λ n less. all (suc n) (omega arith)))

-- no box is of a kind of which there are none
none_of : (k : Kind) (bs : List Box) → length (those k bs) ≡ 0 → (n : ℕ) → n < length bs → is k (box_at n bs) ≡ false
unfolding box_at
none_of k [] lacks n less = absurd (omega arith)
none_of k (b ∷ bs) lacks n less =
    elim (which (is k b)) [
      | inl e ↦ absurd (omega (arith, ap length (those_one k b bs e)))
      | inr e ↦ elim n as (λ n. n < suc (length bs) → is k (box_at n (b ∷ bs)) ≡ false) [
        | zero ↦ λ _. e
        | suc m ↦ λ more. none_of k bs (rw (those_other k b bs e) at lacks) m (omega arith)
      ] less
    ]

module _ (limit : ℕ) (f : List ℕ) (h : Heading) (ss : List Segment) (head : heading f ≡ given h) (segs : segments limit f h ≡ given ss) where
  -- the boxes behind the first two
  abbrev others : List Box
  others = drop 2 h.boxes

  split : h.boxes ≡ box_at 0 h.boxes ∷ box_at 1 h.boxes ∷ others
  split = sym (two_first h.boxes (two_boxes f h head))

  -- the `pseg` boxes are among them
  psegs : those pseg h.boxes ≡ those pseg others
  psegs =
      let said = accepted_says f h head in
      ap (those pseg) split
      ∙ those_other pseg _ _ (other_kind ftyp pseg (box_at 0 h.boxes) refl said.first)
      ∙ those_other pseg _ _ (other_kind pfil pseg (box_at 1 h.boxes) refl said.second)

  -- the first two kinds are not
  no_ftyp : (n : ℕ) → n < length others → is ftyp (box_at n others) ≡ false
  unfolding ftyp_right
  no_ftyp =
      let said = accepted_says f h head in
      let a : Box = box_at 0 h.boxes in
      let (_, one) = both (is ftyp a && leb (a.body + 8) a.end && eqb ((a.end - a.body) % 4) 0) (right File ftyp h.boxes) (headed f h head).ftyp in
      let all = ap (those ftyp) split ∙ those_one ftyp _ _ said.first in
      let second = those_other ftyp _ others (other_kind pfil ftyp (box_at 1 h.boxes) refl said.second) in
      none_of ftyp others (omega (arith, right_one File ftyp h.boxes refl one, ap length all, ap length second))

  no_pfil : (n : ℕ) → n < length others → is pfil (box_at n others) ≡ false
  unfolding pfil_right
  no_pfil =
      let said = accepted_says f h head in
      let (_, one) = both (is pfil (box_at 1 h.boxes)) (right File pfil h.boxes) (headed f h head).pfil in
      let all = ap (those pfil) split ∙ those_other pfil _ _ (other_kind ftyp pfil (box_at 0 h.boxes) refl said.first) in
      let second = those_one pfil _ others said.second in
      none_of pfil others (omega (arith, right_one File pfil h.boxes refl one, ap length all, ap length second))

  kept_and_stay : (kept_from limit f h [] others ≡ ss) × (Each (Held limit f h) others → Each (λ x. staying x.fate ≡ true) (fates_from limit f h [] others))
  kept_and_stay =
      let t = segmented limit f h segs in
      all_kept limit f h ss (segments_limited limit f h segs) t.agree (leb-true (source_count ss) layer_limit t.layers) [] others (rw psegs at t.read)

  pub accepted_kept : kept_of limit f h ≡ ss
  unfolding kept_of
  accepted_kept = kept_and_stay.0

  module _ (bytes : (k : ℕ) → get_or f k 0 < 256) (only : OnlyData h ss) where
    -- a box that is no `pseg` is a `pdat`, or data of a mixed file, and none of the first two kinds
    held : (n : ℕ) → n < length others → Held limit f h (box_at n others)
    unfolding box_at allowed
    held n less no-pseg kept =
        let b : Box = box_at n others in
        let k : ℕ = 2 + n in
        let there : k < length h.boxes = omega (arith, length-drop 2 h.boxes) in
        let same : box_at k h.boxes ≡ b = sym (get_or-drop 2 h.boxes n no_box) in
        elim (which (is pdat b)) [
          | inl e ↦ fate_data limit f h kept b e
          | inr e ↦
              let lain : some_of (lies_in b) (chunks_of ss) ≡ true = passes (some_of (lies_in b) (chunks_of ss)) (rw (same, e, no-pseg) at (only k (omega arith) there)) in
              let lie = rw accepted_kept at (kept_lying limit f h) in
              let free : allowed b ≡ true = rw (no_ftyp n less, no_pfil n less, no-pseg, e) in
              fate_lain limit f h kept b free
              (elim (which h.mixed) [
                | inl mixed ↦ mixed
                | inr plain ↦ absurd (true≢false (sym lain ∙ rw same at (none_lies f h (headed f h head).boxes plain k there (chunks_of ss) lie)))
              ])
              (rw accepted_kept lain)
        ]

    accepted_stay : Each (λ x. staying x.fate ≡ true) (fates limit f h)
    unfolding fates
    accepted_stay = (refl, (refl, kept_and_stay.1 (each_at (Held limit f h) others held)))

    pub accepted_silent : (most : ℕ) → length f ≤ most → salvage_text limit most f ≡ []
    accepted_silent = stay_silent limit f h (accepted_opens f h head) (accepted_faultless f h head) accepted_stay

  pub accepted_same : ((k : ℕ) → get_or f k 0 < 256) → Bare f h ss → salvage limit f ≡ given f
  accepted_same bytes bare =
      clean_same limit f h (accepted_opens f h head) bytes
      (record {
        faultless = accepted_faultless f h head;
        stay = accepted_stay bytes bare.boxes;
        pfil = bare.pfil;
        segments = rw accepted_kept (each_by _ ss bare.segments);
        zeros = rw accepted_kept (each_by _ ss bare.zeros);
      })
