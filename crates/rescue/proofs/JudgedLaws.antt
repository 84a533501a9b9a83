-- What is said of each box as its own statement: where the walk ended, what the first two say, and that each box behind
-- them is judged as reading would judge it beside those that stay.
use Prim.Native.Nat.{ℕ, suc, ◌+◌, ◌<◌, ◌≤◌}
use mathlib.Core.Bool.{Bool, true, false, ◌&&◌, true≢false}
use mathlib.Core.List.Memᴰ
use mathlib.Core.List.{List, [], ◌∷◌, ◌++◌, map, append-nil, append_assoc, Memᴰ}
use mathlib.Core.Logic.{◌↔◌, inl, inr, ⊎_elim}
use Rattle.std.specs.Prelude.{None, Some}
use mathlib.Core.Path.{◌≡◌, refl, sym, ap, subst, ◌∙◌}
use native.Mathlib.Decide.{dec_le}
use native.Mathlib.Omega.{arith}
use borrow.Author.Tests.{le-leb, lt-leb, leb-true, eqb-true, lt-ltb}
use lib.Dec.{leb, eqb}
use lib.ListN.{length, take, drop, length-append, length-map}
use Rattle.boxes.specs.Answer.{Answer, refused, given, ◌>>=◌, hold}
use Rattle.boxes.specs.Faults.{Follow, FirstFault}
use Rattle.boxes.specs.Framing.{Box, Fault, Walked, followed, walked, walked_in, boxes_in, faultless, box_limit}
use Rattle.boxes.specs.Kinds.{ftyp, pfil, pseg, pdat, is, box_at}
use Rattle.boxes.specs.declared.kinds.Container.TheVariants.{File}
use Rattle.boxes.proofs.AnswerLaws.{not_both, refused_same, given_same, both_given, held}
use Rattle.boxes.proofs.ContainerLaws.{walked_next, boxes_standing, boxes_apart}
use Rattle.boxes.proofs.FaultLaws.{fault_stands}
use Rattle.partial.specs.Heading.{Heading, heading}
use Rattle.partial.specs.Limits.{file_limit, segment_limit, layer_limit}
use Rattle.partial.specs.Mixed.{allowed}
use Rattle.partial.specs.Reading.{segment, segments_from}
use Rattle.partial.specs.ReadingDemands.{InData, Whole}
use Rattle.partial.specs.Segments.{Chunk, Segment, good, present, has_place, chunks_of}
use Rattle.partial.specs.Sequences.{some_of, all_of}
use Rattle.partial.specs.Sources.{source_count, agreed}
use Rattle.partial.proofs.Meaning.MappedLaws.{lies, may_be}
use Rattle.partial.proofs.Meaning.SequenceLaws.{which, both, passes, all_append, member_passes}
use Rattle.partial.proofs.Meaning.SupplyLaws.{chunks_append}
use Rattle.partial.proofs.Reading.LimitLaws.{segments-many}
use Rattle.additions.proofs.WholeLaws.{allowed_other}
use Rattle.rescue.specs.Kept.{Fate, dropped, whole, of_pfil, of_pseg, Fated, lies_in, walk_of, first_two, opening, beside, kept_with, kept_from, kept_of, stays, fate_of, fates_from, fates}
use Rattle.rescue.specs.Demands.{read_alone, goes, staying_of, Holds, Judged}
use Rattle.rescue.proofs.FateLaws.{segments_of, by_fate, fate-at, fate_data, fate_lain, beside_given, kept_from_lem, kept_sound}
use Rattle.rescue.proofs.HeadingLaws.{opened, other_kind}
use Rattle.rescue.proofs.LieLaws.{some_member, segment_lies}
use Rattle.rescue.proofs.WholeLaws.{fates_boxed}

-- ---- the whole boxes, and the first two of them

module _ (f : List ℕ) where
  pub walk_fault : (x : Fault) → (walk_of f).fault ≡ Some x → FirstFault File f 0 (length f) box_limit (walk_of f).boxes x
  unfolding walk_of
  walk_fault = fault_stands File f 0 (length f)

  pub walk_faultless : (walk_of f).fault ≡ None → boxes_in File f 0 (length f) ≡ given (walk_of f).boxes
  unfolding walk_of boxes_in faultless
  walk_faultless e = rw e

  -- the file cut behind the second, or the whole of it
  pub cut-behind : (bs : List Box) → 2 ≤ length bs → first_two f bs ≡ take (box_at 1 bs).end f
  unfolding first_two
  cut-behind bs two = rw (first_two, le-leb 2 (length bs) two)

  pub cut_fewer : (bs : List Box) → length bs < 2 → first_two f bs ≡ f
  unfolding first_two
  cut_fewer bs fewer = rw (first_two, lt-leb 2 (length bs) fewer)

  -- two boxes that follow each other from the first byte on are the first two
  walk_two : (a b : Box) → Follow File f (length f) 0 (a ∷ b ∷ []) b.end → (rest : List Box) × ((walk_of f).boxes ≡ a ∷ b ∷ rest)
  unfolding walk_of walked_in box_limit
  walk_two a b (short, first, (more, second, _)) = ((walked File f (length f) 510 b.end).boxes, ap (λ (w : Walked). w.boxes) (go 510))
    where
      go : (n : ℕ) → walked File f (length f) (suc (suc n)) 0 ≡ followed a (followed b (walked File f (length f) n b.end))
      go n = rw (walked_next File f (length f) 0 short (suc n), first, walked_next File f (length f) a.end more n, second)

  pub cut_two : (a b : Box) → Follow File f (length f) 0 (a ∷ b ∷ []) b.end → first_two f (walk_of f).boxes ≡ take b.end f
  unfolding box_at
  cut_two a b follow =
      let (rest, e) = walk_two a b follow in
      cut-behind (walk_of f).boxes (omega (arith, ap length e)) ∙ ap (λ (bs : List Box). take (box_at 1 bs).end f) e

  pub opened_two : (h : Heading) → opening f ≡ given h
      → (h.boxes ≡ (walk_of f).boxes)
      × ((k : Heading) × (heading (take (box_at 1 h.boxes).end f) ≡ given k) × (h.inner ≡ k.inner) × (h.urls ≡ k.urls) × (h.mixed ≡ k.mixed))
  unfolding opening
  opened_two h opens =
      let o = opened f h opens in
      let (_, e) = held 1 (leb (length f) file_limit) _ opens in
      let (k, known, same) = both_given (heading (first_two f (walk_of f).boxes)) _ e in
      let two = subst (λ (bs : List Box). 2 ≤ length bs) o.boxes o.two in
      let cut = ap (λ (bs : List Box). heading (take (box_at 1 bs).end f)) o.boxes ∙ ap heading (sym (cut-behind (walk_of f).boxes two)) in
      let alike = sym (given_same same) in
      (o.boxes, (k, cut ∙ known, ap (λ (x : Heading). x.inner) alike, ap (λ (x : Heading). x.urls) alike, ap (λ (x : Heading). x.mixed) alike))

-- ---- what is read of the `pseg` boxes that stay is what is kept

module _ (limit : ℕ) (f : List ℕ) (h : Heading) where
  staying_read : (kept : List Segment) (bs : List Box) (before behind : List Fated) → fates_from limit f h kept bs ≡ before ++ behind
      → segments_from limit f h kept (staying_of (is pseg) before) ≡ given (kept ++ segments_of before)
  unfolding fates_from segments_from segments_of
  staying_read kept bs [] behind at = rw append-nil
  staying_read kept [] (y ∷ ys) behind at = absurd (omega (arith, ap length at))
  staying_read kept (b ∷ bs) (y ∷ ys) behind at =
      let here : Fated = record { box = b; fate = fate_of limit f h kept b } in
      let first : here ≡ y = cc in
      let rest : fates_from limit f h (kept_with limit f h kept b) bs ≡ ys ++ behind = cc in
      subst (λ (y : Fated). segments_from limit f h kept (staying_of (is pseg) (y ∷ ys)) ≡ given (kept ++ segments_of (y ∷ ys))) first
      (by_fate limit f h
      (λ t l. segments_from limit f h l (staying_of (is pseg) ys) ≡ given (l ++ segments_of ys)
      → segments_from limit f h kept (staying_of (is pseg) (record { box = b; fate = t } ∷ ys)) ≡ given (kept ++ segments_of (record { box = b; fate = t } ∷ ys)))
      kept b (λ n more. more) (λ (no-pseg, _, _, _) more. rw (staying_of, no-pseg) more)
      (λ s kind found more. rw (staying_of, kind, (beside_given limit f h kept b found).1) (more ∙ ap given (append_assoc kept (s ∷ []) (segments_of ys))))
      (staying_read (kept_with limit f h kept b) bs ys behind rest))

  read_on : (bs cs : List Box) (before ss : List Segment) → segments_from limit f h before bs ≡ given ss
      → segments_from limit f h before (bs ++ cs) ≡ segments_from limit f h ss cs
  unfolding segments_from
  read_on [] cs before ss e = ap (λ (l : List Segment). segments_from limit f h l cs) (given_same e)
  read_on (b ∷ bs) cs before ss e =
      let (s, read, on) = both_given (segment limit f h before b) _ e in
      rw read (read_on bs cs (before ++ (s ∷ [])) ss on)

  -- a box more is judged alone with them as beside what is kept
  alone : (psegs : List Box) (kept : List Segment) (b : Box) → segments_from limit f h [] psegs ≡ given kept
      → read_alone limit f h (psegs ++ (b ∷ [])) ≡ (beside limit f h kept b >>= λ s. given (kept ++ (s ∷ [])))
  unfolding beside segments_from
  alone psegs kept b read =
      let many = segments-many limit f h psegs [] read in
      let long : length (psegs ++ (b ∷ [])) ≡ length kept + 1 = length-append psegs (b ∷ []) ∙ omega arith in
      rw (long, read_on psegs (b ∷ []) [] kept read) (go (leb (length kept + 1) segment_limit) (segment limit f h kept b))
    where
      end : (s : Segment) (agree layers : Bool)
          → (hold 25 agree >>= λ _. hold 40 layers >>= λ _. given (kept ++ (s ∷ [])))
          ≡ ((hold 25 agree >>= λ _. hold 40 layers >>= λ _. given s) >>= λ s. given (kept ++ (s ∷ [])))
      end s false layers = refl
      end s true false = refl
      end s true true = refl

      go : (few : Bool) (x : Answer Segment)
          → (hold 13 few
          >>= λ _. (x >>= λ s. given (kept ++ (s ∷ [])))
          >>= λ ss. hold 25 (agreed ss) >>= λ _. hold 40 (leb (source_count ss) layer_limit) >>= λ _. given ss)
          ≡ ((hold 13 few
          >>= λ _. x
          >>= λ s. hold 25 (agreed (kept ++ (s ∷ []))) >>= λ _. hold 40 (leb (source_count (kept ++ (s ∷ []))) layer_limit) >>= λ _. given s)
          >>= λ s. given (kept ++ (s ∷ [])))
      go false x = refl
      go true (refused n) = refl
      go true (given s) = end s (agreed (kept ++ (s ∷ []))) (leb (source_count (kept ++ (s ∷ []))) layer_limit)

  -- so a `pseg` goes with the number that this refuses with
  fate_refused : (kept : List Segment) (b : Box) → is pseg b ≡ true → (n : ℕ)
      → (fate_of limit f h kept b ≡ dropped n) ↔ ((beside limit f h kept b >>= λ s. given (kept ++ (s ∷ []))) ≡ refused n)
  unfolding fate_of
  fate_refused kept b kind n = rw (fate_of, kind) (go (beside limit f h kept b))
    where
      no_drop : {s : Segment} → of_pseg s ≡ dropped n → ⊥
      no_drop {s} e = let z : ◌≡◌ {A = ℕ} 0 1 = cc in absurd (omega arith)

      same : {m : ℕ} → dropped m ≡ dropped n → m ≡ n
      same e = cc

      go : (a : Answer Segment) → ((elim a as (λ _. Fate) [ refused n ↦ dropped n | given s ↦ of_pseg s ]) ≡ dropped n) ↔ ((a >>= λ s. given (kept ++ (s ∷ []))) ≡ refused n)
      go (refused m) = (λ e. ap refused (same e), λ e. ap dropped (refused_same e))
      go (given s) = (λ e. absurd (no_drop e), λ e. absurd (not_both (sym e)))

  -- ---- where the chunks that are kept lie

  lies_from : (kept : List Segment) (bs : List Box) → all_of (lies h) (chunks_of kept) ≡ true → all_of (lies h) (chunks_of (kept_from limit f h kept bs)) ≡ true
  unfolding kept_from chunks_of
  lies_from kept [] lie = lie
  lies_from kept (b ∷ bs) lie =
      lies_from (kept_with limit f h kept b) bs
      (by_fate limit f h (λ _ l. all_of (lies h) (chunks_of l) ≡ true) kept b (λ n. lie) (λ _. lie)
      (λ s _ found.
      rw (chunks_append kept (s ∷ []), append-nil, all_append, lie) (segment_lies limit f h kept b s (beside_given limit f h kept b found).1)))

  -- those of all kept segments do
  pub kept_lying : all_of (lies h) (chunks_of (kept_of limit f h)) ≡ true
  unfolding kept_of chunks_of all_of
  kept_lying = lies_from [] (drop 2 h.boxes) refl

  -- ---- the first two stay

  pub heads_stay : (x : Fated) → Memᴰ x (take 2 (fates limit f h)) → goes x ≡ false
  unfolding fates
  heads_stay x there =
      ⊎_elim (λ same. ap goes same)
      (λ more. ⊎_elim (λ same. ap goes same) (λ None. absurd (Memᴰ.not-nil None)) (Memᴰ.cases_cons more)) (Memᴰ.cases_cons there)

-- one of the list that passes a test
some_there : {A : Type 0} (test : A → Bool) (xs : List A) → some_of test xs ≡ true → (x : A) × Memᴰ x xs × (test x ≡ true)
unfolding some_of
some_there test [] e = absurd (true≢false (sym e))
some_there test (x ∷ xs) e =
    elim (which (test x)) [
      | inl passed ↦ (x, Memᴰ.head refl, passed)
      | inr other ↦ let (y, there, passed) = some_there test xs (rw other at e) in (y, Memᴰ.tail there, passed)
    ]

box_there : (before : List Fated) (x : Fated) (behind : List Fated) → box_at (length before) (map (λ x. x.box) (before ++ (x ∷ behind))) ≡ x.box
unfolding box_at
box_there [] x behind = refl
box_there (y ∷ ys) x behind = box_there ys x behind

-- ---- each box behind them

-- a box that a chunk with a place has a byte in lies in the chunk, where it may be one of those that a chunk is
module _ (f : List ℕ) (h : Heading) (boxes : boxes_in File f 0 (length f) ≡ given h.boxes) (k : ℕ) (less : k < length h.boxes) where
  abbrev met : Box
  met = box_at k h.boxes

  in-chunk : (c : Chunk) → lies h c ≡ true → allowed met ≡ true → Holds met c → lies_in met c ≡ true
  unfolding lies_in lies
  in-chunk c lie other (is-good, filled, low, high) =
      let placed : has_place c.state c.size ≡ true = unfold has_place present in rw (is-good, lt-ltb 0 c.size filled) in
      let apart = boxes_apart File f 0 (length f) boxes in
      let standing = boxes_standing File f 0 (length f) boxes in
      let i = (standing k less).inside in
      ⊎_elim
      (λ (d : InData h c).
      let n = d.number in
      let j = (standing n d.there).inside in
      elim (dec_le (n + 1) k) [
        | yes before ↦ absurd (omega (arith, apart n k (omega arith) less, d.to))
        | no at_most ↦
            elim (dec_le (k + 1) n) [
              | yes behind ↦ absurd (omega (arith, apart k n (omega arith) d.there, d.from))
              | no neither ↦
                  let same : n ≡ k = omega arith in
                  absurd (true≢false (sym d.kind ∙ ap (λ (m : ℕ). is pdat (box_at m h.boxes)) same ∙ (allowed_other met other).3))
            ]
      ])
      (λ (w : Whole h c).
      let m = w.first in
      let n = w.first + w.more in
      let from : c.place ≤ met.at = elim (dec_le (k + 1) m) [
        | yes before ↦ absurd (omega (arith, apart k m (omega arith) (omega (arith, w.there)), w.starts))
        | no on ↦
            elim (dec_le (m + 1) k) [
              | yes behind ↦ omega (arith, apart m k (omega arith) less, w.starts, (standing m (omega (arith, w.there))).inside)
              | no here ↦ let same : m ≡ k = omega arith in omega (arith, w.starts, ap (λ (m : ℕ). (box_at m h.boxes).at) same)
            ]
      ] in
      let to : met.end ≤ c.place + c.size = elim (dec_le (n + 1) k) [
        | yes behind ↦ absurd (omega (arith, apart n k (omega arith) less, w.ends))
        | no on ↦
            elim (dec_le (k + 1) n) [
              | yes before ↦ omega (arith, apart k n (omega arith) w.there, w.ends, (standing n w.there).inside)
              | no here ↦ let same : n ≡ k = omega arith in omega (arith, w.ends, ap (λ (m : ℕ). (box_at m h.boxes).end) same)
            ]
      ] in
      rw (is-good, le-leb c.place met.at from, le-leb met.end (c.place + c.size) to))
      (may_be h c (rw placed at lie))

  holds_in : (c : Chunk) → lies_in met c ≡ true → Holds met c
  unfolding lies_in
  holds_in c e =
      let (front, to) = both (eqb c.state good && leb c.place met.at) (leb met.end (c.place + c.size)) e in
      let (is-good, from) = both (eqb c.state good) (leb c.place met.at) front in
      let low = leb-true c.place met.at from in
      let high = leb-true met.end (c.place + c.size) to in
      let i = (boxes_standing File f 0 (length f) boxes k less).inside in
      (eqb-true c.state good is-good, omega arith, omega arith, omega arith)

module _ (limit : ℕ) (f : List ℕ) (h : Heading) (opens : opening f ≡ given h) where
  -- the first two are no `pseg`
  not_first : is pseg (box_at 0 h.boxes) ≡ false
  not_first = other_kind ftyp pseg (box_at 0 h.boxes) refl (opened f h opens).first

  not_second : is pseg (box_at 1 h.boxes) ≡ false
  not_second = other_kind pfil pseg (box_at 1 h.boxes) refl (opened f h opens).second

  -- what is kept is what is read of the `pseg` boxes that stay
  pub kept_alone : read_alone limit f h (staying_of (is pseg) (fates limit f h)) ≡ given (kept_of limit f h)
  unfolding fates kept_of
  kept_alone =
      let others : List Fated = fates_from limit f h [] (drop 2 h.boxes) in
      let psegs : List Box = staying_of (is pseg) (fates limit f h) in
      let all = staying_read limit f h [] (drop 2 h.boxes) others [] (sym (append-nil others)) ∙ ap given (sym (kept_from_lem limit f h [] (drop 2 h.boxes))) in
      let read : segments_from limit f h [] psegs ≡ given (kept_of limit f h) = rw (staying_of, not_first, staying_of, not_second) all in
      let (few, agree, layers) = kept_sound limit f h in
      let many = segments-many limit f h psegs [] read in
      rw (le-leb (length psegs) segment_limit (omega arith), read, agree, le-leb (source_count (kept_of limit f h)) layer_limit layers)

  module _ (boxes : boxes_in File f 0 (length f) ≡ given h.boxes) (behind : List Fated) (x : Fated) where
    abbrev front : List Fated → List Fated
    front before = record { box = box_at 0 h.boxes; fate = whole } ∷ record { box = box_at 1 h.boxes; fate = of_pfil h.inner } ∷ before

    abbrev b : Box
    b = x.box

    module _ (before : List Fated) (split : fates_from limit f h [] (drop 2 h.boxes) ≡ before ++ (x ∷ behind)) where
      abbrev kept : List Segment
      kept = segments_of before

      fate : x.fate ≡ fate_of limit f h kept b
      fate = fate-at limit f h [] (drop 2 h.boxes) before x behind split

      all_split : fates limit f h ≡ front before ++ (x ∷ behind)
      unfolding fates
      all_split = rw split

      here : box_at (length (front before)) h.boxes ≡ b
      here = ap (box_at (length (front before))) (sym (fates_boxed limit f h opens) ∙ ap (map (λ (x : Fated). x.box)) all_split) ∙ box_there (front before) x behind

      inside : length (front before) < length h.boxes
      inside = omega (arith, ap length (fates_boxed limit f h opens), length-map (fates limit f h) (λ (x : Fated). x.box), ap length all_split, length-append (front before) (x ∷ behind))

      alone_read : segments_from limit f h [] (staying_of (is pseg) (front before)) ≡ given kept
      alone_read = rw (staying_of, not_first, staying_of, not_second) (staying_read limit f h [] (drop 2 h.boxes) before (x ∷ behind) split)

      left_out : is pseg b ≡ true → (n : ℕ) → (x.fate ≡ dropped n) ↔ (read_alone limit f h (staying_of (is pseg) (front before) ++ (b ∷ [])) ≡ refused n)
      left_out kind n = rw (fate, alone limit f h (staying_of (is pseg) (front before)) kept b alone_read) (fate_refused limit f h kept b kind n)

      later : is ftyp b ≡ true → fate_of limit f h kept b ≡ dropped 7
      unfolding fate_of
      later kind = rw (fate_of, other_kind ftyp pseg b refl kind, kind)

      another : is pfil b ≡ true → fate_of limit f h kept b ≡ dropped 9
      unfolding fate_of
      another kind = rw (fate_of, other_kind pfil pseg b refl kind, other_kind pfil ftyp b refl kind, kind)

      goes_by : (t : Fate) → x.fate ≡ t → goes x ≡ goes (record { box = b; fate = t })
      goes_by t e = ap (λ (t : Fate). goes (record { box = b; fate = t })) e

      module _ (other : allowed b ≡ true) where
        lain : goes x ≡ false → (h.mixed ≡ true) × (some_of (lies_in b) (chunks_of (kept_of limit f h)) ≡ true)
        unfolding stays
        lain stay =
            let (_, _, no-pseg, no-pdat) = allowed_other b other in
            by_fate limit f h
            (λ t _. goes (record { box = b; fate = t }) ≡ false → (h.mixed ≡ true) × (some_of (lies_in b) (chunks_of (kept_of limit f h)) ≡ true))
            kept b (λ n e. absurd (true≢false e))
            (λ (_, _, _, stay) _. both h.mixed (some_of (lies_in b) (chunks_of (kept_of limit f h))) (rw no-pdat at stay))
            (λ s kind _ _. absurd (true≢false (sym kind ∙ no-pseg))) (sym (goes_by _ fate) ∙ stay)

        other_stays : (goes x ≡ false) ↔ ((h.mixed ≡ true) × ((c : Chunk) × Memᴰ c (chunks_of (kept_of limit f h)) × Holds b c))
        other_stays = (
          λ stay.
              let (mixed, found) = lain stay in
              let (c, there, lies) = some_there (lies_in b) (chunks_of (kept_of limit f h)) found in
              (mixed, (c, there, rw here at (holds_in f h boxes (length (front before)) inside c (rw here lies)))),
          λ (mixed, (c, there, holds)).
              let lie = member_passes (lies h) (chunks_of (kept_of limit f h)) (kept_lying limit f h) c there in
              let lies-there = rw here at (in-chunk f h boxes (length (front before)) inside c lie (rw here other) (rw here holds)) in
              let found = some_member (lies_in b) (chunks_of (kept_of limit f h)) c there lies-there in
              goes_by whole (fate ∙ fate_lain limit f h kept b other mixed found),
        )

        nothing-wrong : (n : ℕ) → x.fate ≡ dropped n → n ≡ 0
        unfolding fate_of
        nothing-wrong n e =
            let (no_ftyp, no_pfil, no-pseg, _) = allowed_other b other in
            go (stays limit f h b) (rw (fate_of, no-pseg, no_ftyp, no_pfil) at (sym fate ∙ e))
          where
            go : (stay : Bool) → (elim (hold 0 stay) as (λ _. Fate) [ refused n ↦ dropped n | given _ ↦ whole ]) ≡ dropped n → n ≡ 0
            go false e = cc
            go true e = let z : ◌≡◌ {A = ℕ} 0 1 = cc in absurd (omega arith)

      beside_those : Judged limit f h (front before) x
      beside_those =
          record {
            left_out = λ kind. left_out (passes (is pseg b) kind);
            later = λ kind. fate ∙ later (passes (is ftyp b) kind);
            another = λ kind. fate ∙ another (passes (is pfil b) kind);
            stored = λ kind. goes_by whole (fate ∙ fate_data limit f h kept b (passes (is pdat b) kind));
            other = λ free. other_stays (passes (allowed b) free);
            nothing_wrong = λ free. nothing-wrong (passes (allowed b) free);
          }

    pub judged_beside : (before : List Fated) → fates limit f h ≡ before ++ (x ∷ behind) → 2 ≤ length before → Judged limit f h before x
    unfolding fates
    judged_beside [] split two = absurd (omega arith)
    judged_beside (y ∷ []) split two = absurd (omega arith)
    judged_beside (y ∷ z ∷ before) split two =
        let first : record { box = box_at 0 h.boxes; fate = whole } ≡ y = cc in
        let second : record { box = box_at 1 h.boxes; fate = of_pfil h.inner } ≡ z = cc in
        let rest : fates_from limit f h [] (drop 2 h.boxes) ≡ before ++ (x ∷ behind) = cc in
        subst (λ (y : Fated). Judged limit f h (y ∷ z ∷ before) x) first
        (subst (λ (z : Fated). Judged limit f h (record { box = box_at 0 h.boxes; fate = whole } ∷ z ∷ before) x) second (beside_those before rest))
