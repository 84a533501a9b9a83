-- What becomes of each box, and which segments are kept with them.
use Prim.Native.Nat.{ℕ, ◌+◌, ◌≤◌}
use mathlib.Core.Bool.{Bool, true, false, not}
use mathlib.Core.List.{List, [], ◌∷◌, ◌++◌, map, append-nil, append_assoc}
use mathlib.Core.Path.{◌≡◌, refl, sym, ap, subst, ◌∙◌}
use native.Mathlib.Omega.{arith}
use borrow.Author.Tests.{eqb-true, leb-true}
use lib.Dec.{leb}
use lib.ListN.{length, drop, length-append}
use Rattle.boxes.specs.Answer.{Answer, refused, given, ◌>>=◌, hold}
use Rattle.boxes.specs.Framing.{Box}
use Rattle.boxes.specs.Kinds.{ftyp, pfil, pseg, pdat, is}
use Rattle.boxes.proofs.AnswerLaws.{both_given, held, given_same}
use Rattle.partial.specs.Limits.{segment_limit, layer_limit}
use Rattle.partial.specs.Sequences.{some_of, all_of, largest}
use Rattle.partial.specs.Segments.{Segment, chunks_of}
use Rattle.partial.specs.Heading.{Heading}
use Rattle.partial.specs.Mixed.{allowed}
use Rattle.partial.specs.Sources.{source_count, agreed}
use Rattle.partial.specs.Reading.{segment}
use Rattle.additions.proofs.WholeLaws.{allowed_other}
use Rattle.rescue.specs.Kept.{Fate, dropped, whole, of_pfil, of_pseg, Fated, lies_in, beside, kept_with, kept_from, kept_of, stays, fate_of, fates_from, fates}

-- the segments of boxes that stay
unfoldable pub segments_of : List Fated → List Segment
segments_of [] = []
segments_of (x ∷ xs) =
    elim x.fate [ dropped n ↦ segments_of xs | whole ↦ segments_of xs | of_pfil inner ↦ segments_of xs | of_pseg s ↦ s ∷ segments_of xs ]

pub segments_split : (before behind : List Fated) → segments_of (before ++ behind) ≡ segments_of before ++ segments_of behind
unfolding segments_of
segments_split [] behind = refl
segments_split (x ∷ xs) behind =
    let rest = segments_split xs behind in
    let on : Fate → List Fated → List Segment = λ t l. segments_of (record { box = x.box; fate = t } ∷ l) in
    elim x.fate as (λ t. on t (xs ++ behind) ≡ on t xs ++ segments_of behind) [ dropped n ↦ rest | whole ↦ rest | of_pfil inner ↦ rest | of_pseg s ↦ ap (λ l. s ∷ l) rest ]

module _ (limit : ℕ) (f : List ℕ) (h : Heading) where
  -- what holds of a box's fate and of the segments kept with it, by what was found of it
  pub by_fate : (P : Fate → List Segment → Type 0) (kept : List Segment) (b : Box)
      → ((n : ℕ) → P (dropped n) kept)
      → ((is pseg b ≡ false) × (is ftyp b ≡ false) × (is pfil b ≡ false) × (stays limit f h b ≡ true) → P whole kept)
      → ((s : Segment) → is pseg b ≡ true → beside limit f h kept b ≡ given s → P (of_pseg s) (kept ++ (s ∷ [])))
      → P (fate_of limit f h kept b) (kept_with limit f h kept b)
  unfolding fate_of kept_with
  by_fate P kept b out stay one = go (is pseg b) (is ftyp b) (is pfil b) (stays limit f h b) (beside limit f h kept b) stay one
    where
      go : (s t p y : Bool) (a : Answer Segment)
          → ((s ≡ false) × (t ≡ false) × (p ≡ false) × (y ≡ true) → P whole kept)
          → ((x : Segment) → s ≡ true → a ≡ given x → P (of_pseg x) (kept ++ (x ∷ [])))
          → P (elim s [
            | true ↦ elim a [ refused n ↦ dropped n | given x ↦ of_pseg x ]
            | false ↦ elim (hold 7 (not t) >>= λ _. hold 9 (not p) >>= λ _. hold 0 y) [ refused n ↦ dropped n | given _ ↦ whole ]
          ]) (elim s [ true ↦ elim a [ refused n ↦ kept | given x ↦ kept ++ (x ∷ []) ] | false ↦ kept ])
      go true t p y (refused n) stay one = out n
      go true t p y (given x) stay one = one x refl refl
      go false true p y a stay one = out 7
      go false false true y a stay one = out 9
      go false false false false a stay one = out 0
      go false false false true a stay one = stay (refl, refl, refl, refl)

  -- a box beside the segments kept before it
  abbrev fated : List Segment → Box → Fated
  fated kept b = record { box = b; fate = fate_of limit f h kept b }

  -- its segment, where it stays, is kept behind them
  kept_on : (kept : List Segment) (b : Box) (xs : List Fated) → kept_with limit f h kept b ++ segments_of xs ≡ kept ++ segments_of (fated kept b ∷ xs)
  unfolding segments_of
  kept_on kept b xs =
      by_fate (λ t l. l ++ segments_of xs ≡ kept ++ segments_of (record { box = b; fate = t } ∷ xs)) kept b
      (λ n. refl) (λ _. refl) (λ s _ _. append_assoc kept (s ∷ []) (segments_of xs))

  -- each box has its fate
  pub fates_boxes : (kept : List Segment) (bs : List Box) → map (λ x. x.box) (fates_from limit f h kept bs) ≡ bs
  unfolding fates_from
  fates_boxes kept [] = refl
  fates_boxes kept (b ∷ bs) = ap (λ l. b ∷ l) (fates_boxes (kept_with limit f h kept b) bs)

  -- and the segments of those that stay are those that are kept
  pub kept_from_lem : (kept : List Segment) (bs : List Box) → kept_from limit f h kept bs ≡ kept ++ segments_of (fates_from limit f h kept bs)
  unfolding kept_from fates_from segments_of
  kept_from_lem kept [] = sym (append-nil kept)
  kept_from_lem kept (b ∷ bs) = kept_from_lem (kept_with limit f h kept b) bs ∙ kept_on kept b (fates_from limit f h (kept_with limit f h kept b) bs)

  pub kept_all : kept_of limit f h ≡ segments_of (fates limit f h)
  unfolding kept_of fates segments_of
  kept_all = kept_from_lem [] (drop 2 h.boxes)

  -- each beside those before it
  pub fate-at : (kept : List Segment) (bs : List Box) (before : List Fated) (x : Fated) (behind : List Fated)
      → fates_from limit f h kept bs ≡ before ++ (x ∷ behind)
      → x.fate ≡ fate_of limit f h (kept ++ segments_of before) x.box
  unfolding fates_from segments_of
  fate-at kept [] before x behind at = absurd (omega (arith, simp length-append at (ap length at)))
  fate-at kept (b ∷ bs) [] x behind at =
      let first : fated kept b ≡ x = cc in
      subst (λ (y : Fated). y.fate ≡ fate_of limit f h (kept ++ []) y.box) first (rw append-nil)
  fate-at kept (b ∷ bs) (y ∷ ys) x behind at =
      let first : fated kept b ≡ y = cc in
      let rest : fates_from limit f h (kept_with limit f h kept b) bs ≡ ys ++ (x ∷ behind) = cc in
      fate-at (kept_with limit f h kept b) bs ys x behind rest
      ∙ ap (λ l. fate_of limit f h l x.box) (kept_on kept b ys ∙ ap (λ z. kept ++ segments_of (z ∷ ys)) first)

  -- by its kind
  module _ (kept : List Segment) (b : Box) where
    pub fate_pseg : {s : Segment} → fate_of limit f h kept b ≡ of_pseg s → (is pseg b ≡ true) × (beside limit f h kept b ≡ given s)
    fate_pseg {s} =
        by_fate (λ t _. t ≡ of_pseg s → (is pseg b ≡ true) × (beside limit f h kept b ≡ given s)) kept b
        (λ n e. ((cc), cc)) (λ _ e. ((cc), cc)) (λ r kind found e. (kind, cc))

    pub fate_whole : fate_of limit f h kept b ≡ whole → (is pseg b ≡ false) × (is ftyp b ≡ false) × (is pfil b ≡ false) × (stays limit f h b ≡ true)
    fate_whole =
        by_fate (λ t _. t ≡ whole → (is pseg b ≡ false) × (is ftyp b ≡ false) × (is pfil b ≡ false) × (stays limit f h b ≡ true)) kept b
        (λ n e. ((cc), (cc), (cc), cc)) (λ known e. known) (λ s kind found e. ((cc), (cc), (cc), cc))

    pub fate_no_pfil : {inner : List Box} → fate_of limit f h kept b ≡ of_pfil inner → ⊥
    fate_no_pfil {inner} e =
        let z = by_fate (λ t _. t ≡ of_pfil inner → ◌≡◌ {A = ℕ} 0 1) kept b (λ n other. cc) (λ _ other. cc) (λ s _ _ other. cc) e in
        omega arith

    pub fate_data : is pdat b ≡ true → fate_of limit f h kept b ≡ whole
    unfolding fate_of stays is
    fate_data kind = rw (eqb-true b.kind pdat.code kind)

    pub fate_lain : allowed b ≡ true → h.mixed ≡ true → some_of (lies_in b) (chunks_of (kept_of limit f h)) ≡ true → fate_of limit f h kept b ≡ whole
    unfolding fate_of stays
    fate_lain other mixed lain =
        let (no_ftyp, no_pfil, no-pseg, no-pdat) = allowed_other b other in
        rw (no-pseg, fate_of, no_ftyp, no_pfil, no-pdat, lain, mixed)

    pub beside_given : {s : Segment} → beside limit f h kept b ≡ given s
        → (length kept + 1 ≤ segment_limit) × (segment limit f h kept b ≡ given s)
        × (agreed (kept ++ (s ∷ [])) ≡ true)
        × (source_count (kept ++ (s ∷ [])) ≤ layer_limit)
    unfolding beside
    beside_given {s} e =
        let (few, e1) = held 13 (leb (length kept + 1) segment_limit) _ e in
        let (r, read, e2) = both_given (segment limit f h kept b) _ e1 in
        let (agree, e3) = held 25 (agreed (kept ++ (r ∷ []))) _ e2 in
        let (layers, e4) = held 40 (leb (source_count (kept ++ (r ∷ []))) layer_limit) _ e3 in
        let same = given_same e4 in
        (leb-true _ _ few, rw same at read, rw same at agree, leb-true _ _ (rw same at layers))

  -- what passes 13, 25 and 40
  abbrev Sound : List Segment → Type 0
  Sound ss = (length ss ≤ segment_limit) × (agreed ss ≡ true) × (source_count ss ≤ layer_limit)

  sound_from : (kept : List Segment) (bs : List Box) → Sound kept → Sound (kept_from limit f h kept bs)
  unfolding kept_from
  sound_from kept [] sound = sound
  sound_from kept (b ∷ bs) sound =
      sound_from (kept_with limit f h kept b) bs
      (by_fate (λ _ l. Sound l) kept b (λ n. sound) (λ _. sound)
      (λ s _ found. let (few, _, agree, layers) = beside_given kept b found in (rw length-append few, agree, layers)))

  -- what is kept passes 13, 25 and 40
  pub kept_sound : (length (kept_of limit f h) ≤ segment_limit) × (agreed (kept_of limit f h) ≡ true) × (source_count (kept_of limit f h) ≤ layer_limit)
  unfolding kept_of agreed source_count all_of largest
  kept_sound = sound_from [] (drop 2 h.boxes) (omega arith, refl, omega arith)
