-- The boxes of an opened file stand one behind the other, and what stands in the copy for each is ready.
use Prim.Native.Nat.{ℕ, ◌+◌, ◌-◌, ◌^◌, ◌<◌, ◌≤◌}
use mathlib.Core.Bool.{true, false, false≢true}
use mathlib.Core.List.{List, [], ◌∷◌, map}
use mathlib.Core.Path.{◌≡◌, refl, ap, ◌∙◌}
use native.Mathlib.Nat.{zero-add, add-zero, le_refl}
use native.Mathlib.Omega.{arith}
use borrow.Author.Tests.{eqb-true}
use lib.ListN.{length, get_or, drop, length-map}
use Rattle.boxes.specs.Answer.{given}
use Rattle.boxes.specs.Framing.{Box, header, box_limit}
use Rattle.boxes.specs.Kinds.{ftyp, pfil, pseg, is, box_at}
use Rattle.boxes.specs.declared.kinds.Container.TheVariants.{File}
use Rattle.boxes.proofs.HeaderLaws.{header_inside}
use Rattle.boxes.proofs.ContainerLaws.{Filled, next}
use Rattle.partial.specs.Sequences.{sum}
use Rattle.partial.specs.Segments.{Segment}
use Rattle.partial.specs.Heading.{Heading, heading}
use Rattle.partial.proofs.Meaning.SequenceLaws.{Each}
use Rattle.rescue.specs.Kept.{Fate, dropped, whole, of_pfil, of_pseg, Fated, opening, kept_with, fate_of, fates_from, fates}
use Rattle.rescue.specs.Copy.{copy_of, copy_size, new_place, copied}
use Rattle.rescue.proofs.Shapes.{boxes_anew}
use Rattle.rescue.proofs.PieceLaws.{length-box_bytes, whole_alone}
use Rattle.rescue.proofs.PlaceLaws.{Chained, sizes}
use Rattle.rescue.proofs.FateLaws.{fates_boxes, fate_pseg, fate_whole, fate_no_pfil, beside_given}
use Rattle.rescue.proofs.SegmentLaws.{length-segment, segment_shorter, segment_alone}
use Rattle.rescue.proofs.CopyLaws.{Ready, staying, pieces_long, copy_filled, copy_stands, boxes_anew_few, kinds_anew}
use Rattle.rescue.proofs.HeadingLaws.{opened, first_fated, second_fated, first_long, first_alone, second_long, second_shorter, second_alone, heading_anew, all_anew, heading-back}

-- a box of the file, where it stands
pub record Stood (f : List ℕ) (x : Fated) : Type 0 where
  pub end : ℕ
  pub read : header File f x.box.at end ≡ given x.box
  pub inside : x.box.end ≤ length f

-- what holds of each where something else does
pub each_by : {A : Type 0} (P Q : A → Type 0) → ((x : A) → P x → Q x) → (xs : List A) → Each P xs → Each Q xs
each_by P Q so [] all = tt
each_by P Q so (x ∷ xs) (here, there) = (so x here, each_by P Q so xs there)

-- two boxes and those behind them
pub two_first : (bs : List Box) → 2 ≤ length bs → box_at 0 bs ∷ box_at 1 bs ∷ drop 2 bs ≡ bs
unfolding box_at
two_first [] two = absurd (omega arith)
two_first (b ∷ []) two = absurd (omega arith)
two_first (b ∷ c ∷ bs) two = refl

-- what stands in the copy for a box, whatever the new places are
record Known (f : List ℕ) (x : Fated) : Type 0 where
  ready : (new : ℕ → ℕ) → Ready f new x
  shorter : copy_size x ≤ x.box.end - x.box.at

-- boxes that fill a file up to a place
module _ (f : List ℕ) (end : ℕ) (inside : end ≤ length f) where
  filled_stood : {at : ℕ} (xs : List Fated) → Filled File f end at (map (λ x. x.box) xs) → Each (Stood f) xs
  filled_stood [] all = tt
  filled_stood {at} (x ∷ xs) (next short read rest) =
      let lies = header_inside File f at end read in
      (record { end = end; read = ap (λ (place : ℕ). header File f place end) lies.starts ∙ read; inside = omega arith }, filled_stood xs rest)

  filled_chained : {at : ℕ} (xs : List Fated) → Filled File f end at (map (λ x. x.box) xs) → Each (Known f) xs → Chained at xs
  filled_chained [] all known = tt
  filled_chained {at} (x ∷ xs) (next short read rest) (here, there) =
      let lies = header_inside File f at end read in
      let shorter = here.shorter in
      (lies.starts, omega arith, omega arith, filled_chained xs rest there)

-- their copies are no longer than they are
chained_fits : (f : List ℕ) (at : ℕ) (xs : List Fated) → Chained at xs → Each (Stood f) xs → at ≤ length f → at + sizes xs ≤ length f
unfolding sum
chained_fits f at [] chained stood low = omega arith
chained_fits f at (x ∷ xs) chained (here, there) low =
    let inside = here.inside in
    omega (arith, chained_fits f x.box.end xs chained.3 there inside)

-- a box behind the first two: where it stays it is not of their kinds
record Behind (f : List ℕ) (x : Fated) : Type 0 where
  known : Known f x
  no_ftyp : staying x.fate ≡ true → is ftyp x.box ≡ false
  no_pfil : staying x.fate ≡ true → is pfil x.box ≡ false

module _ (limit : ℕ) (f : List ℕ) (h : Heading) (bytes : (k : ℕ) → get_or f k 0 < 256) (low : length f < 2 ^ 32) where
  by_fate : (kept : List Segment) (b : Box) (t : Fate) → fate_of limit f h kept b ≡ t → Stood f (record { box = b; fate = t }) → Behind f (record { box = b; fate = t })
  unfolding copy_of copy_size is
  by_fate kept b (dropped n) e stood =
      record {
        known = record { ready = λ new. record { long = refl; one = λ stays. absurd (false≢true stays) }; shorter = omega arith };
        no_ftyp = λ stays. absurd (false≢true stays);
        no_pfil = λ stays. absurd (false≢true stays);
      }
  by_fate kept b whole e stood =
      let (_, no_ftyp, no_pfil, _) = fate_whole limit f h kept b e in
      let long = length-box_bytes File f stood.end stood.read stood.inside in
      let one = whole_alone File f stood.end stood.read stood.inside in
      record {
        known = record { ready = λ new. record { long = long; one = λ _. one }; shorter = le_refl (b.end - b.at) };
        no_ftyp = λ _. no_ftyp;
        no_pfil = λ _. no_pfil;
      }
  by_fate kept b (of_pfil inner) e stood = absurd (fate_no_pfil limit f h kept b e)
  by_fate kept b (of_pseg s) e stood =
      let (kind, kept-too) = fate_pseg limit f h kept b e in
      let read = (beside_given limit f h kept b kept-too).1 in
      let code : b.kind ≡ pseg.code = eqb-true b.kind pseg.code kind in
      record {
        known =
            record {
              ready =
                  λ new.
                  record {
                    long = length-segment limit f h kept b s stood.end stood.read kind stood.inside low bytes read new;
                    one = λ _. segment_alone limit f h kept b s stood.end stood.read kind stood.inside low bytes read new;
                  };
              shorter = segment_shorter limit f h kept b s stood.end stood.read kind stood.inside low bytes read (λ place. place);
            };
        no_ftyp = λ _. rw code;
        no_pfil = λ _. rw code;
      }

  behind_all : (kept : List Segment) (bs : List Box) → Each (Stood f) (fates_from limit f h kept bs) → Each (Behind f) (fates_from limit f h kept bs)
  unfolding fates_from
  behind_all kept [] stood = tt
  behind_all kept (b ∷ bs) (here, there) =
      (by_fate kept b (fate_of limit f h kept b) refl here, behind_all (kept_with limit f h kept b) bs there)

-- the fates are those of the boxes, in their order
pub fates_boxed : (limit : ℕ) (f : List ℕ) (h : Heading) → opening f ≡ given h → map (λ x. x.box) (fates limit f h) ≡ h.boxes
unfolding fates
fates_boxed limit f h opens = rw (fates_boxes limit f h [] (drop 2 h.boxes)) (two_first h.boxes (opened f h opens).two)

module _ (limit : ℕ) (f : List ℕ) (h : Heading) (opens : opening f ≡ given h) (bytes : (k : ℕ) → get_or f k 0 < 256) where
  pub fates_all : map (λ x. x.box) (fates limit f h) ≡ h.boxes
  fates_all = fates_boxed limit f h opens

  fates_filled : Filled File f (opened f h opens).end 0 (map (λ x. x.box) (fates limit f h))
  fates_filled = rw fates_all (opened f h opens).filled

  pub fates_stood : Each (Stood f) (fates limit f h)
  fates_stood = filled_stood f (opened f h opens).end (opened f h opens).inside (fates limit f h) fates_filled

  -- the fates of those behind the first two
  abbrev others : List Fated
  others = fates_from limit f h [] (drop 2 h.boxes)

  others-behind : Each (Behind f) others
  unfolding fates
  others-behind = behind_all limit f h bytes (omega (arith, (opened f h opens).small)) [] (drop 2 h.boxes) fates_stood.1.1

  fates_known : Each (Known f) (fates limit f h)
  unfolding fates copy_size
  fates_known =
      let first : Known f (first_fated f h opens) = record {
        ready = λ new. record { long = first_long f h opens new; one = λ _. first_alone f h opens new };
        shorter = le_refl _;
      } in
      let second : Known f (second_fated f h opens) = record {
        ready = λ new. record { long = second_long f h opens new; one = λ _. second_alone f h opens new };
        shorter = second_shorter f h opens (λ place. place);
      } in
      (first, (second, each_by (Behind f) (Known f) (λ x b. b.known) others others-behind))

  pub fates_ready : (new : ℕ → ℕ) → Each (Ready f new) (fates limit f h)
  fates_ready new = each_by (Known f) (Ready f new) (λ x known. known.ready new) (fates limit f h) fates_known

  pub fates_chained : Chained 0 (fates limit f h)
  fates_chained = filled_chained f (opened f h opens).end (opened f h opens).inside (fates limit f h) fates_filled fates_known

  -- the copy is no longer than the file
  pub copy_shorter : length (copied f (fates limit f h)) ≤ length f
  unfolding copied
  copy_shorter =
      let new : ℕ → ℕ = new_place 0 (fates limit f h) in
      rw (pieces_long f new (fates limit f h) (fates_ready new))
      (omega (arith, chained_fits f 0 (fates limit f h) fates_chained fates_stood (omega arith)))

  -- its heading
  abbrev pub boxes_back : List Box
  boxes_back = boxes_anew 0 (fates limit f h)

  abbrev pub heading_back : Heading
  heading_back = heading_anew f h opens boxes_back

  -- its boxes: the first two and those that stay behind them, no more than there were
  boxes-back : boxes_back ≡ all_anew f h opens (new_place 0 (fates limit f h)) (copied f (fates limit f h)) (boxes_anew (copy_size (first_fated f h opens) + copy_size (second_fated f h opens)) others)
  unfolding fates boxes_anew
  boxes-back = rw (zero-add (copy_size (first_fated f h opens)))

  boxes_few : length boxes_back ≤ box_limit
  boxes_few = omega (arith, boxes_anew_few 0 (fates limit f h), simp length-map at (ap length fates_all), (opened f h opens).few)

  pub heading-copied : heading (copied f (fates limit f h)) ≡ given heading_back
  unfolding fates copied sum
  heading-copied =
      let xs = fates limit f h in
      let new : ℕ → ℕ = new_place 0 xs in
      let one = first_fated f h opens in
      let other = second_fated f h opens in
      let ready = fates_ready new in
      rw boxes-back
      (heading-back f h opens new (copied f xs) (boxes_anew (copy_size one + copy_size other) others) (omega (arith, copy_shorter, (opened f h opens).small))
      (rw boxes-back at (copy_filled f new xs ready))
      (rw boxes-back at boxes_few)
      (copy_stands f new [] one (other ∷ others) ready)
      (rw add-zero at (copy_stands f new (one ∷ []) other others ready))
      (kinds_anew ftyp _ others (each_by (Behind f) _ (λ x b. b.no_ftyp) others others-behind))
      (kinds_anew pfil _ others (each_by (Behind f) _ (λ x b. b.no_pfil) others others-behind)))
