-- What is put behind a file changes nothing in its heading but the list of the file's boxes, which the new boxes
-- follow.
use Prim.Native.Nat.{ℕ, zero, suc, ◌+◌, ◌-◌, ◌*◌, ◌/◌, ◌%◌, ◌≤◌, ◌<◌, max}
use mathlib.Core.Bool.{Bool, true, false, not, ◌&&◌}
use mathlib.Core.List.{List, [], ◌∷◌, ◌++◌, map}
use mathlib.Core.Path.{◌≡◌, refl, sym, ap, ap₂, subst, ◌∙◌}
use native.Mathlib.Decide.{dec_le}
use native.Mathlib.Omega.{arith}
use borrow.Author.Tests.{le-leb, leb-true, eqb-true}
use lib.Dec.{leb, eqb, lit<}
use lib.ListN.{length, get_or, take, drop, length-drop, get_or-append}
use lib.Seq.{take-append-le, drop-append-le}
use Rattle.boxes.specs.Answer.{given}
use Rattle.numerals.specs.Numbers.{number}
use Rattle.boxes.specs.Framing.{Box, boxes_in, box_limit}
use Rattle.boxes.specs.Kinds.{ftyp, pfil, pfhd, surl, is, right, those, box_at, first_of, no_box}
use Rattle.boxes.specs.declared.kinds.Kind.{Kind}
use Rattle.boxes.specs.declared.kinds.Container.{Container}
use Rattle.boxes.specs.declared.kinds.Container.TheVariants.{Pfil, File}
use Rattle.boxes.proofs.AnswerLaws.{both_given, held, given_same}
use Rattle.boxes.proofs.HeaderLaws.{moved}
use Rattle.boxes.proofs.ContainerLaws.{Filled, boxes_kept, boxes_appended, boxes_standing}
use Rattle.numerals.proofs.NumberLaws.{number_append}
use Rattle.boxes.proofs.KindLaws.{box_at_get_d, is_there, first_of-those, those_nth, right_one, box_at_first, right-append}
use Rattle.partial.specs.Limits.{file_limit}
use Rattle.partial.specs.Sequences.{all_of, stretch}
use Rattle.partial.specs.Heading.{ftyp_right, brands_from, brands, branded, pmff, brand_right, pfil_right, pfhd_formed, pfhd_right, text, url, mime}
use Rattle.partial.specs.Heading.{bytes_in, surl_formed, surl_right, urls_in, Heading, heading, file_boxes, judged}
use Rattle.partial.proofs.Meaning.SequenceLaws.{both, all_by, all_at}
use Rattle.partial.proofs.Meaning.StretchLaws.{stretch_first}

-- whether a box lies before a place
abbrev pub lies : ℕ → Box → Bool
lies end b = leb b.body b.end && leb b.end end

pub lies_ends : (end : ℕ) (b : Box) → lies end b ≡ true → b.end ≤ end
lies_ends end b h = leb-true b.end end (both (leb b.body b.end) (leb b.end end) h).1

-- the boxes of a container lie before its end
pub boxes_lie : (c : Container) (s : List ℕ) (start end : ℕ) (bs : List Box) → boxes_in c s start end ≡ given bs → all_of (lies end) bs ≡ true
boxes_lie c s start end bs known =
    all_by (lies end) no_box bs
    (λ k less.
    let b : Box = get_or bs k no_box in
    let box = rw (box_at_get_d k bs) at (boxes_standing c s start end known k less).inside in
    rw (le-leb b.body b.end box.whole, le-leb b.end end box.ends))

-- the box of a number that there is
pub all_box_at : (test : Box → Bool) (bs : List Box) (n : ℕ) → n < length bs → all_of test bs ≡ true → test (box_at n bs) ≡ true
all_box_at test bs n less all = rw box_at_get_d (all_at test no_box bs all n less)

-- those of a kind are among them
pub those_all : (k : Kind) (test : Box → Bool) (bs : List Box) → all_of test bs ≡ true → all_of test (those k bs) ≡ true
those_all k test bs all =
    all_by test no_box (those k bs)
    (λ n less.
    let (m, t) = those_nth k bs n less in
    rw (← (box_at_get_d n (those k bs)), t.same) (all_box_at test bs m t.there all))

-- a test that passes wherever another does and the box lies there
pub all_kept : {A : Type 0} (t u v : A → Bool) → ((x : A) → t x ≡ true → u x ≡ true → v x ≡ true) → (xs : List A) → all_of t xs ≡ true → all_of u xs ≡ true → all_of v xs ≡ true
unfolding all_of
all_kept t u v each [] h l = refl
all_kept t u v each (x ∷ xs) h l =
    let (here, there) = both (t x) (all_of t xs) h in
    let (lies-here, lies-there) = both (u x) (all_of u xs) l in
    rw (each x here lies-here) (all_kept t u v each xs there lies-there)

stretch_same : (t u : ℕ → Bool) (more at : ℕ) → ((i : ℕ) → at ≤ i → i < at + more → t i ≡ u i) → stretch t more at ≡ stretch u more at
unfolding stretch
stretch_same t u zero at same = refl
stretch_same t u (suc more) at same =
    ap₂ (λ (b : Bool) (n : ℕ). elim b as (λ _. ℕ) [ true ↦ suc n | false ↦ 0 ]) (same at (omega arith) (omega arith))
    (stretch_same t u more (suc at) (λ i low high. same i (omega arith) (omega arith)))

module _ (f g : List ℕ) where
  text-kept : (at end : ℕ) → end ≤ length f → text (f ++ g) at end ≡ text f at end
  unfolding text
  text-kept at end h =
      ap (λ (n : ℕ). record { place = at; size = n })
      (stretch_same (λ i. not (eqb (get_or (f ++ g) i 0) 0)) (λ i. not (eqb (get_or f i 0) 0)) (end - at) at
      (λ i low high. ap (λ (d : ℕ). not (eqb d 0)) (get_or-append f g 0 i (omega arith))))

  pub url_kept : (b : Box) → b.end ≤ length f → url (f ++ g) b ≡ url f b
  unfolding url
  url_kept b h = text-kept (b.body + 4) b.end h

  pub mime_kept : (b : Box) → b.end ≤ length f → mime (f ++ g) b ≡ mime f b
  unfolding mime
  mime_kept b h = rw (url_kept b h) (text-kept ((url f b).place + (url f b).size + 1) b.end h)

  surl_kept : (b : Box) → surl_formed f b ≡ true → lies (length f) b ≡ true → surl_formed (f ++ g) b ≡ true
  unfolding surl_formed
  surl_kept b h l =
      let front = (both (leb (b.body + 4) b.end && eqb (number f b.body 4) 0) _ h).0 in
      let within : b.body + 4 ≤ b.end = leb-true (b.body + 4) b.end (both (leb (b.body + 4) b.end) (eqb (number f b.body 4) 0) front).0 in
      let ends = lies_ends (length f) b l in
      rw (number_append f g b.body 4 (omega arith), mime_kept b ends) h

  pfhd_kept : (b : Box) → pfhd_formed f b ≡ true → lies (length f) b ≡ true → pfhd_formed (f ++ g) b ≡ true
  unfolding pfhd_formed
  pfhd_kept b h l =
      let whole : b.body + 4 ≡ b.end = eqb-true _ _ (both (eqb (b.body + 4) b.end) _ h).0 in
      let ends = lies_ends (length f) b l in
      rw (number_append f g b.body 1 (omega arith)) h

  brands_kept : (n at : ℕ) → at + 4 * n ≤ length f → brands_from (f ++ g) n at ≡ brands_from f n at
  unfolding brands_from
  brands_kept zero at h = refl
  brands_kept (suc n) at h = ap₂ (λ (m : ℕ) (ms : List ℕ). m ∷ ms) (number_append f g at 4 (omega arith)) (brands_kept n (at + 4) (omega arith))

-- the first of a kind that there is lies with the others
pub first_lies : (end : ℕ) (k : Kind) (bs : List Box) → 0 < length (those k bs) → all_of (lies end) bs ≡ true → lies end (first_of k bs) ≡ true
first_lies end k bs some all = rw first_of-those (all_box_at (lies end) (those k bs) 0 some (those_all k (lies end) bs all))

module _ (f g : List ℕ) where
  -- of `ftyp`: its brands
  pub brand_kept : (b : Box) → b.body + 8 ≤ b.end → b.end ≤ length f → brands (f ++ g) b ≡ brands f b
  unfolding brands
  brand_kept b room ends = brands_kept f g ((b.end - b.body - 8) / 4) (b.body + 8) (omega arith)

  -- of `pfil`: its boxes, which lie in it
  pub pfhd_right_kept : (bs : List Box) → pfhd_right f bs ≡ true → all_of (lies (length f)) bs ≡ true → pfhd_right (f ++ g) bs ≡ true
  unfolding pfhd_right
  pfhd_right_kept bs h l =
      let (one, formed) = both (right Pfil pfhd bs) (pfhd_formed f (first_of pfhd bs)) h in
      let single = right_one Pfil pfhd bs refl one in
      rw (one, pfhd_kept f g (first_of pfhd bs) formed (first_lies (length f) pfhd bs (omega arith) l))

  pub surl_right_kept : (bs : List Box) → surl_right f bs ≡ true → all_of (lies (length f)) bs ≡ true → surl_right (f ++ g) bs ≡ true
  unfolding surl_right
  surl_right_kept bs h l =
      all_kept (surl_formed f) (lies (length f)) (surl_formed (f ++ g)) (surl_kept f g) (those surl bs) h (those_all surl (lies (length f)) bs l)

  -- of a container: its URLs
  url_most : (b : Box) → (url f b).place + (url f b).size ≤ max (url f b).place b.end
  unfolding url text
  url_most b = omega (arith, (stretch_first (λ i. not (eqb (get_or f i 0) 0)) (b.end - (b.body + 4)) (b.body + 4)).most)

  url_bytes_kept : (b : Box) → b.end ≤ length f → bytes_in (f ++ g) (url (f ++ g) b) ≡ bytes_in f (url f b)
  unfolding bytes_in
  url_bytes_kept b ends = rw (url_kept f g b ends) (part_kept (url f b).place (url f b).size (url_most b))
    where
      part_kept : (place size : ℕ) → place + size ≤ max place b.end → take size (drop place (f ++ g)) ≡ take size (drop place f)
      part_kept place size most =
          elim (dec_le place (length f)) [
            | yes inside ↦
                rw (drop-append-le place f g inside) (take-append-le size (drop place f) g (rw length-drop (omega arith)))
            | no past ↦ let none : size ≡ 0 = omega arith in rw none
          ]

  pub urls_kept : (bs : List Box) → all_of (lies (length f)) bs ≡ true → urls_in (f ++ g) bs ≡ urls_in f bs
  unfolding urls_in all_of
  urls_kept bs lie = go (those surl bs) (those_all surl (lies (length f)) bs lie)
    where
      go : (cs : List Box) → all_of (lies (length f)) cs ≡ true → map (λ b. bytes_in (f ++ g) (url (f ++ g) b)) cs ≡ map (λ b. bytes_in f (url f b)) cs
      go [] all = refl
      go (c ∷ cs) all =
          let (here, there) = both (lies (length f) c) (all_of (lies (length f)) cs) all in
          ap₂ (λ (u : List ℕ) (us : List (List ℕ)). u ∷ us) (url_bytes_kept c (lies_ends (length f) c here)) (go cs there)

pub further_lie : (m n : ℕ) → m ≤ n → (bs : List Box) → all_of (lies m) bs ≡ true → all_of (lies n) bs ≡ true
further_lie m n h bs l =
    all_kept (lies m) (lies m) (lies n)
    (λ b one two. rw ((both (leb b.body b.end) (leb b.end m) one).0, le-leb b.end n (omega (arith, lies_ends m b one)))) bs l l

-- what stages 1 to 11 test, of the heading that they give
pub record Headed (f : List ℕ) (h : Heading) : Type 0 where
  pub small : leb (length f) file_limit ≡ true
  pub boxes : boxes_in File f 0 (length f) ≡ given h.boxes
  pub ftyp : ftyp_right h.boxes ≡ true
  pub brand : brand_right f h.boxes ≡ true
  pub pfil : pfil_right h.boxes ≡ true
  pub inner : boxes_in Pfil f (box_at 1 h.boxes).body (box_at 1 h.boxes).end ≡ given h.inner
  pub pfhd : pfhd_right f h.inner ≡ true
  pub surl : surl_right f h.inner ≡ true
  pub urls : h.urls ≡ urls_in f h.inner
  pub mixed : h.mixed ≡ branded pmff f h.boxes

module _ (f : List ℕ) (h : Heading) where
  pub headed : heading f ≡ given h → Headed f h
  unfolding heading file_boxes judged
  headed e =
      let (bs, framed, e2) = both_given (file_boxes f) _ e in
      let (small, boxes) = held 1 (leb (length f) file_limit) _ framed in
      let (ftyp, e7) = held 7 (ftyp_right bs) _ e2 in
      let (brand, e8) = held 8 (brand_right f bs) _ e7 in
      let (pfil, e9) = held 9 (pfil_right bs) _ e8 in
      let (is, inner, e6) = both_given (boxes_in Pfil f (box_at 1 bs).body (box_at 1 bs).end) _ e9 in
      let (pfhd, e10) = held 10 (pfhd_right f is) _ e6 in
      let (surl, e11) = held 11 (surl_right f is) _ e10 in
      subst (Headed f) (given_same e11)
      (record { small = small; boxes = boxes; ftyp = ftyp; brand = brand; pfil = pfil; inner = inner; pfhd = pfhd; surl = surl; urls = refl; mixed = refl })

  pub heading-of : Headed f h → heading f ≡ given h
  unfolding heading file_boxes judged
  heading-of t = rw (t.small, t.boxes, t.ftyp, t.brand, t.pfil, t.inner, t.pfhd, t.surl, ← t.urls, ← t.mixed)

-- a heading with more boxes behind the file's
abbrev pub with_boxes : Heading → List Box → Heading
with_boxes h more = record { boxes = h.boxes ++ more; inner = h.inner; urls = h.urls; mixed = h.mixed }

-- the second box of the file is its `pfil`, and what that holds lies in the file
module _ (f : List ℕ) (h : Heading) (t : Headed f h) where
  pfil_second : 1 < length h.boxes
  unfolding pfil_right
  pfil_second = is_there pfil (lit< tt) 1 h.boxes (both (is pfil (box_at 1 h.boxes)) (right File pfil h.boxes) t.pfil).0

  pfil_ends : (box_at 1 h.boxes).end ≤ length f
  pfil_ends =
      lies_ends (length f) (box_at 1 h.boxes) (all_box_at (lies (length f)) h.boxes 1 pfil_second (boxes_lie File f 0 (length f) h.boxes t.boxes))

  pub inner_lie : all_of (lies (length f)) h.inner ≡ true
  inner_lie =
      let b = box_at 1 h.boxes in
      further_lie b.end (length f) pfil_ends h.inner (boxes_lie Pfil f b.body b.end h.inner t.inner)

-- stages 1 to 11 of a file with more behind it
module _ (f g : List ℕ) (h : Heading) (cs : List Box) where
  ftyp_first : Headed f h → (0 < length h.boxes) × ((box_at 0 h.boxes).body + 8 ≤ (box_at 0 h.boxes).end)
  unfolding ftyp_right
  ftyp_first t =
      let b = box_at 0 h.boxes in
      let (three, one) = both (is ftyp b && leb (b.body + 8) b.end && eqb ((b.end - b.body) % 4) 0) (right File ftyp h.boxes) t.ftyp in
      let (two, fours) = both (is ftyp b && leb (b.body + 8) b.end) (eqb ((b.end - b.body) % 4) 0) three in
      let (kind, room) = both (is ftyp b) (leb (b.body + 8) b.end) two in
      (is_there ftyp (lit< tt) 0 h.boxes kind, leb-true (b.body + 8) b.end room)

  pub headed_appended : Headed f h → length (f ++ g) ≤ file_limit
      → Filled File g (length g) 0 cs
      → length h.boxes + length cs ≤ box_limit
      → those ftyp (map (moved (length f)) cs) ≡ []
      → those pfil (map (moved (length f)) cs) ≡ []
      → Headed (f ++ g) (with_boxes h (map (moved (length f)) cs))
  unfolding ftyp_right branded brand_right pfil_right
  headed_appended t fits new few no_ftyp no_pfil =
      let bs = h.boxes in
      let ds = map (moved (length f)) cs in
      let (first, room) = ftyp_first t in
      let second = pfil_second f h t in
      let lie = boxes_lie File f 0 (length f) bs t.boxes in
      let end-first = lies_ends (length f) (box_at 0 bs) (all_box_at (lies (length f)) bs 0 first lie) in
      let inside = inner_lie f h t in
      record {
        small = le-leb (length (f ++ g)) file_limit fits;
        boxes = boxes_appended File f g t.boxes new few;
        ftyp = rw (box_at_first bs ds 0 first, right-append File ftyp bs ds no_ftyp) t.ftyp;
        brand = rw (box_at_first bs ds 0 first, brand_kept f g (box_at 0 bs) room end-first) t.brand;
        pfil = rw (box_at_first bs ds 1 second, right-append File pfil bs ds no_pfil) t.pfil;
        inner = rw (box_at_first bs ds 1 second) (boxes_kept f g (box_at 1 bs).end (pfil_ends f h t) Pfil (box_at 1 bs).body ∙ t.inner);
        pfhd = pfhd_right_kept f g h.inner t.pfhd inside;
        surl = surl_right_kept f g h.inner t.surl inside;
        urls = t.urls ∙ sym (urls_kept f g h.inner inside);
        mixed = t.mixed ∙ rw (box_at_first bs ds 0 first, brand_kept f g (box_at 0 bs) room end-first);
      }
