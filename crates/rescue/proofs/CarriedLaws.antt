-- Boxes that were carried to another place say there what they said: their texts, fields and counts.
use Prim.Native.Nat.{ℕ, zero, suc, ◌+◌, ◌-◌, ◌<◌, ◌≤◌}
use mathlib.Core.Bool.{Bool, true, false, not, ◌&&◌, false≢true}
use mathlib.Core.List.{List, [], ◌∷◌, map}
use mathlib.Core.Logic.{inl, inr}
use mathlib.Core.Path.{◌≡◌, refl, sym, ap, ap₂, ◌∙◌}
use native.Mathlib.Decide.{dec_le}
use native.Mathlib.Nat.{add_assoc, add-zero, add-suc, suc-add}
use native.Mathlib.Omega.{arith}
use borrow.Author.Tests.{le-leb, leb-true, eqb-true, eqb-false, eq-eqb, ne_eqb}
use lib.Dec.{leb, eqb, lit<}
use lib.ListN.{length, get_or, take, drop, length-take, length-drop}
use lib.Seq.{ext_get_or, get_or-take, get_or-drop}
use Rattle.boxes.specs.Framing.{Box}
use Rattle.boxes.specs.declared.kinds.Kind.{Kind}
use Rattle.boxes.specs.declared.kinds.Container.{Container}
use Rattle.boxes.specs.declared.kinds.Container.TheVariants.{Pfil, Pseg}
use Rattle.boxes.specs.Kinds.{fidx, pshd, ploc, pfhd, surl, is, right, those, box_at, first_of}
use Rattle.boxes.proofs.KindLaws.{those-nil, those_one, those_other, those_nth, first_of-those, first_is, right_one}
use Rattle.numerals.specs.Numbers.{number}
use Rattle.numerals.proofs.NumberLaws.{number_same, past_end}
use Rattle.partial.specs.Sequences.{all_of, stretch}
use Rattle.partial.specs.Heading.{bytes_in, text, url, mime, surl_formed, surl_right, urls_in, pfhd_formed, pfhd_right}
use Rattle.partial.specs.Index.{has_index}
use Rattle.partial.specs.Reading.{offset_width_of, pshd_right, pshd_fields}
use Rattle.partial.proofs.Meaning.SequenceLaws.{which, both}
use Rattle.partial.proofs.Meaning.StretchLaws.{stretch_first}
use Rattle.rescue.specs.Copy.{unindexed}
use Rattle.rescue.proofs.Shapes.{Alike, Carries, Paired}

-- a box of a kind is of no other
other_kind : (k l : Kind) → eqb k.code l.code ≡ false → (b : Box) → is l b ≡ true → is k b ≡ false
unfolding is
other_kind k l differ b h = ne_eqb b.kind k.code (λ e. eqb-false k.code l.code differ (sym e ∙ eqb-true b.kind l.code h))

-- a stretch is as long wherever the tests are the same one by one
stretch_alike : (t u : ℕ → Bool) (more a c : ℕ) → ((i : ℕ) → i < more → u (c + i) ≡ t (a + i)) → stretch u more c ≡ stretch t more a
unfolding stretch
stretch_alike t u zero a c same = refl
stretch_alike t u (suc more) a c same =
    ap₂ (λ (b : Bool) (n : ℕ). elim b as (λ _. ℕ) [ true ↦ suc n | false ↦ 0 ]) (simp add-zero at (same 0 (omega arith)))
    (stretch_alike t u more (suc a) (suc c) (λ i less. rw (suc-add a i, ← (add-suc a i), suc-add c i, ← (add-suc c i)) (same (suc i) (omega arith))))

-- no byte of a text is 0, so all of it is in its file
text_inside : (f : List ℕ) (at end : ℕ) → (text f at end).size ≤ length f - at
unfolding text
text_inside f at end =
    let whole : ℕ → Bool = λ i. not (eqb (get_or f i 0) 0) in
    let n = stretch whole (end - at) at in
    elim (dec_le n (length f - at)) [
      | yes inside ↦ inside
      | no past ↦
          let zero-there : get_or f (at + (n - 1)) 0 ≡ 0 = sym (past_end f (at + (n - 1)) (omega arith)) in
          absurd (false≢true (ap (λ (d : ℕ). not (eqb d 0)) (sym zero-there) ∙ (stretch_first whole (end - at) at).before (n - 1) (omega arith)))
    ]

-- a text up to the end of bytes that were carried
module _ (f g : List ℕ) (a c end last : ℕ) (far : last - c ≡ end - a) (same : Alike f a g c (end - a)) where
  text_alike : (text g c last).size ≡ (text f a end).size
  unfolding text
  text_alike =
      rw far
      (stretch_alike (λ i. not (eqb (get_or f i 0) 0)) (λ i. not (eqb (get_or g i 0) 0)) (end - a) a c
      (λ i less. ap (λ (d : ℕ). not (eqb d 0)) (same i less)))

  text_most : (text f a end).size ≤ end - a
  unfolding text
  text_most = (stretch_first (λ i. not (eqb (get_or f i 0) 0)) (end - a) a).most

  text_bytes : bytes_in g (text g c last) ≡ bytes_in f (text f a end)
  unfolding bytes_in text
  text_bytes = part (text f a end).size (text g c last).size text_alike text_most (text_inside f a end) (text_inside g c last)
    where
      part : (n m : ℕ) → m ≡ n → n ≤ end - a → n ≤ length f - a → m ≤ length g - c → take m (drop c g) ≡ take n (drop a f)
      part n m e most one two =
          let there : length (take m (drop c g)) ≡ n = simp (length-take, length-drop) (omega arith) in
          let here : length (take n (drop a f)) ≡ n = simp (length-take, length-drop) (omega arith) in
          ext_get_or 0 (take m (drop c g)) (take n (drop a f)) (there ∙ sym here)
          (λ i less.
          get_or-take m (drop c g) i 0 (omega arith)
          ∙ get_or-drop c g i 0
          ∙ same i (omega arith)
          ∙ sym (get_or-take n (drop a f) i 0 (omega arith) ∙ get_or-drop a f i 0))

-- a box that was carried
module _ (f g : List ℕ) (b c : Box) (carried : Carries f g b c) where
  carried_kind : (k : Kind) → is k c ≡ is k b
  unfolding is
  carried_kind k = ap (λ (x : Box). eqb x.kind k.code) carried.same

  carried_body : c.body ≡ c.at + (b.body - b.at)
  carried_body = ap (λ (x : Box). x.body) carried.same

  carried_end : c.end ≡ c.at + (b.end - b.at)
  carried_end = ap (λ (x : Box). x.end) carried.same

  carried_size : (n : ℕ) → c.end - (c.body + n) ≡ b.end - (b.body + n)
  carried_size n = omega (arith, carried_body, carried_end)

  -- and is no `ploc`: its bytes are the same from any of its body on
  module _ (other : is ploc b ≡ false) where
    body_alike : (n : ℕ) → Alike f (b.body + n) g (c.body + n) (b.end - (b.body + n))
    body_alike n i less =
        let k : ℕ = b.body - b.at + n + i in
        let to : c.body + n + i ≡ c.at + k = omega (arith, carried_body) in
        let from : b.body + n + i ≡ b.at + k = omega arith in
        rw (to, from) (carried.bytes other k (omega arith))

    carried-number : (n w : ℕ) → b.body + n + w ≤ b.end → number g (c.body + n) w ≡ number f (b.body + n) w
    carried-number n w fits = number_same g f (c.body + n) (b.body + n) w (λ k less. body_alike n k (omega arith))

    carried_first : (w : ℕ) → b.body + w ≤ b.end → number g c.body w ≡ number f b.body w
    carried_first w fits = simp add-zero at (carried-number 0 w (omega arith))

    carried-text : (n : ℕ) → (text g (c.body + n) c.end).size ≡ (text f (b.body + n) b.end).size
    carried-text n = text_alike f g (b.body + n) (c.body + n) b.end c.end (carried_size n) (body_alike n)

    carried-url_size : (url g c).size ≡ (url f b).size
    unfolding url
    carried-url_size = carried-text 4

    carried-url : bytes_in g (url g c) ≡ bytes_in f (url f b)
    unfolding url
    carried-url = text_bytes f g (b.body + 4) (c.body + 4) b.end c.end (carried_size 4) (body_alike 4)

    carried-mime_size : (mime g c).size ≡ (mime f b).size
    unfolding mime url text
    carried-mime_size = behind (url f b).size (url g c).size carried-url_size
      where
        behind : (n m : ℕ) → m ≡ n → (text g (c.body + 4 + m + 1) c.end).size ≡ (text f (b.body + 4 + n + 1) b.end).size
        behind n m e =
            let to : c.body + 4 + m + 1 ≡ c.body + (4 + n + 1) = omega arith in
            let from : b.body + 4 + n + 1 ≡ b.body + (4 + n + 1) = omega arith in
            rw (to, from) (carried-text (4 + n + 1))

    carried-surl : surl_formed f b ≡ true → surl_formed g c ≡ true
    unfolding surl_formed mime url text
    carried-surl formed =
        let (front, closed) = both (leb (b.body + 4) b.end && eqb (number f b.body 4) 0) _ formed in
        let (long, flagless) = both (leb (b.body + 4) b.end) (eqb (number f b.body 4) 0) front in
        let room : b.body + 4 ≤ b.end = leb-true (b.body + 4) b.end long in
        let ends : b.body + 4 + (url f b).size + 1 + (mime f b).size + 1 ≡ b.end = eqb-true _ _ closed in
        let url-size = carried-url_size in
        let mime-size = carried-mime_size in
        let end : c.body + 4 + (url g c).size + 1 + (mime g c).size + 1 ≡ c.end = omega (arith, carried_body, carried_end) in
        rw (le-leb (c.body + 4) c.end (omega arith), carried_first 4 room, flagless) (eq-eqb _ _ end)

    carried-pfhd : pfhd_formed f b ≡ true → pfhd_formed g c ≡ true
    unfolding pfhd_formed
    carried-pfhd formed =
        let (ends, version) = both (eqb (b.body + 4) b.end) (eqb (number f b.body 1) 0) formed in
        let whole : b.body + 4 ≡ b.end = eqb-true (b.body + 4) b.end ends in
        let end : c.body + 4 ≡ c.end = omega (arith, carried_body, carried_end) in
        rw (eq-eqb (c.body + 4) c.end end, carried_first 1 (omega arith)) version

    -- a `pshd` whose fields fill it
    module _ (whole : eqb (pshd_fields f b).end b.end ≡ true) where
      carried_width : (b.body + 4 + offset_width_of (number f b.body 1) + 8 ≡ b.end) × (offset_width_of (number g c.body 1) ≡ offset_width_of (number f b.body 1))
      unfolding pshd_fields
      carried_width =
          let filled : b.body + 4 + offset_width_of (number f b.body 1) + 8 ≡ b.end = eqb-true _ _ whole in
          (filled, ap offset_width_of (carried_first 1 (omega arith)))

      carried-pshd : eqb (pshd_fields g c).end c.end ≡ true
      unfolding pshd_fields
      carried-pshd =
          let (filled, width) = carried_width in
          let end : c.body + 4 + offset_width_of (number g c.body 1) + 8 ≡ c.end = omega (arith, carried_body, carried_end) in
          eq-eqb _ c.end end

      carried_fields : ((pshd_fields g c).flags ≡ (pshd_fields f b).flags)
          × ((pshd_fields g c).source_offset ≡ (pshd_fields f b).source_offset)
          × ((pshd_fields g c).repair_time ≡ (pshd_fields f b).repair_time)
          × (c.end - c.body ≡ b.end - b.body)
      unfolding pshd_fields
      carried_fields =
          let (filled, width) = carried_width in
          let n : ℕ = offset_width_of (number f b.body 1) in
          let last = carried-number (4 + n) 8 (omega arith) in (
            carried-number 1 3 (omega arith),
            rw width (carried-number 4 n (omega arith)),
            rw (width, add_assoc c.body 4 n, add_assoc b.body 4 n) last,
            omega (arith, carried_size 0),
          )

-- what refusal 14 asks, part by part
pshd_parts : (f : List ℕ) (bs : List Box) → pshd_right f bs ≡ true
    → (is pshd (box_at 0 bs) ≡ true) × (right Pseg pshd bs ≡ true) × (eqb (pshd_fields f (box_at 0 bs)).end (box_at 0 bs).end ≡ true)
unfolding pshd_right
pshd_parts f bs formed =
    let (front, whole) = both (is pshd (box_at 0 bs) && right Pseg pshd bs) _ formed in
    let (kind, one) = both (is pshd (box_at 0 bs)) (right Pseg pshd bs) front in
    (kind, one, whole)

module _ (f g : List ℕ) where
  -- what holds of the boxes of a kind and of where they stand, box by box
  by_those : (k : Kind) (P : List Box → List Box → Type 0) → P [] []
      → ((b c : Box) (bs cs : List Box) → Carries f g b c → is k b ≡ true → P bs cs → P (b ∷ bs) (c ∷ cs))
      → (bs cs : List Box) → Paired f g bs cs → P (those k bs) (those k cs)
  by_those k P none more [] [] paired = rw (those-nil k) none
  by_those k P none more [] (c ∷ cs) paired = absurd paired
  by_those k P none more (b ∷ bs) [] paired = absurd paired
  by_those k P none more (b ∷ bs) (c ∷ cs) (here, there) =
      let rest = by_those k P none more bs cs there in
      let kind = carried_kind f g b c here k in
      elim (which (is k b)) [
        | inl e ↦ rw (those_one k b bs e, those_one k c cs (kind ∙ e)) (more b c (those k bs) (those k cs) here e rest)
        | inr e ↦ rw (those_other k b bs e, those_other k c cs (kind ∙ e)) rest
      ]

  -- the boxes of a kind are carried in their order
  pub paired_those : (k : Kind) (bs cs : List Box) → Paired f g bs cs → Paired f g (those k bs) (those k cs)
  paired_those k = by_those k (Paired f g) tt (λ b c bs cs here kind there. (here, there))

  pub paired_many : (bs cs : List Box) → Paired f g bs cs → length cs ≡ length bs
  paired_many [] [] paired = refl
  paired_many [] (c ∷ cs) paired = absurd paired
  paired_many (b ∷ bs) [] paired = absurd paired
  paired_many (b ∷ bs) (c ∷ cs) (here, there) = ap suc (paired_many bs cs there)

  pub paired_right : (c : Container) (k : Kind) (bs cs : List Box) → Paired f g bs cs → right c k cs ≡ right c k bs
  unfolding right
  paired_right c k bs cs paired = rw (paired_many (those k bs) (those k cs) (paired_those k bs cs paired))

  paired_head : (bs cs : List Box) → Paired f g bs cs → Carries f g (box_at 0 bs) (box_at 0 cs)
  unfolding box_at
  paired_head [] [] paired = record { typed = omega arith; headed = omega arith; ended = omega arith; same = refl; bytes = λ other i less. absurd (omega arith) }
  paired_head [] (c ∷ cs) paired = absurd paired
  paired_head (b ∷ bs) [] paired = absurd paired
  paired_head (b ∷ bs) (c ∷ cs) (here, there) = here

  -- and so is the first of a kind
  pub paired_first : (k : Kind) (bs cs : List Box) → Paired f g bs cs → Carries f g (first_of k bs) (first_of k cs)
  unfolding first_of
  paired_first k bs cs paired = paired_head (those k bs) (those k cs) (paired_those k bs cs paired)

  pub paired_surls : (bs cs : List Box) → Paired f g bs cs → surl_right f bs ≡ true → surl_right g cs ≡ true
  unfolding surl_right all_of
  paired_surls =
      by_those surl (λ xs ys. all_of (surl_formed f) xs ≡ true → all_of (surl_formed g) ys ≡ true) (λ h. refl)
      (λ b c bs cs carried kind rest formed.
      let (here, there) = both (surl_formed f b) (all_of (surl_formed f) bs) formed in
      rw (carried-surl f g b c carried (other_kind ploc surl refl b kind) here) (rest there))

  pub paired_urls : (bs cs : List Box) → Paired f g bs cs → surl_right f bs ≡ true → urls_in g cs ≡ urls_in f bs
  unfolding urls_in
  paired_urls bs cs paired formed =
      by_those surl (λ xs ys. map (λ c. bytes_in g (url g c)) ys ≡ map (λ b. bytes_in f (url f b)) xs) refl
      (λ b c bs cs carried kind rest.
      ap₂ (λ (u : List ℕ) (us : List (List ℕ)). u ∷ us) (carried-url f g b c carried (other_kind ploc surl refl b kind)) rest) bs cs paired

  pub paired_pshd : (bs cs : List Box) → Paired f g bs cs → pshd_right f bs ≡ true → pshd_right g cs ≡ true
  unfolding pshd_right
  paired_pshd bs cs paired formed =
      let (kind, one, whole) = pshd_parts f bs formed in
      let carried = paired_head bs cs paired in
      rw (carried_kind f g (box_at 0 bs) (box_at 0 cs) carried pshd, kind, paired_right Pseg pshd bs cs paired, one)
      (carried-pshd f g (box_at 0 bs) (box_at 0 cs) carried (other_kind ploc pshd refl (box_at 0 bs) kind) whole)

  -- the fields of the `pshd` are what they were
  pub paired_fields : (bs cs : List Box) → Paired f g bs cs → pshd_right f bs ≡ true
      → ((pshd_fields g (first_of pshd cs)).flags ≡ (pshd_fields f (first_of pshd bs)).flags)
      × ((pshd_fields g (first_of pshd cs)).source_offset ≡ (pshd_fields f (first_of pshd bs)).source_offset)
      × ((pshd_fields g (first_of pshd cs)).repair_time ≡ (pshd_fields f (first_of pshd bs)).repair_time)
      × ((first_of pshd cs).end - (first_of pshd cs).body ≡ (first_of pshd bs).end - (first_of pshd bs).body)
  paired_fields bs cs paired formed =
      let (kind, one, whole) = pshd_parts f bs formed in
      let first = first_is pshd (lit< tt) bs kind in
      carried_fields f g (first_of pshd bs) (first_of pshd cs) (paired_first pshd bs cs paired)
      (other_kind ploc pshd refl (first_of pshd bs) (rw first kind)) (rw first whole)

  pub paired_pfhd : (bs cs : List Box) → Paired f g bs cs → pfhd_right f bs ≡ true → pfhd_right g cs ≡ true
  unfolding pfhd_right
  paired_pfhd bs cs paired formed =
      let (one, first) = both (right Pfil pfhd bs) (pfhd_formed f (first_of pfhd bs)) formed in
      let single = right_one Pfil pfhd bs refl one in
      let (m, t) = those_nth pfhd bs 0 (omega arith) in
      let kind : is pfhd (first_of pfhd bs) ≡ true = rw (first_of-those, t.same) t.kind in
      rw (paired_right Pfil pfhd bs cs paired, one)
      (carried-pfhd f g (first_of pfhd bs) (first_of pfhd cs) (paired_first pfhd bs cs paired) (other_kind ploc pfhd refl (first_of pfhd bs) kind) first)

-- what holds of boxes with the index and without it, box by box
by_unindexed : (P : List Box → List Box → Type 0) → P [] []
    → ((b : Box) (bs cs : List Box) → is fidx b ≡ true → P bs cs → P (b ∷ bs) cs)
    → ((b : Box) (bs cs : List Box) → is fidx b ≡ false → P bs cs → P (b ∷ bs) (b ∷ cs))
    → (bs : List Box) → P bs (unindexed bs)
unfolding unindexed
by_unindexed P none gone left [] = none
by_unindexed P none gone left (b ∷ bs) =
    let rest = by_unindexed P none gone left bs in
    elim (which (is fidx b)) [
      | inl e ↦ rw (e, unindexed) (gone b bs (unindexed bs) e rest)
      | inr e ↦ rw (e, unindexed) (left b bs (unindexed bs) e rest)
    ]

-- without the index nothing else goes
pub unindexed-those : (k : Kind) → eqb k.code fidx.code ≡ false → (bs : List Box) → those k (unindexed bs) ≡ those k bs
unfolding those
unindexed-those k other =
    by_unindexed (λ xs ys. those k ys ≡ those k xs) refl
    (λ b bs cs index rest. rest ∙ sym (those_other k b bs (other_kind k fidx other b index)))
    (λ b bs cs _ rest. ap (λ l. elim (is k b) as (λ _. List Box) [ true ↦ b ∷ l | false ↦ l ]) rest)

pub unindexed-right : (c : Container) (k : Kind) → eqb k.code fidx.code ≡ false → (bs : List Box) → right c k (unindexed bs) ≡ right c k bs
unfolding right
unindexed-right c k other bs = rw (unindexed-those k other bs)

pub unindexed_few : (bs : List Box) → length (unindexed bs) ≤ length bs
unindexed_few =
    by_unindexed (λ xs ys. length ys ≤ length xs) (omega arith) (λ b bs cs index few. omega arith) (λ b bs cs other few. omega arith)

pub unindexed-surls : (f : List ℕ) (bs : List Box) → surl_right f (unindexed bs) ≡ surl_right f bs
unfolding surl_right
unindexed-surls f bs = rw (unindexed-those surl refl bs)

pub unindexed_urls : (f : List ℕ) (bs : List Box) → urls_in f (unindexed bs) ≡ urls_in f bs
unfolding urls_in
unindexed_urls f bs = rw (unindexed-those surl refl bs)

unindexed_head : (bs : List Box) → is fidx (box_at 0 bs) ≡ false → box_at 0 (unindexed bs) ≡ box_at 0 bs
unfolding unindexed box_at
unindexed_head [] other = refl
unindexed_head (b ∷ bs) other = rw (other, unindexed)

pub unindexed-pshd : (f : List ℕ) (bs : List Box) → pshd_right f bs ≡ true → pshd_right f (unindexed bs) ≡ true
unfolding pshd_right
unindexed-pshd f bs formed =
    let (kind, one, whole) = pshd_parts f bs formed in
    rw (unindexed_head bs (other_kind fidx pshd refl (box_at 0 bs) kind), unindexed-right Pseg pshd refl bs) formed

pub unindexed-pfhd : (f : List ℕ) (bs : List Box) → pfhd_right f bs ≡ true → pfhd_right f (unindexed bs) ≡ true
unfolding pfhd_right first_of
unindexed-pfhd f bs formed = rw (unindexed-right Pfil pfhd refl bs, unindexed-those pfhd refl bs) formed

no_index_lem : (bs : List Box) → those fidx (unindexed bs) ≡ []
no_index_lem =
    by_unindexed (λ xs ys. those fidx ys ≡ []) (those-nil fidx) (λ b bs cs index rest. rest)
    (λ b bs cs other rest. those_other fidx b cs other ∙ rest)

-- where it was carried it has none
pub unindexed_none : (f g : List ℕ) (bs cs : List Box) → Paired f g (unindexed bs) cs → has_index cs ≡ false
unfolding has_index
unindexed_none f g bs cs paired =
    let many = paired_many f g (those fidx (unindexed bs)) (those fidx cs) (paired_those f g fidx (unindexed bs) cs paired) in
    rw (many, no_index_lem bs)
