-- Laws of what stands in the copy for a box, by its fate.
use Prim.Native.Nat.{ℕ, zero, suc, ◌+◌, ◌-◌, ◌^◌, ◌≤◌, ◌<◌}
use mathlib.Core.Bool.{true, false, false≢true}
use mathlib.Core.List.Memᴰ
use mathlib.Core.List.{List, [], ◌∷◌, ◌++◌, append_assoc, Memᴰ}
use mathlib.Core.Logic.{inl, inr, ⊎_elim}
use Rattle.std.specs.Prelude.{Option, None, Some, Ok}
use mathlib.Core.Path.{◌≡◌, refl, sym, ap, subst, ◌∙◌}
use native.Mathlib.Omega.{arith}
use borrow.Author.Tests.{leb-true, eqb-true}
use lib.Dec.{eqb}
use lib.ListN.{length, get_or, take}
use Rattle.boxes.specs.Answer.{given}
use Rattle.boxes.specs.Framing.{Box, boxes_in, uuid}
use Rattle.boxes.specs.Kinds.{pfil, pseg, ploc, pshd, is, those, first_of, box_at}
use Rattle.boxes.specs.declared.kinds.Container.{Container}
use Rattle.boxes.specs.declared.kinds.Container.TheVariants.{File, Pfil, Pseg}
use Rattle.boxes.specs.declared.kinds.Kind.{Kind}
use Rattle.boxes.proofs.AnswerLaws.{given_same}
use Rattle.boxes.proofs.ContainerLaws.{boxes_filled, boxes_standing}
use Rattle.boxes.proofs.KindLaws.{right_one, those_one, those_other, first_of-those}
use Rattle.numerals.specs.Numbers.{bytes_of}
use Rattle.fields.specs.Location.{ploc_of}
use Rattle.fields.specs.declared.location.Location.{Location}
use Rattle.fields.proofs.LocationLaws.{location_given}
use Rattle.partial.specs.BoxList.{each}
use Rattle.partial.specs.Entries.{Ploc, ploc_head, chunks_from}
use Rattle.partial.specs.Heading.{Heading}
use Rattle.partial.specs.Limits.{source_limit}
use Rattle.partial.specs.Reading.{segment, pshd_fields}
use Rattle.partial.specs.Segments.{Segment}
use Rattle.partial.specs.Sequences.{sum}
use Rattle.partial.proofs.Meaning.SequenceLaws.{which, Each}
use Rattle.partial.proofs.Reading.KeptLaws.{stepped}
use Rattle.puts.specs.Pieces.{PutsPieces}
use Rattle.puts.proofs.PieceLaws.{pieces_same, pieces_more, pieces_none}
use Rattle.rescue.specs.Copy.{unindexed, size_of, box_bytes, inner_bytes, reheaded, copy_size, copy_of, copied}
use Rattle.rescue.specs.Kept.{Fate, dropped, whole, of_pfil, of_pseg, Fated}
use Rattle.rescue.specs.Table.{code_for}
use Rattle.rescue.proofs.CopyLaws.{staying, Ready}
use Rattle.rescue.proofs.FateLaws.{segments_of, kept_all}
use Rattle.rescue.proofs.HeadingLaws.{opened, filled_size}
use Rattle.rescue.proofs.LieLaws.{kept_lie}
use Rattle.rescue.proofs.PieceLaws.{length-reheaded}
use Rattle.rescue.proofs.PlocLaws.{Lies}
use Rattle.rescue.proofs.TableLaws.{no_fated}
use Rattle.rescue.proofs.WholeLaws.{fates_ready, heading_back}
use Rattle.salvaging.specs.Inner.{PlocsRead, head_of}
use Rattle.salvaging.specs.Tables.{fates_in, fate_at, start_of, Sound, new_in}
use Rattle.salvaging.proofs.LinesLaws.{take_all, each_more}
use Rattle.salvaging.proofs.SoundLaws.{box-held, fates_long}
use Rattle.salvaging.proofs.TableLaws.{segment_inner, by_fate, box_stands, copy_shorter, told, start_more, start_low}

-- ---- a container

-- its header and its body
head_body : (b : Box) (body : List ℕ) → head_of b (length body) ++ body ≡ reheaded b body
unfolding head_of reheaded
head_body b body =
    elim (which (eqb b.body (b.at + 16))) [
      | inl e ↦
          rw (head_of, reheaded, e)
          (append_assoc (bytes_of 4 1) (bytes_of 4 b.kind ++ bytes_of 8 (16 + length body)) body
          ∙ ap (λ (rest : List ℕ). bytes_of 4 1 ++ rest) (append_assoc (bytes_of 4 b.kind) (bytes_of 8 (16 + length body)) body))
      | inr e ↦ rw (head_of, reheaded, e)
    ]

pub reheaded_put : (b : Box) (body : List ℕ) {n : ℕ} → n ≡ length body → {s t u : List ℕ} {at m k : ℕ} → PutsPieces s at (head_of b n) t m → PutsPieces t m body u k
    → PutsPieces s at (reheaded b body) u k
reheaded_put b body size p q = pieces_same (ap (λ (n : ℕ). head_of b n ++ body) size ∙ head_body b body) (pieces_more p q)

-- what is in it is short
module _ (f : List ℕ) (h : Heading) (sound : Sound f h) (c : Container) (start end : ℕ) (ends : end ≤ length f) (whole : start ≤ end) {bs : List Box} (known : boxes_in c f start end ≡ given bs) where
  pub container_low : (start < 2 ^ 32) × (end < 2 ^ 32) × (size_of (unindexed bs) < 2 ^ 31)
  container_low =
      let small = (opened f h sound.opens).small in
      (omega arith, omega arith, omega (arith, filled_size c f end whole (boxes_filled c f start end known)))

-- ---- the `ploc` of a segment

module _ (k : Kind) where
  -- a box of a kind is among those of the kind
  member_those : (bs : List Box) (c : Box) → Memᴰ c bs → is k c ≡ true → Memᴰ c (those k bs)
  member_those [] c there kind = absurd (Memᴰ.not-nil there)
  member_those (b ∷ bs) c there kind =
      elim (which (is k b)) [
        | inl e ↦
            subst (Memᴰ c) (sym (those_one k b bs e))
            (⊎_elim (λ same. Memᴰ.head same) (λ further. Memᴰ.tail (member_those bs c further kind)) (Memᴰ.cases_cons there))
        | inr e ↦
            subst (Memᴰ c) (sym (those_other k b bs e))
            (⊎_elim (λ same. absurd (false≢true (sym e ∙ ap (is k) (sym same) ∙ kind))) (λ further. member_those bs c further kind) (Memᴰ.cases_cons there))
      ]

-- the only one of a list
only_one : (bs : List Box) (c : Box) → length bs ≡ 1 → Memᴰ c bs → box_at 0 bs ≡ c
unfolding box_at
only_one [] c one there = absurd (omega arith)
only_one (b ∷ []) c one there = ⊎_elim (λ same. sym same) (λ further. absurd (Memᴰ.not-nil further)) (Memᴰ.cases_cons there)
only_one (b ∷ a ∷ bs) c one there = absurd (omega arith)

-- a head that was read is told so
told_head : (f : List ℕ) (b : Box) {p : Ploc} → ploc_head f b ≡ given p → (l : Location) × (ploc_head f b ≡ given (ploc_of l))
told_head f b {p} head =
    let l : Location = record { length_size = p.length_size; offset_size = p.offset_size; count = p.count; first = record { 0 = p.first }; end = record { 0 = p.end } } in
    (l, location_given f b {r = Ok l} (sym head) refl)

plocs_read : (f : List ℕ) (h : Heading) (before : List Segment) (b : Box) {s : Segment} → segment source_limit f h before b ≡ given s → PlocsRead f h b.at s s.inner
plocs_read f h before b read =
    let (inner, p, cs, t, same) = stepped source_limit f h before b read in
    subst (λ (s : Segment). PlocsRead f h b.at s s.inner) same
    (λ c there kind.
    let first : first_of ploc inner ≡ c =
    first_of-those ploc inner ∙ only_one (those ploc inner) c (right_one Pseg ploc inner refl t.single) (member_those ploc inner c there kind) in
    let head = ap (ploc_head f) (sym first) ∙ t.head in
    let (l, known) = told_head f c head in (
      l,
      known,
      record {
        start = (pshd_fields f (first_of pshd inner)).source_offset;
        low = leb-true (pshd_fields f (first_of pshd inner)).source_offset source_limit t.low;
        place = refl;
        chunks = subst (λ (p : Ploc). chunks_from source_limit f h b.at p p.count (record { at = p.first; start = (pshd_fields f (first_of pshd inner)).source_offset }) ≡ given cs) (given_same (sym head ∙ known)) t.chunks;
      },
    ))

-- ---- a box by its fate

-- the segment of one that stays is among those that do
segment_in : (xs : List Fated) (k : ℕ) (s : Segment) → k < length xs → (get_or xs k no_fated).fate ≡ of_pseg s → Memᴰ s (segments_of xs)
unfolding segments_of
segment_in [] k s there e = absurd (omega arith)
segment_in (x ∷ xs) zero s there e = rw e (Memᴰ.head refl)
segment_in (x ∷ xs) (suc k) s there e = go x.fate (segment_in xs k s (omega arith) e)
  where
    go : (t : Fate) → Memᴰ s (segments_of xs)
        → Memᴰ s (elim t [ dropped n ↦ segments_of xs | whole ↦ segments_of xs | of_pfil inner ↦ segments_of xs | of_pseg s ↦ s ∷ segments_of xs ])
    go (dropped n) further = further
    go whole further = further
    go (of_pfil inner) further = further
    go (of_pseg t) further = Memᴰ.tail further

-- what holds of each holds of the one of a number
each_at : (P : Fated → Type 0) (xs : List Fated) → Each P xs → (k : ℕ) → k < length xs → P (get_or xs k no_fated)
each_at P [] all k there = absurd (omega arith)
each_at P (x ∷ xs) (here, all) zero there = here
each_at P (x ∷ xs) (here, all) (suc k) there = each_at P xs all k (omega arith)

module _ (f : List ℕ) (h : Heading) (sound : Sound f h) (bytes : (k : ℕ) → get_or f k 0 < 256) (k : ℕ) (there : k < length h.boxes) where
  abbrev new : ℕ → ℕ
  new = new_in f h

  abbrev text : List ℕ
  text = copy_of f new (fate_at f h k)

  in-fates : k < length (fates_in f h)
  in-fates = rw (fates_long f h sound) there

  -- as long as was counted
  pub copy_long : length text ≡ copy_size (fate_at f h k)
  copy_long = (each_at (Ready f new) (fates_in f h) (fates_ready source_limit f h sound.opens bytes new) k in-fates).long

  fated_as : {t : Fate} → (fate_at f h k).fate ≡ t → fate_at f h k ≡ record { box = box_at k h.boxes; fate = t }
  fated_as e = λ i. record { box = box-held f h sound k i; fate = e i }

  abbrev copy : Heading
  copy = heading_back source_limit f h sound.opens bytes

  -- a container with these boxes inside, of which each has a text
  pub record Contains (b : Box) (c : Container) (inner : List Box) (one : Box → List ℕ) : Type 0 where
    pub known : boxes_in c f b.body b.end ≡ given inner
    pub long : length (each one (unindexed inner)) ≡ size_of (unindexed inner)
    pub same : reheaded b (each one (unindexed inner)) ≡ text

  contains : (c : Container) (inner : List Box) (one : Box → List ℕ)
      → let b = box_at k h.boxes in
      eqb b.kind uuid ≡ false → boxes_in c f b.body b.end ≡ given inner → reheaded b (each one (unindexed inner)) ≡ text
      → copy_size (fate_at f h k) ≡ b.body - b.at + size_of (unindexed inner) → Contains b c inner one
  contains c inner one other known same size =
      let stands = boxes_standing File f 0 (length f) sound.boxes k there in
      let all = length-reheaded File f (length f) stands.read other (each one (unindexed inner)) in
      record { known = known; long = omega (arith, all, ap length same, copy_long, size); same = same }

  -- a `pseg` that stays
  pub record Segmented (b : Box) : Type 0 where
    pub s : Segment
    pub contents : Contains b Pseg s.inner (inner_bytes f new s)
    pub read : PlocsRead f h b.at s s.inner
    pub lie : Each (Lies new s.place copy) s.chunks

  -- by the code of the fate
  module _ {code : Option ℕ} (coded : code ≡ code_for f h k) {b : Box} (is-box : b ≡ box_at k h.boxes) where
    pub copied_none : {n : ℕ} → code ≡ Some n → [] ≡ text
    unfolding copy_of
    copied_none goes = sym (ap (copy_of f new) (fated_as ((told f h sound k there coded is-box).goes goes)))

    module _ (stays : code ≡ None) where
      pub copied_whole : (k ≡ 1 → ⊥) → is pseg b ≡ false → box_bytes f b ≡ text
      unfolding copy_of
      copied_whole other kind =
          by_fate f h sound (λ t. (fate_at f h k).fate ≡ t → staying t ≡ true → box_bytes f b ≡ text) k there (λ n _ stays. absurd (false≢true stays))
          (λ _ _ e _. ap (box_bytes f) is-box ∙ sym (ap (copy_of f new) (fated_as e))) (λ second _ _ _. absurd (other second))
          (λ _ one _ _ _ _ _. absurd (false≢true (sym (rw is-box at kind) ∙ one))) refl ((told f h sound k there coded is-box).stays stays)

      pub copied-pfil : k ≡ 1 → Contains b Pfil h.inner (box_bytes f)
      unfolding copy_of copy_size is
      copied-pfil second =
          subst (λ (b : Box). Contains b Pfil h.inner (box_bytes f)) (sym is-box)
          (by_fate f h sound (λ t. (fate_at f h k).fate ≡ t → staying t ≡ true → Contains (box_at k h.boxes) Pfil h.inner (box_bytes f)) k there
          (λ n _ stays. absurd (false≢true stays)) (λ other _ _ _. absurd (other second))
          (λ _ known e _. contains Pfil h.inner (box_bytes f)
          (rw (second, eqb-true (box_at 1 h.boxes).kind pfil.code (opened f h sound.opens).second)) known (sym (ap (copy_of f new) (fated_as e))) (ap copy_size (fated_as e)))
          (λ other _ _ _ _ _ _. absurd (other second)) refl ((told f h sound k there coded is-box).stays stays))

      pub copied-pseg : (k ≡ 1 → ⊥) → is pseg b ≡ true → Segmented b
      unfolding copy_of copy_size is
      copied-pseg other kind =
          subst Segmented (sym is-box)
          (by_fate f h sound (λ t. (fate_at f h k).fate ≡ t → staying t ≡ true → Segmented (box_at k h.boxes)) k there
          (λ n _ stays. absurd (false≢true stays)) (λ _ apart _ _. absurd (false≢true (sym apart ∙ rw is-box at kind))) (λ second _ _ _. absurd (other second))
          (λ _ one s before read e _.
          record {
            s = s;
            contents =
                contains Pseg s.inner (inner_bytes f new s) (rw (eqb-true (box_at k h.boxes).kind pseg.code one)) (segment_inner f h before (box_at k h.boxes) read)
                (sym (ap (copy_of f new) (fated_as e))) (ap copy_size (fated_as e));
            read = plocs_read f h before (box_at k h.boxes) read;
            lie = kept_lie source_limit f h sound.opens bytes s (subst (Memᴰ s) (sym (kept_all source_limit f h)) (segment_in (fates_in f h) k s in-fates e));
          })
          refl ((told f h sound k there coded is-box).stays stays))

-- what a `pfil` has in place of a segment: nothing of it is asked
abbrev pub no_segment : Segment
no_segment = record { place = 0; inner = []; urls = []; source = 0; source_offset = 0; flags = 0; repair_time = 0; header_place = 0; header_length = 0; chunks = [] }

-- ---- one box after another

module _ (f : List ℕ) (h : Heading) (sound : Sound f h) where
  -- so many are put
  pub record Copying (buffer₀ : List ℕ) (k : ℕ) (buffer : List ℕ) (next : ℕ) : Type 0 where
    pub start : next ≡ start_of f h k
    puts : PutsPieces buffer₀ 0 (each (copy_of f (new_in f h)) (take k (fates_in f h))) buffer next

  pub copying_none : (buffer : List ℕ) → Copying buffer 0 buffer 0
  unfolding each sum
  copying_none buffer = record { start = refl; puts = pieces_none buffer 0 }

  module _ {buffer₀ : List ℕ} {k : ℕ} {buffer : List ℕ} {next : ℕ} (m : Copying buffer₀ k buffer next) where
    pub copying_more : (bytes : (k : ℕ) → get_or f k 0 < 256) → k < length h.boxes → {buffer' : List ℕ} {next' : ℕ}
        → PutsPieces buffer next (copy_of f (new_in f h) (fate_at f h k)) buffer' next' → Copying buffer₀ (k + 1) buffer' next'
    copying_more bytes there {next' = next'} p =
        let long = copy_long f h sound bytes k there in
        let lies = box_stands f h sound k there in
        let small = (opened f h sound.opens).small in
        let ends = (p.puts (omega (arith, long, m.start, start_low f h sound k there, copy_shorter f h sound k there))).end in
        let exact : next' ≡ start_of f h (suc k) = omega (arith, ends, long, m.start, start_more f h sound k there) in
        let on : suc k ≡ k + 1 = omega arith in
        record {
          start = exact ∙ ap (start_of f h) on;
          puts = pieces_same (each_more (copy_of f (new_in f h)) (fates_in f h) no_fated k (rw (fates_long f h sound) there)) (pieces_more m.puts p);
        }

    pub copying_end : k ≡ length h.boxes → PutsPieces buffer₀ 0 (copied f (fates_in f h)) buffer next
    unfolding copied
    copying_end all = pieces_same (ap (each (copy_of f (new_in f h))) (take_all (fates_in f h) k (fates_long f h sound ∙ sym all))) m.puts
