-- Laws of one segment: what its parts, its numbers and its chunks decide, and what is told of it when it was read.
use Prim.Native.Nat.{ℕ, ◌+◌, ◌-◌, ◌*◌, ◌<◌, ◌≤◌}
use mathlib.Core.Bool.{Bool, true, false, ◌&&◌, ◌||◌}
use mathlib.Core.List.{List}
use mathlib.Core.Logic.{inl, inr}
use mathlib.Core.Path.{◌≡◌, refl, sym, ap, ap₂, subst, ◌∙◌}
use native.Mathlib.Omega.{arith}
use borrow.Author.Tests.{le-leb, lt-leb, lt-ltb, ltb-true, eqb-true}
use lib.Dec.{leb, ltb, eqb, lit<}
use lib.ListN.{length, length-map}
use Rattle.boxes.specs.Answer.{Answer, refused, given, ◌>>=◌, hold}
use Rattle.boxes.specs.Framing.{Box, boxes_in, box_of}
use Rattle.boxes.specs.Kinds.{pshd, ploc, surl, is, right, those, box_at, first_of}
use Rattle.boxes.specs.declared.framing.Framed.{Framed}
use Rattle.boxes.specs.declared.kinds.Container.TheVariants.{Pseg}
use Rattle.boxes.proofs.AnswerLaws.{refused_same, both_given, held, given_same}
use Rattle.boxes.proofs.KindLaws.{first_is}
use Rattle.boxes.proofs.ToldLaws.{box_fields}
use Rattle.partial.specs.Entries.{Ploc, ploc_head, chunks_from}
use Rattle.partial.specs.Heading.{Heading, surl_right, urls_in}
use Rattle.partial.specs.Index.{has_index}
use Rattle.partial.specs.Limits.{chunk_limit, source_limit}
use Rattle.partial.specs.Reading.{pshd_right, pshd_fields, segment}
use Rattle.partial.specs.Segments.{Chunk, Segment, chunks_of, end_of}
use Rattle.partial.specs.Sources.{urls_for, source_beside}
use Rattle.partial.specs.Tables.{segment_row_length, segment_row}
use Rattle.partial.specs.Texts.{list_boxes}
use Rattle.partial.proofs.Meaning.SequenceLaws.{which, both}
use Rattle.partial.proofs.Meaning.SourceLaws.{beside_most, count_most}
use Rattle.partial.proofs.Reading.LimitLaws.{segment_low}
use Rattle.partial.proofs.Reading.OneSourceLaws.{urls_own, urls_pfil}
use Rattle.fields.specs.Fields.{values_of}
use Rattle.fields.specs.declared.fields.Fields.{Fields}
use Rattle.boxes.specs.declared.body.Body.{Body}
use Rattle.sources.specs.Held.{PfilList, Stands}
use Rattle.sources.proofs.HeldLaws.{Next, pfil_stands, pfil_urls, own_stands, own_urls, joined_number, joined}
use Rattle.segment.specs.declared.chunk.Cursor.{Cursor}
use Rattle.filling.proofs.RowLaws.{put_same}
use Rattle.gathering.specs.Chunks.{chunks_by, Ran}
use Rattle.gathering.specs.Forms.{form_length, puts_of}
use Rattle.gathering.specs.Parts.{Parts, header_in, has_surl, parts_in, parts_of}
use Rattle.gathering.specs.Rows.{row_by}
use Rattle.gathering.specs.Step.{first_entry, chosen_list, Beside, Entered, Segmented}
use Rattle.gathering.specs.declared.gathered.Gathered.{Gathered}
use Rattle.gathering.specs.declared.parts.Parts.{Parts as CodeParts}
use Rattle.std.specs.Prelude.{Option, Ok}
use Rattle.gathering.specs.Basis.{Based}
use Rattle.gathering.specs.declared.basis.Basis.{Basis}
use Rattle.gathering.specs.declared.tables.SourceTables.{SourceTables}
use Rattle.gathering.proofs.GatheredLaws.{gathered-segments, gathered_chunks, gathered-sources}
use Rattle.gathering.proofs.PartsLaws.{surl_none}

-- the `pshd` of a segment ends behind the start of its body
pub header_whole : (f : List ℕ) (in_pfil : Bool) (b : Box) {p : Parts} → parts_in f in_pfil b ≡ given p → p.header.body ≤ p.header.end
unfolding parts_in header_in pshd_right pshd_fields
header_whole f in_pfil b {p} e =
    let (inner, _, e) = both_given (boxes_in Pseg f b.body b.end) _ e in
    let (x, header, e) = both_given (header_in f inner) _ e in
    let (_, e) = held 15 (right Pseg ploc inner) _ e in
    let (_, e) = held 16 (surl_right f inner) _ e in
    let (_, e) = held 41 (has_surl inner || in_pfil) _ e in
    let (l, _, e) = both_given (ploc_head f (first_of ploc inner)) _ e in
    let (first, given-header) = held 14 (pshd_right f inner) _ header in
    let b = box_at 0 inner in
    let (two, ends) = both (is pshd b && right Pseg pshd inner) (eqb (pshd_fields f b).end b.end) first in
    let (kind, _) = both (is pshd b) (right Pseg pshd inner) two in
    let whole : b.body ≤ b.end = omega (arith, eqb-true (pshd_fields f b).end b.end ends) in
    let same : b ≡ p.header = sym (first_is pshd (lit< tt) inner kind) ∙ ap (λ (x : Box × Fields). x.0) (given_same given-header) ∙ ap (λ p. p.header) (given_same e) in
    subst (λ (b : Box). b.body ≤ b.end) same whole

-- a segment of these boxes, parts and chunks, beside those before it, whose box stands at a place
abbrev pub built : List ℕ → Heading → List Segment → ℕ → List Box → Parts → List Chunk → Segment
built f h before at inner p cs =
    record {
      place = at;
      inner = inner;
      urls = urls_for (urls_in f inner) h.urls;
      source = source_beside before (urls_for (urls_in f inner) h.urls);
      source_offset = p.fields.offset.0;
      flags = p.fields.flags;
      repair_time = p.fields.repair;
      header_place = p.header.body;
      header_length = p.header.end - p.header.body;
      chunks = cs;
    }

-- what is asked of a segment once its parts are known: 22, 23, its chunks
abbrev judged : ℕ → List ℕ → Heading → List Segment → ℕ → List Box → Parts → Answer Segment
judged limit f h before at inner p = do
  _ ← hold 22 (leb (length (chunks_of before) + p.location.count) chunk_limit)
  _ ← hold 23 (leb p.fields.offset.0 limit)
  cs ← chunks_from limit f h at p.location p.location.count (record { at = p.location.first; start = p.fields.offset.0 })
  given (built f h before at inner p cs)

-- the same tests, grouped as the parts of a segment's box are
regrouped : (header : Box × Fields) (indexed listed : Bool) (next : Parts → Answer Segment) (x y z v : Bool) (w : Answer Ploc)
    → ◌>>=◌ {B = Segment} (hold 14 x) (λ _. hold 15 y >>= λ _. hold 16 z >>= λ _. hold 41 v >>= λ _. w >>= λ l. next (record { header = header.0; fields = header.1; location = l; indexed = indexed; listed = listed }))
    ≡ ◌>>=◌ {B = Segment} (◌>>=◌ {B = Parts} (hold 14 x >>= λ _. given header) (λ u. hold 15 y >>= λ _. hold 16 z >>= λ _. hold 41 v >>= λ _. w >>= λ l. given (record { header = u.0; fields = u.1; location = l; indexed = indexed; listed = listed }))) next
regrouped header indexed listed next false y z v w = refl
regrouped header indexed listed next true false z v w = refl
regrouped header indexed listed next true true false v w = refl
regrouped header indexed listed next true true true false w = refl
regrouped header indexed listed next true true true true (refused n) = refl
regrouped header indexed listed next true true true true (given l) = refl

-- there are as many URLs as `surl` boxes
urls_many : (f : List ℕ) (bs : List Box) → length (urls_in f bs) ≡ length (those surl bs)
unfolding urls_in
urls_many f bs = length-map (those surl bs) _

-- a segment has a list of URLs exactly if it has a `surl`, or `pfil` has
listed_by : (f : List ℕ) (bs : List Box) (us : List (List ℕ)) → ltb 0 (length (urls_for (urls_in f bs) us)) ≡ (has_surl bs || ltb 0 (length us))
listed_by f bs us =
    elim (which (has_surl bs)) [
      | inl own ↦
          let some = ltb-true 0 (length (those surl bs)) own in
          rw (own, urls_own f bs us some) (lt-ltb 0 (length (urls_in f bs)) (omega (arith, urls_many f bs)))
      | inr none ↦ rw (none, urls_pfil f bs us (surl_none bs none))
    ]

-- `pfil` has one exactly if it has a `surl`
pub any_told : (f : List ℕ) (h : Heading) {basis : Basis} → Based f h basis → basis.listed ≡ ltb 0 (length h.urls)
any_told f h based = based.any ∙ ap (ltb 0) (sym (ap length based.in_pfil.urls ∙ urls_many f h.inner))

-- the parts among these boxes
abbrev parts_with : List ℕ → Bool → List Box → Answer Parts
parts_with f in_pfil inner = do
  header ← header_in f inner
  _ ← hold 15 (right Pseg ploc inner)
  _ ← hold 16 (surl_right f inner)
  _ ← hold 41 (has_surl inner || in_pfil)
  l ← ploc_head f (first_of ploc inner)
  given (record { header = header.0; fields = header.1; location = l; indexed = has_index inner; listed = has_surl inner })

module _ (f : List ℕ) (h : Heading) (ss : List Segment) (b : Framed) {in_pfil : Bool} (any : in_pfil ≡ ltb 0 (length h.urls)) where
  module _ {inner : List Box} (boxes : boxes_in Pseg f (box_of b).body (box_of b).end ≡ given inner) where
    parts-with : parts_in f in_pfil (box_of b) ≡ parts_with f in_pfil inner
    unfolding parts_in
    parts-with = rw boxes

    segment-with : segment source_limit f h ss (box_of b) ≡ (parts_with f in_pfil inner >>= judged source_limit f h ss b.at.0 inner)
    unfolding segment header_in
    segment-with =
        let next = judged source_limit f h ss (box_of b).at inner in
        let header : Box × Fields = (first_of pshd inner, values_of (pshd_fields f (first_of pshd inner))) in
        let listed = listed_by f inner h.urls ∙ ap (λ (t : Bool). has_surl inner || t) (sym any) in
        rw (boxes, listed)
        (regrouped header (has_index inner) (has_surl inner) next (pshd_right f inner) (right Pseg ploc inner) (surl_right f inner) (has_surl inner || in_pfil) (ploc_head f (first_of ploc inner)))
        ∙ ap (λ (x : Box). parts_with f in_pfil inner >>= judged source_limit f h ss x.at inner) (box_fields b)

  pub segment_fault : {n : ℕ} → parts_in f in_pfil (box_of b) ≡ refused n → segment source_limit f h ss (box_of b) ≡ refused n
  unfolding segment parts_in
  segment_fault {n} e = go (boxes_in Pseg f (box_of b).body (box_of b).end) refl
    where
      go : (x : Answer (List Box)) → boxes_in Pseg f (box_of b).body (box_of b).end ≡ x → segment source_limit f h ss (box_of b) ≡ refused n
      go (refused m) boxes = rw boxes (ap refused (refused_same (rw boxes at e)))
      go (given inner) boxes = segment-with boxes ∙ rw (sym (parts-with boxes) ∙ e)

  module _ (p : CodeParts) (parts : parts_in f in_pfil (box_of b) ≡ given (parts_of p)) where
    -- the boxes inside
    pub inside : (inner : List Box) × (boxes_in Pseg f (box_of b).body (box_of b).end ≡ given inner)
    unfolding parts_in
    inside =
        let (inner, boxes, _) = both_given (boxes_in Pseg f (box_of b).body (box_of b).end) _ parts in
        (inner, boxes)

    -- whether one of them is an index, and whether one is a `surl`
    flags : (p.indexed ≡ has_index inside.0) × (p.listed ≡ has_surl inside.0)
    flags =
        let (header, _, e) = both_given (header_in f inside.0) _ (sym (parts-with inside.1) ∙ parts) in
        let (_, e) = held 15 (right Pseg ploc inside.0) _ e in
        let (_, e) = held 16 (surl_right f inside.0) _ e in
        let (_, e) = held 41 (has_surl inside.0 || in_pfil) _ e in
        let (l, _, e) = both_given (ploc_head f (first_of ploc inside.0)) _ e in
        (sym (ap (λ p. p.indexed) (given_same e)), sym (ap (λ p. p.listed) (given_same e)))

    -- its list of URLs is its own, or that in `pfil`
    module _ {before : Gathered} {list : Body} {n : SourceTables} (ends : b.end.0 ≤ length f) (pfil : PfilList f h list) (beside : Beside f h before n ss) (cs : List Chunk) where
      pub next_list : Next f h ss before.segments before.sources (chosen_list b p.listed list) (built f h ss b.at.0 inside.0 (parts_of p) cs)
      next_list =
          record {
            within = pfil.within;
            segments = gathered-segments ss beside.gathered;
            few = beside.few;
            sources = gathered-sources ss beside.gathered;
            numbered = beside.numbered;
            stands = list_stands p.listed flags.1;
            urls = list_urls p.listed flags.1;
            number = refl;
          }
        where
          s : Segment
          s = built f h ss b.at.0 inside.0 (parts_of p) cs

          list_stands : (own : Bool) → own ≡ has_surl inside.0 → Stands f (chosen_list b own list) (list_boxes h s)
          list_stands true own = own_stands f h s (ltb-true 0 (length (those surl inside.0)) (sym own)) (record { boxes = rw (box_fields b) at inside.1; inside = ends })
          list_stands false own = pfil_stands f h pfil s (surl_none inside.0 (sym own))

          list_urls : (own : Bool) → own ≡ has_surl inside.0 → urls_in f (list_boxes h s) ≡ s.urls
          list_urls true own = own_urls f h s (ltb-true 0 (length (those surl inside.0)) (sym own)) refl
          list_urls false own = pfil_urls f h pfil s (surl_none inside.0 (sym own)) refl

    by_parts : segment source_limit f h ss (box_of b) ≡ judged source_limit f h ss b.at.0 inside.0 (parts_of p)
    by_parts = segment-with inside.1 ∙ rw (sym (parts-with inside.1) ∙ parts)

    pub segment_crowded : chunk_limit - length (chunks_of ss) < p.location.count → segment source_limit f h ss (box_of b) ≡ refused 22
    segment_crowded many = by_parts ∙ rw (lt-leb (length (chunks_of ss) + p.location.count) chunk_limit (omega arith))

    module _ (few : length (chunks_of ss) + p.location.count ≤ chunk_limit) where
      pub segment_far : source_limit < p.fields.offset.0 → segment source_limit f h ss (box_of b) ≡ refused 23
      segment_far far = by_parts ∙ rw (le-leb (length (chunks_of ss) + p.location.count) chunk_limit few, lt-leb p.fields.offset.0 source_limit far)

      module _ (near : p.fields.offset.0 ≤ source_limit) (last : Framed) where
        -- the cursor at the first entry
        abbrev first : Cursor
        first = first_entry p last

        by_chunks : segment source_limit f h ss (box_of b) ≡ (chunks_by f h b.at.0 p.location first >>= λ cs. given (built f h ss b.at.0 inside.0 (parts_of p) cs))
        by_chunks = by_parts ∙ rw (le-leb (length (chunks_of ss) + p.location.count) chunk_limit few, le-leb p.fields.offset.0 source_limit near)

        pub segment-cut : {n : ℕ} → chunks_by f h b.at.0 p.location first ≡ refused n → segment source_limit f h ss (box_of b) ≡ refused n
        segment-cut e = by_chunks ∙ rw e

        pub segment_read : {cs : List Chunk} → chunks_by f h b.at.0 p.location first ≡ given cs → segment source_limit f h ss (box_of b) ≡ given (built f h ss b.at.0 inside.0 (parts_of p) cs)
        segment_read e = by_chunks ∙ rw e

        pub segment-told : {before g : Gathered} {list : Body} {numbered : Bool} {t₀ t u₀ u : List ℕ} {n₀ n : SourceTables} {cs : List Chunk} {c : Cursor} → b.end.0 ≤ length f
            → PfilList f h list
            → Beside f h before n₀ ss
            → chunks_by f h b.at.0 p.location first ≡ given cs → length cs ≡ p.location.count → Ran f h.boxes first before numbered u₀ cs c u
            → Entered f (chosen_list b p.listed list) before b.at.0 p c.start.0 t₀ t n₀ n g
            → Segmented f h ss (box_of b) numbered t₀ t u₀ u n (Ok (g, c.last))
        unfolding Segmented end_of segment_row
        segment-told {numbered = numbered} {cs = cs} ends pfil beside e many ran entered =
            let s = built f h ss b.at.0 inside.0 (parts_of p) cs in
            let next = next_list ends pfil beside cs in
            let sourced = beside.noted.sourced in
            let source = joined_number next sourced entered.joins in
            let low : s.source ≤ length ss = omega (arith, beside_most ss s.urls, count_most ss beside.numbered) in
            let number = gathered-segments ss beside.gathered in (
              s,
              segment_read e,
              entered.gathers ss s beside.gathered (sym many) source (omega arith) flags.0,
              ran.known,
              put_same (ap (λ (n : ℕ). segment_row_length * n) number) (ap₂ (λ (n m : ℕ). row_by b.at.0 p.fields n (box_of p.header) m) (sym many) source) entered.row,
              put_same (ap (λ (n : ℕ). form_length numbered * n) (gathered_chunks ss beside.gathered)) (ap (λ (n : ℕ). puts_of numbered n cs) number) ran.rows,
              record {
                sizes = entered.sizes ss s source (omega (arith, beside.few)) beside.noted.sizes refl (sym many) ran.ends (segment_low source_limit f h ss (box_of b) (segment_read e));
                sourced = joined next sourced entered.joins;
              },
            )
