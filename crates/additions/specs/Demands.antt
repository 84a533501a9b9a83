-- The three demands, as statements over the definitions at a source limit below 2 ^ 64; the product's is `source_limit`.
-- Each field has the sentence that it states; those of reading are the fields of `Demand1OfReading` and
-- `Demand2OfReading`. That nothing is required of a call's arguments and that every call ends is in the contracts
-- themselves: no public call has a `requires`, and a function is proved only if it returns.
use Rattle.std.specs.Prelude.{ℕ, ◌+◌, ◌^◌, ◌≤◌, ◌<◌, false, ◌&&◌, ◌||◌, ◌↔◌, ◌⊎◌, ◌≡◌, length, get_or, T, leb, ltb}
use mathlib.Core.List.{List, [], ◌∷◌, ◌++◌, map, Memᴰ}
use Rattle.boxes.specs.Answer.{refused, given, ◌>>=◌, hold}
use Rattle.boxes.specs.Framing.{boxed, box_limit}
use Rattle.boxes.specs.Kinds.{pshd, ploc}
use Rattle.partial.specs.Limits.{file_limit, segment_limit, chunk_limit, layer_limit}
use Rattle.partial.specs.Sequences.{sum, or_else}
use Rattle.partial.specs.Segments.{Segment, chunks_of}
use Rattle.partial.specs.declared.brand.Brand.{Brand}
use Rattle.partial.specs.Heading.{Heading, heading}
use Rattle.partial.specs.Meaning.{described_length, served}
use Rattle.partial.specs.Sources.{source_count, source_beside, of_urls}
use Rattle.partial.specs.Index.{SourceBox, indexed}
use Rattle.partial.specs.Reading.{reading, earlier_segments}
use Rattle.partial.specs.Memory.{written}
use Rattle.partial.specs.ReadingDemands.{one_of, of_index, of_stages, InAgreement, Numbered, Demand1OfReading, Demand2OfReading, Takes}
use Rattle.additions.specs.Begin.{beginning, is_text, begun}
use Rattle.additions.specs.Addition.{Addition, items, lists_right, bytes_right, outside_right, sayable}
use Rattle.additions.specs.Append.{added_boxes, inner_boxes, placed, ploc_body, pshd_body, pseg_body, added, pseg_place, new_urls, new_segment, appended, result}
use Rattle.additions.specs.Runs.{Lent, lent, buffer_in, file_in, begin, append, append_all}
use Rattle.additions.specs.Again.{again, settled, write_again}
use Rattle.additions.specs.Carried.{carried}

-- a refused addition changes nothing
abbrev NothingChanges : ℕ → Type 0
NothingChanges limit =
    (buffer : List ℕ) (n : ℕ) (a : Addition) (k : ℕ)
    → appended limit buffer n a ≡ refused k
    → append limit (lent buffer n) a ≡ lent buffer n

-- a number that neither begin nor append answers
pub record NeverWritten (limit n : ℕ) : Type 0 where
  pub begin : (buffer : List ℕ) (brand : Brand) (u m : List ℕ) → begun buffer brand u m ≡ refused n → ⊥
  pub append : (buffer : List ℕ) (size : ℕ) (a : Addition) → appended limit buffer size a ≡ refused n → ⊥

-- demand 1: any bytes get either their tables or one numbered refusal; after a refusal all lent memory holds what it
-- held
pub record Demand1 (limit : ℕ) : Type 0 where
  -- of reading, serving, asking, listing, the index and the texts
  pub of_reading : Demand1OfReading limit
  -- one numbered refusal, of those that the paper has for the call
  pub begin_numbers : (buffer : List ℕ) (brand : Brand) (u m : List ℕ) (n : ℕ) → begun buffer brand u m ≡ refused n → T (one_of (34 ∷ 1 ∷ 33 ∷ []) n)
  pub append_numbers :
      (buffer : List ℕ) (size : ℕ) (a : Addition) (n : ℕ)
      → appended limit buffer size a ≡ refused n
      → T (of_stages n || one_of (30 ∷ 31 ∷ 32 ∷ 33 ∷ 34 ∷ 35 ∷ []) n)
  -- document 02, [4]: none of them is 21
  pub no21 : NeverWritten limit 21
  -- after a refusal all lent memory holds what it held
  pub begin_kept :
      (buffer : List ℕ) (brand : Brand) (u m : List ℕ) (n : ℕ)
      → begun buffer brand u m ≡ refused n
      → written (beginning brand u m) (begun buffer brand u m) buffer ≡ buffer
  pub append_kept : NothingChanges limit

-- a file that append takes, in the first n bytes of a buffer: its heading and its segments
pub record Taking (limit : ℕ) (buffer : List ℕ) (n : ℕ) : Type 0 where
  pub enough : n ≤ length buffer
  pub h : Heading
  pub ss : List Segment
  pub headed : heading (file_in (lent buffer n)) ≡ given h
  pub before : earlier_segments limit (file_in (lent buffer n)) ≡ given ss

-- demand 2: in an accepted file each source byte is served or listed missing as document 01's rules say; a segment our
-- writer adds reads back with the same chunks and bytes; writing again what was read from our writer's file gives that
-- file
pub record Demand2 (limit : ℕ) : Type 0 where
  -- each source byte of an accepted file
  pub of_reading : Demand2OfReading limit
  -- the segment reads back with its fields, its chunks, the boxes inside and the URLs and number of its source
  pub reads_back :
      (buffer : List ℕ) (n : ℕ) (a : Addition) (size : ℕ) (file : Taking limit buffer n)
      → a.repair_time < 2 ^ 64
      → appended limit buffer n a ≡ given size
      → reading limit (file_in (append limit (lent buffer n) a)) ≡ given (file.ss ++ (new_segment file.h file.ss (pseg_place n a) a ∷ []))
  -- and says again what was added, with the same bytes
  pub same_again :
      (buffer : List ℕ) (n : ℕ) (a : Addition) (size : ℕ) (h : Heading) (ss : List Segment)
      → appended limit buffer n a ≡ given size
      → let g = file_in (append limit (lent buffer n) a) in
      heading g ≡ given h
      → again g h (new_segment h ss (pseg_place n a) a) ≡ settled a
  pub same_bytes : (a : Addition) → added (settled a) ≡ added a
  -- with an empty list of texts the segment is `pshd` and `ploc` alone
  pub plain_bytes :
      (a : Addition)
      → a.lengths ≡ []
      → pseg_body a ≡ boxed pshd.code (pshd_body a) ++ boxed ploc.code (ploc_body (placed a.outside (items a.list)))
  -- of a file that begin and append alone made, written into any buffer that it fits
  pub written_again :
      (buffer : List ℕ) (brand : Brand) (u m : List ℕ) (additions : List Addition) (other : List ℕ) (h : Heading) (ss : List Segment)
      → let f = file_in (append_all limit (begin buffer brand u m) additions) in
      heading f ≡ given h
      → reading limit f ≡ given ss
      → length f ≤ length other
      → file_in (write_again limit other f h ss) ≡ f

-- a source that an addition goes to, seen from the files and its segments before and after
pub record Grown (f g : List ℕ) (ss ts : List Segment) (a : Addition) : Type 0 where
  -- every byte served before keeps its value; a byte not served before is served exactly if the new segment carries it
  -- as good, with that value
  pub kept : (p : ℕ) → served g ts p ≡ or_else (served f ss p) (carried a p)
  -- the described length never shrinks
  pub no_shorter : described_length ss ≤ described_length ts

-- another source: it has the segments that it had, so the same described length and lists, and serves the same bytes
pub record Untouched (f g : List ℕ) (ss ts : List Segment) : Type 0 where
  pub segments : ts ≡ ss
  pub kept : (p : ℕ) → served g ts p ≡ served f ss p

-- after an accepted addition, seen from the files and all their segments before and after
pub record Extended (f g : List ℕ) (h : Heading) (ss ts : List Segment) (a : Addition) : Type 0 where
  -- the source that it goes to, told by its URLs
  pub grown : let us = new_urls h a in Grown f g (of_urls us ss) (of_urls us ts) a
  -- it "changes no length, list or served byte of another"
  pub untouched : (us : List (List ℕ)) → (new_urls h a ≡ us → ⊥) → Untouched f g (of_urls us ss) (of_urls us ts)
  -- each source of the file before keeps its number, and a new one has the next
  pub numbered : Numbered ts
  pub numbers : (s : Segment) → Memᴰ s ss → source_beside ts s.urls ≡ s.source

-- an addition with right lists, data and texts for a file with that heading: it has none of 31, 32, 35 and 34
pub record Sound (h : Heading) (a : Addition) : Type 0 where
  pub lists : T (lists_right a)
  pub bytes : T (bytes_right a)
  pub outside : T (outside_right h a)
  pub texts : T (is_text a.texts)

-- an addition within each limit and in agreement with the segments before it
pub record Within (limit : ℕ) (h : Heading) (ss : List Segment) (n : ℕ) (a : Addition) : Type 0 where
  pub small : n + length (added a) ≤ file_limit
  pub boxes : length h.boxes + added_boxes a ≤ box_limit
  pub inner : inner_boxes a ≤ box_limit
  pub few : length ss < segment_limit
  pub listed : 0 < length (new_urls h a)
  pub chunks : length (chunks_of ss) + length (items a.list) ≤ chunk_limit
  pub low : a.source_offset + sum (map (λ i. i.size) (items a.list)) ≤ limit
  pub agreed : InAgreement (ss ++ (new_segment h ss (pseg_place n a) a ∷ []))
  pub layers : source_count (ss ++ (new_segment h ss (pseg_place n a) a ∷ [])) ≤ layer_limit

-- an addition that append takes: it is right and within each limit, beside a file that append takes, whose index is
-- told beside it, and the buffer has room for the result
pub record Acceptable (limit : ℕ) (buffer : List ℕ) (n : ℕ) (a : Addition) : Type 0 where
  pub file : Taking limit buffer n
  pub sound : Sound file.h a
  pub within : Within limit file.h file.ss n a
  pub index :
      (is : List SourceBox)
      × (indexed limit (file_in (lent buffer n)) file.h (file.ss ++ (new_segment file.h file.ss (pseg_place n a) a ∷ [])) ≡ given is)
  pub room : n + length (added a) ≤ length buffer

-- the numbered reasons for which an addition is refused, in their order
pub record Reasons (limit : ℕ) (buffer : List ℕ) (n : ℕ) (a : Addition) : Type 0 where
  pub length_over : length buffer < n → appended limit buffer n a ≡ refused 30
  -- the file's own refusal, never 12
  pub file_refused :
      (k : ℕ)
      → n ≤ length buffer
      → reading limit (file_in (lent buffer n)) ≡ refused k
      → (k ≡ 12 → ⊥)
      → appended limit buffer n a ≡ refused k
  pub lists_wrong : Taking limit buffer n → lists_right a ≡ false → appended limit buffer n a ≡ refused 31
  pub bytes_wrong : Taking limit buffer n → T (lists_right a) → bytes_right a ≡ false → appended limit buffer n a ≡ refused 32
  pub outside_wrong :
      (file : Taking limit buffer n)
      → T (lists_right a)
      → T (bytes_right a)
      → outside_right file.h a ≡ false
      → appended limit buffer n a ≡ refused 35
  pub texts_wrong :
      (file : Taking limit buffer n)
      → T (lists_right a)
      → T (bytes_right a)
      → T (outside_right file.h a)
      → is_text a.texts ≡ false
      → appended limit buffer n a ≡ refused 34
  -- document 02, [7]: 36 to 39 are the file's own, but of one whose only refusal is 12, and that has no 38
  pub by_index :
      (k : ℕ)
      → T (of_index k)
      → appended limit buffer n a ≡ refused k
      → (reading limit (file_in (lent buffer n)) ≡ refused k) ⊎ ((reading limit (file_in (lent buffer n)) ≡ refused 12) × (k ≡ 38 → ⊥))
  -- then what the result would have, 1, 6, 13, 41, 22, 23, 25, 40, 36, 37 or 39, and then 33
  pub by_result :
      (file : Taking limit buffer n)
      → Sound file.h a
      → inner_boxes a ≤ box_limit
      → T (sayable a)
      → let g = result buffer n a in
      appended limit buffer n a ≡ (reading limit g >>= λ _. hold 33 (leb (length g) (length buffer)) >>= λ _. given (length g))
  -- of more boxes than the new `pseg` may hold it is 6, unless 1 comes before
  pub overfull :
      (file : Taking limit buffer n)
      → Sound file.h a
      → box_limit < inner_boxes a
      → appended limit buffer n a ≡ (hold 1 (leb (n + length (added a)) file_limit) >>= λ _. refused 6)
  -- of more chunks than `chunk_count` can say it is 22, unless 1, 6, 13 or 41 comes before
  pub too_many :
      (file : Taking limit buffer n)
      → Sound file.h a
      → 2 ^ 16 ≤ length (items a.list)
      → appended limit buffer n a
      ≡ (hold 1 (leb (n + length (added a)) file_limit)
      >>= λ _. hold 6 (leb (length file.h.boxes + added_boxes a) box_limit && leb (inner_boxes a) box_limit)
      >>= λ _. hold 13 (leb (length file.ss + 1) segment_limit)
      >>= λ _. hold 41 (ltb 0 (length (new_urls file.h a)))
      >>= λ _. refused 22)

-- demand 3: take any accepted file, or one just begun, and any run of additions
pub record Demand3 (limit : ℕ) : Type 0 where
  -- any accepted file is one that append takes, and so is one whose only refusal is 12
  pub takes : (f : List ℕ) → Takes limit f
  -- a beginning is given a length exactly if it has two texts, within the limit and the buffer; it is its own length
  pub begins :
      (buffer : List ℕ) (brand : Brand) (u m : List ℕ) (n : ℕ)
      → (begun buffer brand u m ≡ given n)
      ↔ (T (is_text u) × T (is_text m) × (n ≤ file_limit) × (n ≤ length buffer) × (n ≡ length (beginning brand u m)))
  -- one just begun serves nothing and has described length 0
  pub just_begun :
      (buffer : List ℕ) (brand : Brand) (u m : List ℕ) (n : ℕ)
      → begun buffer brand u m ≡ given n
      → earlier_segments limit (file_in (begin buffer brand u m)) ≡ given []
  -- a run leaves a file that append takes
  pub stands :
      (l : Lent) (additions : List Addition) (ss : List Segment)
      → earlier_segments limit (file_in l) ≡ given ss
      → (ts : List Segment) × (earlier_segments limit (file_in (append_all limit l additions)) ≡ given ts)
  -- an addition is given a length exactly if it has right lists, data and texts, within each limit, in agreement,
  -- beside an index that is told, and within the buffer; it is the length of the file and of what is added
  pub accepts :
      (buffer : List ℕ) (n : ℕ) (a : Addition) (size : ℕ)
      → (appended limit buffer n a ≡ given size)
      ↔ (Acceptable limit buffer n a × (size ≡ n + length (added a)))
  -- earlier bytes and bytes past the new end keep their values
  pub earlier_kept :
      (buffer : List ℕ) (n : ℕ) (a : Addition) (size : ℕ)
      → appended limit buffer n a ≡ given size
      → (i : ℕ)
      → i < n
      → get_or (buffer_in (append limit (lent buffer n) a)) i 0 ≡ get_or buffer i 0
  pub behind_kept :
      (buffer : List ℕ) (n : ℕ) (a : Addition) (size : ℕ)
      → appended limit buffer n a ≡ given size
      → (i : ℕ)
      → size ≤ i
      → get_or (buffer_in (append limit (lent buffer n) a)) i 0 ≡ get_or buffer i 0
  -- the buffer is no longer and no shorter
  pub as_long : (l : Lent) (a : Addition) → length (buffer_in (append limit l a)) ≡ length (buffer_in l)
  -- after each accepted addition, with the segment that it makes
  pub extends :
      (buffer : List ℕ) (n : ℕ) (a : Addition) (size : ℕ) (file : Taking limit buffer n)
      → appended limit buffer n a ≡ given size
      → Extended
      (file_in (lent buffer n)) (file_in (append limit (lent buffer n) a)) file.h file.ss
      (file.ss ++ (new_segment file.h file.ss (pseg_place n a) a ∷ []))
      a
  -- and as it is read
  pub accepted :
      (buffer : List ℕ) (n : ℕ) (a : Addition) (size : ℕ) (file : Taking limit buffer n)
      → appended limit buffer n a ≡ given size
      → let g = file_in (append limit (lent buffer n) a) in
      (ts : List Segment) × (reading limit g ≡ given ts) × Extended (file_in (lent buffer n)) g file.h file.ss ts a
  -- refused exactly where a numbered reason holds
  pub refused_exactly : (buffer : List ℕ) (n : ℕ) (a : Addition) → Reasons limit buffer n a
  -- and then nothing changes
  pub unchanged : NothingChanges limit
