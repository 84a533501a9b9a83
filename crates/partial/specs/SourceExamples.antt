-- Document 02, [8]: worked examples of sources, computed over the definitions, as one table with one statement. The
-- places, lengths and texts of each file are worked out from the papers.
use Rattle.std.specs.Prelude.{ℕ, ◌+◌, ◌-◌, true, false, List, [], ◌∷◌, ◌++◌, map, ◌≡◌, length, take, drop, replicate, ℤ, pos}
use Rattle.boxes.specs.Answer.{refused, given, ◌>>=◌}
use Rattle.boxes.specs.Framing.{Box}
use Rattle.partial.specs.Limits.{source_limit}
use Rattle.partial.specs.Segments.{Segment}
use Rattle.partial.specs.Heading.{Part, Heading, heading, url, mime, bytes_in}
use Rattle.partial.specs.Meaning.{served_for, missing_for, not_below}
use Rattle.partial.specs.Reading.{reading}
use Rattle.partial.specs.Memory.{after}
use Rattle.partial.specs.Tables.{segment_rows, chunk_rows, had_rows, missing_rows, listed, summary, totals, served_part, asked, text_of}
use Rattle.partial.specs.Texts.{source_text, source_text_of, texts_for, lengths_for, segment_surls, texts_tabled}
use Rattle.partial.specs.Map.{ascii, map_of, missmap_of}
use Rattle.partial.specs.Lesson.{begun_bytes}
use Rattle.partial.specs.Examples.{Example, says}
use Rattle.partial.specs.IndexExamples.{mdat, rows_of}

-- ---- the bytes of files, written out: no box has 256 bytes

-- a `surl` of a URL and a MIME text: 14 bytes and those
abbrev surl_of : List ℕ → List ℕ → List ℕ
surl_of u m =
    0x00 ∷ 0x00 ∷ 0x00 ∷ (14 + length u + length m) ∷ 0x73 ∷ 0x75 ∷ 0x72 ∷ 0x6c ∷ 0x00 ∷ 0x00 ∷ 0x00 ∷ 0x00 ∷
    (u ++ (0x00 ∷ (m ++ (0x00 ∷ []))))

-- a file with these boxes in its `pfil`, behind `pfhd`, and then these: 40 bytes and those
abbrev file_of : List ℕ → List ℕ → List ℕ
file_of in_pfil boxes =
    take 20 begun_bytes
    ++ (0x00 ∷ 0x00 ∷ 0x00 ∷ (20 + length in_pfil) ∷ 0x70 ∷ 0x66 ∷ 0x69 ∷ 0x6c ∷
    0x00 ∷ 0x00 ∷ 0x00 ∷ 0x0c ∷ 0x70 ∷ 0x66 ∷ 0x68 ∷ 0x64 ∷ 0x00 ∷ 0x00 ∷ 0x00 ∷ 0x00 ∷ (in_pfil ++ boxes))

-- a `pseg` with flags, a source offset and so many chunks by entries with one byte for a size and one for an offset,
-- and with boxes behind its `ploc`: 49 bytes and those
abbrev segment_of : ℕ → ℕ → ℕ → List ℕ → List ℕ → List ℕ
segment_of flags start count entries boxes =
    0x00 ∷ 0x00 ∷ 0x00 ∷ (49 + length entries + length boxes) ∷ 0x70 ∷ 0x73 ∷ 0x65 ∷ 0x67 ∷
    0x00 ∷ 0x00 ∷ 0x00 ∷ 0x18 ∷ 0x70 ∷ 0x73 ∷ 0x68 ∷ 0x64 ∷ 0x00 ∷ 0x00 ∷ 0x00 ∷ flags ∷ 0x00 ∷ 0x00 ∷ 0x00 ∷ start ∷
    0x00 ∷ 0x00 ∷ 0x00 ∷ 0x00 ∷ 0x00 ∷ 0x00 ∷ 0x00 ∷ 0x00 ∷
    0x00 ∷ 0x00 ∷ 0x00 ∷ (17 + length entries) ∷ 0x70 ∷ 0x6c ∷ 0x6f ∷ 0x63 ∷ 0x00 ∷ 0x00 ∷ 0x00 ∷ 0x00 ∷
    0x11 ∷ 0x00 ∷ 0x00 ∷ 0x00 ∷ count ∷ (entries ++ boxes)

-- an open one; one lost chunk; one good chunk, whose bytes lie in a `pdat` just before the segment
abbrev open_of : ℕ → List ℕ → List ℕ
open_of start boxes = segment_of 0 start 0 [] boxes

abbrev lost_of : ℕ → ℕ → ℕ → List ℕ → List ℕ
lost_of flags start size boxes = segment_of flags start 1 (0x80 ∷ size ∷ []) boxes

abbrev good_of : ℕ → ℕ → List ℕ → List ℕ → List ℕ
good_of flags start bytes boxes =
    (0x00 ∷ 0x00 ∷ 0x00 ∷ (8 + length bytes) ∷ 0x70 ∷ 0x64 ∷ 0x61 ∷ 0x74 ∷ bytes)
    ++ segment_of flags start 1 (0x40 ∷ length bytes ∷ (256 - length bytes) ∷ []) boxes

-- the `pshd` of an open one at 0; one in which these boxes stand for its `ploc`
abbrev header : List ℕ
header = take 24 (drop 8 (open_of 0 []))

abbrev segment_with : List ℕ → List ℕ
segment_with boxes =
    0x00 ∷ 0x00 ∷ 0x00 ∷ (32 + length boxes) ∷ 0x70 ∷ 0x73 ∷ 0x65 ∷ 0x67 ∷ (header ++ boxes)

-- its `ploc`, one of another version, and one of 1,024 chunks without their entries
abbrev no_chunks : List ℕ
no_chunks = drop 32 (open_of 0 [])

abbrev wrong_ploc : List ℕ
wrong_ploc = take 8 no_chunks ++ (0x01 ∷ drop 9 no_chunks)

abbrev many_chunks : List ℕ
many_chunks = take 15 no_chunks ++ (0x04 ∷ 0x00 ∷ [])

-- an index of one `mdat` of a size, written out
abbrev index_of : ℕ → List ℕ
index_of size =
    0x00 ∷ 0x00 ∷ 0x00 ∷ 0x18 ∷ 0x66 ∷ 0x69 ∷ 0x64 ∷ 0x78 ∷ 0x00 ∷ 0x00 ∷ 0x00 ∷ 0x10 ∷ 0x62 ∷ 0x69 ∷ 0x64 ∷ 0x78 ∷
    0x00 ∷ 0x00 ∷ 0x00 ∷ size ∷ 0x6d ∷ 0x64 ∷ 0x61 ∷ 0x74 ∷ []

-- two URLs
abbrev a : List ℕ
a = 0x61 ∷ []

abbrev b : List ℕ
b = 0x62 ∷ []

-- ---- two layers

-- the list in `pfil` is `a`. The first segment, at 68, has `b` and 4 good bytes from 0 on; the second, at 149, has no
-- list, 5 good bytes from 2 on, and is last; the third, at 201, has `b` with another MIME text and 6 lost bytes from 3
-- on
abbrev film : List ℕ
film =
    file_of (surl_of a (ascii "x"))
    (good_of 0 0 (11 ∷ 12 ∷ 13 ∷ 14 ∷ []) (surl_of b (ascii "m"))
    ++ (good_of 1 2 (21 ∷ 22 ∷ 23 ∷ 24 ∷ 25 ∷ []) [] ++ lost_of 0 3 6 (surl_of b (ascii "n"))))

-- what is told of a file's segments
abbrev told_of : List ℕ → (List Segment → List ℕ) → List ℤ
told_of f of = says (reading source_limit f >>= λ ss. given (map pos (of ss)))

-- how many segments, chunks and sources there are, the described length of one and 1 where its size is known
abbrev summary_of : ℕ → List Segment → List ℕ
summary_of source ss =
    let told = summary source ss in
    told.segments ∷ told.chunks ∷ told.sources ∷ told.described ∷ elim told.closed [ true ↦ 1 | false ↦ 0 ] ∷ []

-- its rows, the last number of a segment's that of its source, given in order of first appearance; of each source its
-- own length, and of a number that is not in the file none
abbrev layers_in_rows : Example
layers_in_rows =
    record {
      defined = told_of film (λ ss. segment_rows ss ++ (chunk_rows ss ++ (summary_of 0 ss ++ (summary_of 1 ss ++ summary_of 2 ss))));
      paper =
          map pos
          (68 ∷ 0 ∷ 0 ∷ 0 ∷ 1 ∷ 84 ∷ 16 ∷ 0
          ∷ 149 ∷ 2 ∷ 1 ∷ 0 ∷ 1 ∷ 165 ∷ 16 ∷ 1
          ∷ 201 ∷ 3 ∷ 0 ∷ 0 ∷ 1 ∷ 217 ∷ 16 ∷ 0
          ∷ 0 ∷ 0 ∷ 0 ∷ 4 ∷ 2 ∷ 64
          ∷ 1 ∷ 0 ∷ 2 ∷ 5 ∷ 2 ∷ 144
          ∷ 2 ∷ 0 ∷ 3 ∷ 6 ∷ 0 ∷ 0
          ∷ 3 ∷ 3 ∷ 2 ∷ 9 ∷ 0
          ∷ 3 ∷ 3 ∷ 2 ∷ 7 ∷ 1
          ∷ 3 ∷ 3 ∷ 2 ∷ 0 ∷ 0 ∷ []);
    }

-- serving: the bytes from a position on
abbrev served_in : List Segment → ℕ → ℕ → List ℕ
served_in ss source p = bytes_in film (served_part (given ss) source p)

-- asking: 1 and for how many positions where one is served, 0 and for how many where it is missing, 2 where it is not
-- below the described length
abbrev reply_in : List Segment → ℕ → ℕ → List ℕ
reply_in ss source p =
    elim (asked (given ss) source p) [
      | refused n ↦ n ∷ []
      | given r ↦ elim r [ served_for n ↦ 1 ∷ n ∷ [] | missing_for n ↦ 0 ∷ n ∷ [] | not_below ↦ 2 ∷ [] ]
    ]

-- positions 2 and 3, which both layers cover, are served each from its own source's chunk, as far as that goes;
-- position 1, which another layer alone has, is missing. "Every position of a source number not in the file is above
-- its length"
abbrev layers_served : Example
layers_served =
    let both : List Segment → ℕ → ℕ → List ℕ = λ ss source p. served_in ss source p ++ reply_in ss source p in
    record {
      defined =
          told_of film
          (λ ss. both ss 0 2 ++ (both ss 1 2 ++ (both ss 1 1 ++ (reply_in ss 0 7 ++ (reply_in ss 1 7 ++ (reply_in ss 0 9 ++ both ss 2 0))))));
      paper = map pos (13 ∷ 14 ∷ 1 ∷ 2 ∷ 21 ∷ 22 ∷ 23 ∷ 24 ∷ 25 ∷ 1 ∷ 5 ∷ 0 ∷ 1 ∷ 0 ∷ 2 ∷ 2 ∷ 2 ∷ 2 ∷ []);
    }

-- how many ranges the two lists of a source have, the totals, and the ranges
abbrev lists_in : List Segment → ℕ → List ℕ
lists_in ss source =
    let told = totals source ss in
    told.had_ranges ∷ told.missing_ranges ∷ told.received_total ∷ told.missing_total ∷ (had_rows source ss ++ missing_rows source ss)

-- both lists of each source, none of a number that is not in the file. "The map prints its lines per source, in number
-- order", and so does the other program
abbrev layers_listed : Example
layers_listed =
    record {
      defined = told_of film (λ ss. lists_in ss 0 ++ (lists_in ss 1 ++ (lists_in ss 2 ++ (map_of ss ++ missmap_of ss))));
      paper =
          map pos
          (1 ∷ 1 ∷ 4 ∷ 5 ∷ 0 ∷ 4 ∷ 4 ∷ 5
          ∷ 1 ∷ 1 ∷ 5 ∷ 2 ∷ 2 ∷ 5 ∷ 0 ∷ 2
          ∷ 0 ∷ 0 ∷ 0 ∷ 0
          ∷ (ascii "source\t9\topen\nhave\t0\t4\nlost\t4\t5\ntotal\t4\t0\t5\n"
          ++ (ascii "source\t7\tclosed\nlost\t0\t2\nhave\t2\t5\ntotal\t5\t0\t2\n"
          ++ (ascii "source\t9\topen\nhave\t0\t4\nmiss\t4\t5\ntotal\t4\t5\n"
          ++ ascii "source\t7\tclosed\nmiss\t0\t2\nhave\t2\t5\ntotal\t5\t2\n"))));
    }

-- listing a source that has position 2 and lacks 0 and 1 and then 3 to 5: two lists just long enough, 26 where either
-- is too short; and a number that is not in the file
abbrev lists_in_memory : Example
lists_in_memory =
    let f = file_of (surl_of a []) (good_of 0 2 (1 ∷ []) [] ++ lost_of 0 5 1 []) in
    let of : ℕ → ℕ → ℕ → List ℤ = λ source m n.
    let answer = listed source_limit f source (replicate 16 9) (replicate 12 9) (replicate m 9) (replicate n 9) in
    says (answer >>= λ _. given []) ++ map pos (after (had_rows source) answer (replicate m 9) ++ after (missing_rows source) answer (replicate n 9)) in
    record {
      defined = of 0 2 4 ++ (of 0 1 4 ++ (of 0 4 2 ++ of 1 0 0));
      paper = map pos (2 ∷ 1 ∷ 0 ∷ 2 ∷ 3 ∷ 3 ∷ 26 ∷ 9 ∷ 9 ∷ 9 ∷ 9 ∷ 9 ∷ 26 ∷ 9 ∷ 9 ∷ 9 ∷ 9 ∷ 9 ∷ 9 ∷ []);
    }

-- ---- sources by their lists of URLs

-- the list in `pfil` is `a`, `b`. Six open segments: with `b`; with none; with `a`, `b` and other MIME texts; with `b`,
-- `a`, one of them before its `ploc`; with `b` and a MIME text; with `ba`
abbrev gathered : List ℕ
gathered =
    file_of (surl_of a (ascii "p") ++ surl_of b [])
    (open_of 0 (surl_of b [])
    ++ (open_of 0 []
    ++ (open_of 0 (surl_of a (ascii "xy") ++ surl_of b [])
    ++ (segment_with (surl_of b (ascii "q") ++ (no_chunks ++ surl_of a []))
    ++ (open_of 0 (surl_of b (ascii "z")) ++ open_of 0 (surl_of (b ++ a) []))))))

-- the source number of each segment, or the refusal
abbrev numbers_in : List ℕ → List ℤ
numbers_in f = told_of f (map (λ s. s.source))

-- a text as its length and its bytes
abbrev text_in : List ℕ → Part → List ℕ
text_in f t = t.size ∷ bytes_in f t

-- the first text of each of five sources, and the texts of a segment's own `surl` boxes with their lengths, URL and
-- MIME by turns, as append takes them
abbrev first_texts : (List ℕ → Box → Part) → Heading → List Segment → List ℕ
first_texts which h ss =
    let of : ℕ → List ℕ = λ source. text_in gathered (source_text which gathered h ss source) in
    of 0 ++ (of 1 ++ (of 2 ++ (of 3 ++ of 4)))

abbrev own_texts : List Segment → ℕ → List ℕ
own_texts ss n = texts_for (segment_surls gathered ss n) ++ lengths_for (segment_surls gathered ss n)

-- "Segments whose lists of URLs are byte-equal in the same order belong to one source; a segment without any uses the
-- list in `pfil`": the order tells lists apart, a MIME text does not. The list in `pfil` has no number before a segment
-- uses it. The texts of a source are those of its first segment's own first `surl`, else of that in `pfil`, and none of
-- a number that is not in the file; those of a segment are none where it has no `surl`, or is not in the file
abbrev sources_by_lists : Example
sources_by_lists =
    record {
      defined =
          says
          (heading gathered
          >>= λ h. reading source_limit gathered
          >>= λ ss. given
          (map pos
          (map (λ s. s.source) ss
          ++ ((summary 0 ss).sources
          ∷ (first_texts url h ss
          ++ (first_texts mime h ss ++ (own_texts ss 2 ++ (own_texts ss 3 ++ (own_texts ss 4 ++ (own_texts ss 1 ++ own_texts ss 6))))))))));
      paper =
          map pos
          (0 ∷ 1 ∷ 1 ∷ 2 ∷ 0 ∷ 3 ∷ 4
          ∷ 1 ∷ 98 ∷ 1 ∷ 97 ∷ 1 ∷ 98 ∷ 2 ∷ 98 ∷ 97 ∷ 0
          ∷ 0 ∷ 1 ∷ 112 ∷ 1 ∷ 113 ∷ 0 ∷ 0
          ∷ 97 ∷ 120 ∷ 121 ∷ 98 ∷ 1 ∷ 2 ∷ 1 ∷ 0
          ∷ 98 ∷ 113 ∷ 97 ∷ 1 ∷ 1 ∷ 1 ∷ 0
          ∷ 98 ∷ 122 ∷ 1 ∷ 1 ∷ []);
    }

-- the texts of the second segment in lent memory of so many bytes and numbers: just enough, and a number more; 26 where
-- either has one less, and both as they were
abbrev texts_in_memory : Example
texts_in_memory =
    let f = file_of [] (open_of 0 (surl_of b []) ++ open_of 0 (surl_of a (ascii "xyz") ++ surl_of b [])) in
    let of : ℕ → ℕ → List ℤ = λ m n.
    let answer = texts_tabled source_limit f 1 (replicate m 9) (replicate n 9) in
    says (answer >>= λ _. given []) ++ map pos (after texts_for answer (replicate m 9) ++ after lengths_for answer (replicate n 9)) in
    record {
      defined = of 5 5 ++ (of 4 4 ++ of 5 3);
      paper =
          map pos
          (97 ∷ 120 ∷ 121 ∷ 122 ∷ 98 ∷ 1 ∷ 3 ∷ 1 ∷ 0 ∷ 9
          ∷ 26 ∷ (replicate 8 9 ++ (26 ∷ replicate 8 9)));
    }

-- ---- refusals

-- what is said of each of some files
abbrev numbers_of_each : List (List ℕ) → List ℤ
numbers_of_each [] = []
numbers_of_each (f ∷ fs) = numbers_in f ++ numbers_of_each fs

-- a `surl` of another version, one with a flag set, one with a byte behind its MIME text, one that ends with its URL,
-- and one whose MIME text is not closed
abbrev ill_formed : List (List ℕ)
ill_formed =
    (take 8 (surl_of a []) ++ (0x01 ∷ drop 9 (surl_of a [])))
    ∷ (take 11 (surl_of a []) ++ (0x01 ∷ drop 12 (surl_of a [])))
    ∷ surl_of a (0x00 ∷ [])
    ∷ (0x00 ∷ 0x00 ∷ 0x00 ∷ 0x0e ∷ take 10 (drop 4 (surl_of a [])))
    ∷ (take 15 (surl_of a (ascii "m")) ++ (0x6d ∷ []))
    ∷ []

-- "11 and 16 now mean only an ill-formed `surl`", behind a right one too: 11 in `pfil`, before 12; 16 in a segment,
-- after 14 and 15 and before 17
abbrev ill_formed_refused : Example
ill_formed_refused =
    let wrong = surl_of [] (0x01 ∷ 0x00 ∷ []) in
    record {
      defined =
          numbers_of_each (map (λ u. file_of (surl_of a [] ++ u) []) ill_formed)
          ++ (numbers_of_each (map (λ u. file_of (surl_of a []) (open_of 0 (surl_of b [] ++ u))) ill_formed)
          ++ numbers_of_each (map (λ boxes. file_of (surl_of a []) (segment_with boxes)) ((header ++ wrong) ∷ wrong ∷ (wrong_ploc ++ wrong) ∷ [])));
      paper = map pos (11 ∷ 11 ∷ 11 ∷ 11 ∷ 11 ∷ 16 ∷ 16 ∷ 16 ∷ 16 ∷ 16 ∷ 14 ∷ 15 ∷ 16 ∷ []);
    }

-- "41, after 16 .. when neither segment nor `pfil` has one": of one segment, of one behind another that has its own,
-- and where a `surl` stands in the file itself. 12, 14 and 15 come before it; 17 of its own `ploc` comes after it, and
-- that of a segment before it does not. Asking for texts answers it too
abbrev want_of_list : Example
want_of_list =
    record {
      defined =
          numbers_of_each
          (map (file_of [])
          (open_of 0 []
          ∷ (open_of 0 (surl_of b []) ++ open_of 0 [])
          ∷ (surl_of a [] ++ open_of 0 [])
          ∷ []
          ∷ segment_with header
          ∷ segment_with []
          ∷ segment_with wrong_ploc
          ∷ (segment_with (wrong_ploc ++ surl_of b []) ++ open_of 0 [])
          ∷ []))
          ++ (says (source_text_of url source_limit (file_of [] (open_of 0 [])) 0 >>= λ _. given [])
          ++ says (texts_tabled source_limit (file_of [] (open_of 0 [])) 0 [] [] >>= λ _. given []));
      paper = map pos (41 ∷ 41 ∷ 41 ∷ 12 ∷ 14 ∷ 15 ∷ 41 ∷ 17 ∷ 41 ∷ 41 ∷ []);
    }

-- a `pfil` without a list is taken where each segment has its own: the texts of the file are empty, those of its
-- sources are not. A list of one empty URL is a list, in `pfil` and in a segment, where it is another than that in
-- `pfil`
abbrev own_lists : Example
own_lists =
    let f = file_of [] (open_of 0 (surl_of b []) ++ open_of 0 (surl_of a (ascii "m"))) in
    let of : (List ℕ → Box → Part) → List ℤ = λ which.
    map pos (bytes_in f (text_of which source_limit f)) ++ says (source_text_of which source_limit f 1 >>= λ t. given (map pos (text_in f t))) in
    record {
      defined =
          numbers_in f
          ++ (of url
          ++ (of mime
          ++ numbers_of_each (file_of (surl_of [] []) (open_of 0 []) ∷ file_of (surl_of a []) (open_of 0 [] ++ open_of 0 (surl_of [] [])) ∷ [])));
      paper = map pos (0 ∷ 1 ∷ 1 ∷ 97 ∷ 1 ∷ 109 ∷ 0 ∷ 0 ∷ 1 ∷ []);
    }

-- "the agreement of sizes .. per source": the size of `b` is 4, that of `a` 9. An open segment of `a` may start at 5;
-- 25 for one of `b`, and for another size of `a`
abbrev sizes_of_sources : Example
sizes_of_sources =
    let with : List ℕ → List ℕ = λ boxes. file_of (surl_of a []) (lost_of 1 0 4 (surl_of b []) ++ (lost_of 1 0 9 [] ++ boxes)) in
    record {
      defined =
          told_of (with (open_of 5 [])) (λ ss. summary_of 0 ss ++ summary_of 1 ss)
          ++ numbers_of_each (with (open_of 5 (surl_of b [])) ∷ with (lost_of 1 0 8 []) ∷ []);
      paper = map pos (3 ∷ 2 ∷ 2 ∷ 4 ∷ 1 ∷ 3 ∷ 2 ∷ 2 ∷ 9 ∷ 1 ∷ 25 ∷ 25 ∷ []);
    }

-- chunks are counted over all sources: 1,024 in one segment reach their entries, which are cut; 22 behind one of
-- another source
abbrev chunks_of_sources : Example
chunks_of_sources =
    record {
      defined =
          numbers_of_each (map (file_of (surl_of a [])) (segment_with many_chunks ∷ (lost_of 0 0 1 (surl_of b []) ++ segment_with many_chunks) ∷ []));
      paper = map pos (17 ∷ 22 ∷ []);
    }

-- open segments, each with a URL of one byte
abbrev open_each : List ℕ → List ℕ
open_each [] = []
open_each (u ∷ us) = open_of 0 (surl_of (u ∷ []) []) ++ open_each us

-- eight sources are taken; 40 for a ninth, before 36; 25, of the ninth too, comes before 40
abbrev ninth_source : Example
ninth_source =
    let eight = open_each (1 ∷ 2 ∷ 3 ∷ 4 ∷ 5 ∷ 6 ∷ 7 ∷ 8 ∷ []) in
    record {
      defined =
          numbers_of_each
          (file_of [] eight
          ∷ file_of (surl_of a [] ++ index_of 7) (eight ++ open_of 0 [])
          ∷ file_of (surl_of a []) (eight ++ (lost_of 1 0 1 [] ++ open_of 2 []))
          ∷ []);
      paper = map pos (0 ∷ 1 ∷ 2 ∷ 3 ∷ 4 ∷ 5 ∷ 6 ∷ 7 ∷ 40 ∷ 25 ∷ []);
    }

-- ---- the indexes of sources

-- "An index in `pfil` belongs to the source of the list in `pfil`": its box of size 0 has the 8 bytes of `a`, none of
-- them served, and not the 9 good ones of `b`, which is the first; 39 where no segment uses that list. Without a list
-- in `pfil` the bytes of its box are not served. In segments each is of its own source; 38 whatever the sources are
abbrev indexes_of_sources : Example
indexes_of_sources =
    let first : List ℕ → List ℕ = λ boxes. good_of 1 0 (1 ∷ 2 ∷ 3 ∷ 4 ∷ 5 ∷ 6 ∷ 7 ∷ 8 ∷ 9 ∷ []) (surl_of b [] ++ boxes) in
    record {
      defined =
          rows_of 5 (file_of (surl_of a [] ++ index_of 0) (first [] ++ lost_of 1 0 8 []))
          ++ (rows_of 5 (file_of (surl_of a [] ++ index_of 0) (first []))
          ++ (rows_of 5 (file_of (index_of 8) (first []))
          ++ (rows_of 10 (file_of (surl_of a []) (first (index_of 0) ++ lost_of 1 0 8 (index_of 0)))
          ++ rows_of 5 (file_of (surl_of a [] ++ index_of 8) (open_of 0 (surl_of b [] ++ index_of 8))))));
      paper =
          map pos
          (1 ∷ 0 ∷ 8 ∷ mdat ∷ 0 ∷ 39 ∷ 1 ∷ 0 ∷ 8 ∷ mdat ∷ 0 ∷ 1 ∷ 0 ∷ 9 ∷ mdat ∷ 2 ∷ 1 ∷ 0 ∷ 8 ∷ mdat ∷ 0 ∷ 38 ∷ []);
    }

abbrev pub source_examples : List Example
source_examples =
    layers_in_rows ∷ layers_served ∷ layers_listed ∷ lists_in_memory ∷ sources_by_lists ∷ texts_in_memory ∷
    ill_formed_refused ∷ want_of_list ∷ own_lists ∷ sizes_of_sources ∷ chunks_of_sources ∷ ninth_source ∷ indexes_of_sources ∷ []

-- the definitions say what the paper says
abbrev pub SourcesAsThePaperSays : Type 0
SourcesAsThePaperSays = map (λ e. e.defined) source_examples ≡ map (λ e. e.paper) source_examples
