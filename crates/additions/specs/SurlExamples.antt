-- Document 02, [8]: worked examples of additions with the texts of `surl` boxes, computed over the definitions, as one
-- table with one statement.
use Rattle.std.specs.Prelude.{ℕ, ◌+◌, true, false, List, [], ◌∷◌, ◌++◌, map, ◌≡◌, length, take, drop, replicate, ℤ, pos}
use Rattle.boxes.specs.Answer.{given, ◌>>=◌}
use Rattle.partial.specs.Limits.{source_limit}
use Rattle.partial.specs.Heading.{heading}
use Rattle.partial.specs.Meaning.{described_length}
use Rattle.partial.specs.Sources.{of_source}
use Rattle.partial.specs.Reading.{reading}
use Rattle.partial.specs.Lesson.{begun_bytes, first_bytes}
use Rattle.partial.specs.Examples.{Example, says}
use Rattle.additions.specs.Addition.{Addition}
use Rattle.additions.specs.Append.{added, new_segment, appended}
use Rattle.additions.specs.Again.{again}
use Rattle.additions.specs.Examples.{segment_with, segment_at, grown_by, answer_to}

-- a segment with texts and the list of their lengths
abbrev texted : Addition → List ℕ → List ℕ → Addition
texted a texts lengths =
    record {
      source_offset = a.source_offset;
      repair_time = a.repair_time;
      last = a.last;
      outside = a.outside;
      list = a.list;
      bytes = a.bytes;
      texts = texts;
      lengths = lengths;
    }

-- a last segment of one lost chunk of 6
abbrev lost_six : Addition
lost_six = segment_with false 0 true (6 ∷ 0 ∷ []) []

-- `b` and no MIME text, then `cd` and `e`
abbrev two_texts : Addition
two_texts = texted lost_six (0x62 ∷ 0x63 ∷ 0x64 ∷ 0x65 ∷ []) (1 ∷ 0 ∷ 2 ∷ 1 ∷ [])

-- what is added for them: a `pseg` of 8 bytes, a `pshd` of 24, a `ploc` of 19, and after it `surl` boxes of 15 and 17
abbrev two_bytes : List ℕ
two_bytes =
    0x00 ∷ 0x00 ∷ 0x00 ∷ 0x53 ∷ 0x70 ∷ 0x73 ∷ 0x65 ∷ 0x67 ∷
    0x00 ∷ 0x00 ∷ 0x00 ∷ 0x18 ∷ 0x70 ∷ 0x73 ∷ 0x68 ∷ 0x64 ∷ 0x00 ∷ 0x00 ∷ 0x00 ∷ 0x01 ∷
    0x00 ∷ 0x00 ∷ 0x00 ∷ 0x00 ∷ 0x00 ∷ 0x00 ∷ 0x00 ∷ 0x00 ∷ 0x00 ∷ 0x00 ∷ 0x00 ∷ 0x00 ∷
    0x00 ∷ 0x00 ∷ 0x00 ∷ 0x13 ∷ 0x70 ∷ 0x6c ∷ 0x6f ∷ 0x63 ∷ 0x00 ∷ 0x00 ∷ 0x00 ∷ 0x00 ∷ 0x10 ∷ 0x00 ∷ 0x00 ∷ 0x00 ∷ 0x01 ∷
    0x80 ∷ 0x06 ∷
    0x00 ∷ 0x00 ∷ 0x00 ∷ 0x0f ∷ 0x73 ∷ 0x75 ∷ 0x72 ∷ 0x6c ∷ 0x00 ∷ 0x00 ∷ 0x00 ∷ 0x00 ∷ 0x62 ∷ 0x00 ∷ 0x00 ∷
    0x00 ∷ 0x00 ∷ 0x00 ∷ 0x11 ∷ 0x73 ∷ 0x75 ∷ 0x72 ∷ 0x6c ∷ 0x00 ∷ 0x00 ∷ 0x00 ∷ 0x00 ∷ 0x63 ∷ 0x64 ∷ 0x00 ∷ 0x65 ∷ 0x00 ∷ []

-- "the URLs and MIME texts of the `surl` boxes to write after `ploc`"; the segment says them again
abbrev texts_written : Example
texts_written =
    let f = begun_bytes ++ two_bytes in
    record {
      defined =
          map pos (grown_by begun_bytes two_texts)
          ++ says (heading f >>= λ h. let s = again f h (new_segment h [] 55 two_texts) in given (map pos (s.texts ++ s.lengths)));
      paper = map pos (f ++ (0x62 ∷ 0x63 ∷ 0x64 ∷ 0x65 ∷ 1 ∷ 0 ∷ 2 ∷ 1 ∷ []));
    }

-- the number of the source that an addition with these texts goes to, in P9's file, which has one, of URL `a`
abbrev source_of : List ℕ → List ℕ → List ℤ
source_of texts lengths =
    let f = begun_bytes ++ first_bytes in
    says (heading f >>= λ h. reading source_limit f >>= λ ss. given (pos (new_segment h ss (length f) (texted lost_six texts lengths)).source ∷ []))

-- without texts it is that of `pfil`, and with the same list, whatever the MIME text; another list is another source:
-- `b`, an empty URL, `a` twice
abbrev sources_told : Example
sources_told =
    record {
      defined =
          source_of [] []
          ++ (source_of (0x61 ∷ []) (1 ∷ 0 ∷ [])
          ++ (source_of (0x61 ∷ 0x62 ∷ []) (1 ∷ 1 ∷ [])
          ++ (source_of (0x62 ∷ []) (1 ∷ 0 ∷ []) ++ (source_of [] (0 ∷ 0 ∷ []) ++ source_of (0x61 ∷ 0x61 ∷ []) (1 ∷ 0 ∷ 1 ∷ 0 ∷ [])))));
      paper = map pos (0 ∷ 0 ∷ 0 ∷ 1 ∷ 1 ∷ 1 ∷ []);
    }

-- what append answers to P8's file, in a buffer with so much room
abbrev answer_with : ℕ → Addition → List ℤ
answer_with room a = says (appended source_limit (begun_bytes ++ replicate room 0) (length begun_bytes) a >>= λ size. given (pos size ∷ []))

abbrev answered : Addition → List ℤ
answered = answer_with 100

-- "31 also for a list of text lengths that is odd, and 32 also for text bytes not equal in number to the sum of those
-- lengths"; 31 comes before both reasons of 32
abbrev texts_wrong : Example
texts_wrong =
    let oneByte = segment_with false 0 true (6 ∷ 0 ∷ []) (1 ∷ []) in
    record {
      defined =
          answered (texted lost_six (0x62 ∷ []) (1 ∷ []))
          ++ (answered (texted oneByte (0x62 ∷ []) (2 ∷ []))
          ++ (answered (texted lost_six (0x62 ∷ []) (1 ∷ 1 ∷ []))
          ++ (answered (texted lost_six (0x62 ∷ []) [])
          ++ answered (texted oneByte (0x62 ∷ []) (1 ∷ 0 ∷ [])))));
      paper = map pos (31 ∷ 31 ∷ 32 ∷ 32 ∷ 32 ∷ []);
    }

-- "34 in append, last before 1": a zero byte, after 32 and 35, and before 23
abbrev zero_byte : Example
zero_byte =
    let outer : List ℕ → List ℕ → Addition = λ texts lengths. texted (segment_with true 0 true (1 ∷ 2 ∷ []) (7 ∷ [])) texts lengths in
    let high = segment_with false source_limit true (6 ∷ 0 ∷ []) [] in
    record {
      defined =
          answered (texted lost_six (0x62 ∷ 0 ∷ []) (1 ∷ 1 ∷ []))
          ++ (answered (texted lost_six (0x62 ∷ 0 ∷ []) (1 ∷ 0 ∷ []))
          ++ (answered (outer (0 ∷ []) (1 ∷ 0 ∷ []))
          ++ (answered (texted high (0 ∷ []) (1 ∷ 0 ∷ [])) ++ answered (texted high (0x62 ∷ []) (1 ∷ 0 ∷ [])))));
      paper = map pos (34 ∷ 32 ∷ 35 ∷ 34 ∷ 23 ∷ []);
    }

-- 6 also of the new `pseg` itself: with `pshd` and `ploc` 510 `surl` boxes of 14 bytes are taken, 55 bytes and 51
-- beside them; one more is a 513th box, which comes before 23
abbrev many_texts : Example
many_texts =
    let many : ℕ → Addition → Addition = λ n a. texted a [] (replicate (n + n) 0) in
    let high = segment_with false source_limit true (6 ∷ 0 ∷ []) [] in
    record {
      defined =
          answer_with 8_000 (many 510 lost_six) ++ (answer_with 8_000 (many 511 lost_six) ++ answer_with 8_000 (many 511 high));
      paper = map pos (7_246 ∷ 6 ∷ 6 ∷ []);
    }

-- a segment with a URL of one byte
abbrev of : ℕ → Addition → Addition
of url a = texted a (url ∷ []) (1 ∷ 0 ∷ [])

-- the source number of each segment of a file, and the described lengths of its first three sources
abbrev layers_in : List ℕ → List ℤ
layers_in f =
    says
    (reading source_limit f
    >>= λ ss. given (map (λ s. pos s.source) ss ++ map (λ n. pos (described_length (of_source n ss))) (0 ∷ 1 ∷ 2 ∷ [])))

-- P9's file is of one source, of 10 bytes. Behind its 121 bytes comes a second of 6, `b`, in a `pseg` of 66; to that an
-- open segment; to the first, without texts, five good bytes; and a third of 3, `c`
abbrev layers_added : Example
layers_added =
    let second = of 0x62 lost_six in
    let more = of 0x62 (segment_at 4 false [] []) in
    let first = segment_at 2 false (5 ∷ 2 ∷ []) (21 ∷ 22 ∷ 23 ∷ 24 ∷ 25 ∷ []) in
    let third = of 0x63 (segment_at 0 true (3 ∷ 0 ∷ []) []) in
    record {
      defined =
          answer_to (begun_bytes ++ first_bytes) second
          ++ layers_in (begun_bytes ++ (first_bytes ++ (added second ++ (added more ++ (added first ++ added third)))));
      paper = map pos (187 ∷ 0 ∷ 1 ∷ 1 ∷ 0 ∷ 2 ∷ 10 ∷ 6 ∷ 3 ∷ []);
    }

-- "the agreement of sizes" is per source: beside the first two, another last segment of 5 is 25 in either and is taken
-- in a third, of 66 bytes behind 121 and 66
abbrev agreement_per_source : Example
agreement_per_source =
    let f = begun_bytes ++ (first_bytes ++ added (of 0x62 lost_six)) in
    let five = segment_at 0 true (5 ∷ 0 ∷ []) [] in
    record {
      defined = answer_to f five ++ (answer_to f (of 0x62 five) ++ answer_to f (of 0x63 five));
      paper = map pos (25 ∷ 25 ∷ 253 ∷ []);
    }

-- P8's file with no `surl` in its `pfil`
abbrev unlisted : List ℕ
unlisted = take 20 begun_bytes ++ (0x00 ∷ 0x00 ∷ 0x00 ∷ 0x14 ∷ 0x70 ∷ 0x66 ∷ 0x69 ∷ 0x6c ∷ take 12 (drop 28 begun_bytes))

-- "41, ... in append after 13, when neither segment nor `pfil` has one": after 32 and before 23, also where another
-- segment has one; with texts it is taken, a `pseg` of 66 bytes behind 40
abbrev no_list : Example
no_list =
    let oneByte = segment_with false 0 true (6 ∷ 0 ∷ []) (1 ∷ []) in
    let high = segment_at source_limit true (6 ∷ 0 ∷ []) [] in
    record {
      defined =
          answer_to unlisted lost_six
          ++ (answer_to unlisted oneByte
          ++ (answer_to unlisted high ++ (answer_to (unlisted ++ added (of 0x62 lost_six)) lost_six ++ answer_to unlisted (of 0x62 lost_six))));
      paper = map pos (41 ∷ 32 ∷ 41 ∷ 41 ∷ 106 ∷ []);
    }

-- "40, next after 25, for a ninth source, in append too", after 23: beside an open segment of each of `b` to `i`, 64
-- bytes each behind 55, both one of `j` and, without texts, one of `a`, the list in `pfil`, which no segment uses yet;
-- another of `i` is taken
abbrev ninth_source : Example
ninth_source =
    let empty = segment_at 0 false [] [] in
    let one : ℕ → List ℕ = λ url. added (of url empty) in
    let f = begun_bytes ++ (one 0x62 ++ (one 0x63 ++ (one 0x64 ++ (one 0x65 ++ (one 0x66 ++ (one 0x67 ++ (one 0x68 ++ one 0x69))))))) in
    let high = segment_at source_limit true (6 ∷ 0 ∷ []) [] in
    record {
      defined = answer_to f (of 0x6a empty) ++ (answer_to f empty ++ (answer_to f (of 0x6a high) ++ answer_to f (of 0x69 empty)));
      paper = map pos (40 ∷ 40 ∷ 23 ∷ 631 ∷ []);
    }

abbrev pub surl_examples : List Example
surl_examples =
    texts_written ∷ sources_told ∷ texts_wrong ∷ zero_byte ∷ many_texts ∷ layers_added ∷ agreement_per_source ∷ no_list ∷ ninth_source ∷ []

-- the definitions say what the paper says
abbrev pub SurlAsThePaperSays : Type 0
SurlAsThePaperSays = map (λ e. e.defined) surl_examples ≡ map (λ e. e.paper) surl_examples
