-- Document 02, [7]: worked examples of additions to files with an index, computed over the definitions, as one table
-- with one statement.
use Rattle.std.specs.Prelude.{Bool, true, false, List, [], ◌∷◌, ◌++◌, map, ◌≡◌, length, replicate, pos}
use Rattle.boxes.specs.Answer.{given, ◌>>=◌}
use Rattle.partial.specs.Limits.{source_limit}
use Rattle.partial.specs.Examples.{Example, says}
use Rattle.partial.specs.IndexExamples.{moov, trak, mdat, indexed_as, index, wrong_index, begun_with, rows_of}
use Rattle.additions.specs.Addition.{Addition}
use Rattle.additions.specs.Append.{added, appended}
use Rattle.additions.specs.Examples.{segment_at, answer_to}

-- a file just begun of 119 bytes answers 12. An addition of 77 that is not last leaves its index without an end, also
-- where the buffer is too short for it. One that is last gives it one: of a source of 24 bytes the first 15 are served,
-- so that all, some and none of the three boxes are
abbrev begun_to_the_end : Example
begun_to_the_end =
    let f = begun_with (index (indexed_as 8 moov [] ++ (indexed_as 8 trak [] ++ indexed_as 0 mdat []))) in
    let a : Bool → Addition = λ last. segment_at 0 last (15 ∷ 2 ∷ 9 ∷ 0 ∷ []) (replicate 15 7) in
    record {
      defined =
          rows_of 15 f
          ++ (answer_to f (a false)
          ++ (says (appended source_limit f (length f) (a false) >>= λ _. given [])
          ++ (answer_to f (a true) ++ rows_of 15 (f ++ added (a true)))));
      paper =
          map pos (12 ∷ 39 ∷ 39 ∷ 196 ∷ 1 ∷ 0 ∷ 8 ∷ moov ∷ 2 ∷ 1 ∷ 8 ∷ 8 ∷ trak ∷ 1 ∷ 1 ∷ 16 ∷ 8 ∷ mdat ∷ 0 ∷ []);
    }

-- one with a wrong index answers 12, too, and 36 to an addition, after 31, 32 and what the result would have before it
abbrev begun_wrong : Example
begun_wrong =
    let f = begun_with wrong_index in
    record {
      defined =
          rows_of 0 f
          ++ (answer_to f (segment_at 0 true (24 ∷ 0 ∷ []) [])
          ++ (answer_to f (segment_at 0 true (24 ∷ 4 ∷ []) [])
          ++ (answer_to f (segment_at 0 true (24 ∷ 0 ∷ []) (1 ∷ [])) ++ answer_to f (segment_at source_limit true (24 ∷ 0 ∷ []) []))));
      paper = map pos (12 ∷ 36 ∷ 31 ∷ 32 ∷ 23 ∷ []);
    }

abbrev pub index_examples : List Example
index_examples = begun_to_the_end ∷ begun_wrong ∷ []

-- the definitions say what the paper says
abbrev pub IndexAsThePaperSays : Type 0
IndexAsThePaperSays = map (λ e. e.defined) index_examples ≡ map (λ e. e.paper) index_examples
