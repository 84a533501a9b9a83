-- The worked examples of reading: the definitions say what the paper says.
use Prim.Native.Nat.{ℕ}
use mathlib.Core.List.{List}
use mathlib.Core.Path.{◌≡◌, refl, ◌∙◌}
use native.Mathlib.Omega.{arith}
use Rattle.partial.specs.Limits.{program_limit, source_limit}
use Rattle.partial.specs.Segments.{Segment}
use Rattle.partial.specs.Map.{refused_line, ascii}
use Rattle.partial.specs.Examples.{table, AsThePaperSays, AtTheProgramLimit}
use Rattle.partial.specs.IndexExamples.{IndexAsThePaperSays}
use Rattle.partial.specs.SourceExamples.{SourcesAsThePaperSays}
use Rattle.partial.proofs.Computing.{computing}
use Rattle.partial.proofs.Reading.PrintedLaws.{printed}

as_the_paper_says : AsThePaperSays
unfolding table computing
as_the_paper_says = refl

index_as_the_paper_says : IndexAsThePaperSays
unfolding computing
index_as_the_paper_says = refl

sources_as_the_paper_says : SourcesAsThePaperSays
unfolding computing
sources_as_the_paper_says = refl

refused_27 : refused_line 27 ≡ ascii "refused\t27\n"
unfolding computing
refused_27 = refl

at_the_program_limit : (of : List Segment → List ℕ) → AtTheProgramLimit of
at_the_program_limit of =
    record {
      taken = λ input n long e. (printed of source_limit program_limit input).refusal n (omega arith) e;
      over = λ input long. (printed of source_limit program_limit input).over_long (omega arith) ∙ refused_27;
    }
