-- The worked examples of begin and append: the definitions say what the paper says.
use mathlib.Core.Path.{refl}
use Rattle.additions.specs.Examples.{table, AsThePaperSays}
use Rattle.additions.specs.IndexExamples.{IndexAsThePaperSays}
use Rattle.additions.specs.SurlExamples.{SurlAsThePaperSays}
use Rattle.additions.proofs.Computing.{computing}

as_the_paper_says : AsThePaperSays
unfolding table computing
as_the_paper_says = refl

index_as_the_paper_says : IndexAsThePaperSays
unfolding computing
index_as_the_paper_says = refl

surl_as_the_paper_says : SurlAsThePaperSays
unfolding computing
surl_as_the_paper_says = refl
