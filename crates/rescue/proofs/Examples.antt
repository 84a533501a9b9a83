-- The worked examples of salvage: the definitions say what the paper says.
use mathlib.Core.Path.{refl}
use Rattle.rescue.specs.Examples.{table, AsThePaperSays}
use Rattle.rescue.proofs.Computing.{computing}

as_the_paper_says : AsThePaperSays
unfolding table computing
as_the_paper_says = refl
