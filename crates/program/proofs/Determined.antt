-- The one contract of a public function determines its answer: two that it allows are equal.
use mathlib.Core.Path.{sym, ◌∙◌}
use Rattle.numerals.proofs.Determined.{OneResult}
use Rattle.program.proofs.limit.Reads as limit

limit_result : OneResult limit.Post
limit_result κs args x y after after' p q = p ∙ sym q
