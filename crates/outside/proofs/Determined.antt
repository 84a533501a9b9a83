-- Each public call's contract determines its answer: two that it allows of the same arguments are equal.
use mathlib.Core.Path.{sym, ◌∙◌}
use Rattle.numerals.proofs.Determined.{OneResult}
use Rattle.outside.proofs.chunks.outside_of.Reads as Outside-of
use Rattle.outside.proofs.items.data_of.Reads as data_of
use Rattle.outside.proofs.items.end_of.Reads as end_of_lem
use Rattle.outside.proofs.items.goes_out.Reads as goes-out
use Rattle.outside.proofs.whole.whole_of.Reads as whole_of

data_of-result : OneResult data_of.Post
data_of-result κs args x y after after' p q = p ∙ sym q

end_of-result : OneResult end_of_lem.Post
end_of-result κs args x y after after' p q = p ∙ sym q

goes_out_result : OneResult goes-out.Post
goes_out_result κs args x y after after' p q = p 0 ∙ sym (q 0)

whole_of-result : OneResult whole_of.Post
whole_of-result κs args x y after after' p q = p ∙ sym q

outside_of-result : OneResult Outside-of.Post
outside_of-result κs args x y after after' p q = p ∙ sym q
