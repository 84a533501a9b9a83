-- Each public call's contract determines its answer and what it leaves in the buffer: two that it allows of the same
-- arguments are equal.
use mathlib.Core.Path.{sym, ◌∙◌}
use Rattle.numerals.proofs.Determined.{OneResult, OneLeft}
use Rattle.partial.proofs.Determined.{number-told}
use Rattle.mapping.proofs.call.map.Reads as map
use Rattle.mapping.proofs.call.missmap.Reads as missmap

map-result : OneResult map.Post
map-result κs args x y after after' p q = number-told x y (p.answer ∙ sym q.answer)

map_bytes : OneLeft map.Post (λ κs after. after.1.1.0.now)
map_bytes κs args x y after after' p q = p.left ∙ sym q.left

missmap_result : OneResult missmap.Post
missmap_result κs args x y after after' p q = number-told x y (p.answer ∙ sym q.answer)

missmap_bytes : OneLeft missmap.Post (λ κs after. after.1.1.0.now)
missmap_bytes κs args x y after after' p q = p.left ∙ sym q.left
