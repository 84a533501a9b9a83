-- `going::texts::left_behind` meets its contract. The loop's invariant: what both lists say goes by what is left of
-- them.
use Prim.Native.Nat.{◌≤◌}
use mathlib.Core.Path.{◌≡◌}
use lib.ListN.{length}
use Rattle.partial.specs.Heading.{urls_in}
use Rattle.partial.specs.Sources.{same_urls}
use Rattle.tallying.proofs.FoundLaws.{Asked}
use Rattle.going.specs.Texts.{urls_of, left_same}
use Rattle.going.proofs.texts.left_behind.Given as goal

abbrev pub invariant-loop-b : goal.invariant-loop-b
invariant-loop-b l = Asked l.file (λ bs. same_urls (urls_in l.file bs) (urls_of l.texts l.lengths)) l.initial.walk (left_same l.file l.texts l.lengths l.cut) l.walk
    × (l.walk.end ≡ l.initial.walk.end)
    × (l.cut.from ≤ length l.texts)

abbrev pub decreases-loop-b : goal.decreases-loop-b
decreases-loop-b l = l.walk.left
