-- Each public call's contract determines its answer: two that it allows of the same arguments are equal. A call that
-- looks for a box in a container is determined where the container's boxes are known.
use mathlib.Core.Path.{◌≡◌, sym, ◌∙◌}
use mathlib.Core.List.{List}
use Rattle.boxes.specs.Answer.{given}
use Rattle.boxes.specs.Bodies.{boxes_of}
use Rattle.boxes.specs.Framing.{Box}
use Rattle.numerals.proofs.Determined.{OneResult, OneKnown}
use Rattle.boxes.proofs.ToldLaws.{box-told, result-told, option-told}
use Rattle.tallying.proofs.find.first_of.Reads as first_of
use Rattle.tallying.proofs.rules.keeps.Reads as keeps
use Rattle.tallying.proofs.counting.tally.Reads as tally
use Rattle.tallying.proofs.tally.Tally.of.Reads as tally-of

tally_result : OneResult tally.Post
tally_result κs args x y after after' p q = result-told (λ t u e. e) x y (p ∙ sym q)

tally_of-result : OneResult tally-of.Post
tally_of-result κs args x y after after' p q = p ∙ sym q

keeps-result : OneResult keeps.Post
keeps-result κs args x y after after' p q = p ∙ sym q

-- of a container whose boxes are known
first_of-result : OneKnown first_of.Post
    (λ κs args (bs : List Box). boxes_of args.0.now args.1.0 ≡ given bs)
first_of-result κs args bs known x y after after' p q = option-told box-told x y (p bs known ∙ sym (q bs known))
