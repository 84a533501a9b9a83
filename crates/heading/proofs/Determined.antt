-- Each public call's contract determines its answer: two that it allows of the same arguments are equal.
use mathlib.Core.Path.{sym, ◌∙◌}
use Rattle.numerals.proofs.Determined.{OneResult}
use Rattle.boxes.proofs.ToldLaws.{Tells, result-told}
use Rattle.heading.specs.Facts.{facts_by}
use Rattle.heading.proofs.stages.heading_of.Reads as heading-of

-- two heads that say the same are the same
pub head_told : Tells facts_by
head_told g h e =
    λ i. record {
      boxes = (e i).boxes;
      segments = (e i).segments;
      mixed = (e i).mixed;
      indexed = (e i).indexed;
      list = (e i).list;
      url = record { place = record { 0 = (e i).url.place }; size = (e i).url.size };
      mime = record { place = record { 0 = (e i).mime.place }; size = (e i).mime.size };
    }

heading-of-result : OneResult heading-of.Post
heading-of-result κs args x y after after' p q = result-told head_told x y (p ∙ sym q)
