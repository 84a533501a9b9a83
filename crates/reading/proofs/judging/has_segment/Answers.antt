-- `reading::judging::has_segment` meets its contract: the count that the heading tells keeps the rule.
use mathlib.Core.Path.{sym, ap, ◌∙◌}
use Rattle.boxes.specs.Kinds.{pseg, right_count}
use Rattle.boxes.specs.declared.kinds.Container.TheVariants.{File}
use Rattle.boxes.proofs.KindLaws.{right-count}
use Rattle.reading.proofs.JudgedLaws.{facts_segments}
use Rattle.reading.proofs.judging.has_segment.Goals as goal

pub returns : goal.returns
returns c =
    λ f h same. c.keeps.ensures ∙ ap (right_count File pseg) (facts_segments f h _ same) ∙ sym (right-count File pseg h.boxes)
