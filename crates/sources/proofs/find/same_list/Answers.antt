-- `sources::find::same_list` meets its contract: by whether both stand at the same place.
use mathlib.Core.Path.{sym, ◌∙◌}
use Rattle.sources.proofs.HeldLaws.{same_body, one_list}
use Rattle.sources.proofs.find.same_list.Goals as goal

pub returns-then-eq : goal.returns-then-eq
returns-then-eq c = λ bs cs one other. c.if-eq.true ∙ one_list _ bs cs (same_body _ _ (sym c.eq.ensures ∙ c.if-eq.true)) one other

pub returns-else-eq : goal.returns-else-eq
returns-else-eq c = λ bs cs one other. c.same_urls.ensures bs cs one.boxes other.boxes one.inside other.inside
