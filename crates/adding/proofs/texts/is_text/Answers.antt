-- `adding::texts::is_text` meets its contract.
use mathlib.Core.Bool.{not}
use mathlib.Core.Path.{ap, ◌∙◌}
use Rattle.adding.proofs.TextLaws.{text_none}
use Rattle.adding.proofs.texts.is_text.Goals as goal

pub returns : goal.returns
returns c = ap not c.contains.ensures.value ∙ text_none c.args.bytes.now
