-- `surls::first::has_surl` meets its contract: one is found exactly if there is one.
use mathlib.Core.Path.{◌∙◌}
use Rattle.surls.proofs.FirstLaws.{first_any}
use Rattle.surls.proofs.first.has_surl.Goals as goal

pub returns : goal.returns
returns c bs known = c.is_some.ensures ∙ first_any _ _ (c.first_of.ensures bs known)
