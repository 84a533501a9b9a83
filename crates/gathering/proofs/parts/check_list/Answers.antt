-- `gathering::parts::check_list` meets its contract: 16 where there is a `surl`, and 41 where there is none.
use mathlib.Core.Path.{sym, ◌∙◌}
use Rattle.partial.specs.Heading.{surl_right}
use Rattle.gathering.proofs.PartsLaws.{held_own, held_ill, held_listed, held_listless}
use Rattle.gathering.proofs.parts.check_list.Goals as goal

pub returns-then-surls_formed : goal.returns-then-surls_formed
unfolding surl_right
returns-then-surls_formed c bs known own =
    sym (held_own _ _ bs (sym own ∙ c.if-listed.true) (sym ((rw c.as_container.ensures at c.surls_formed.ensures) c.requires bs known) ∙ c.if-surls_formed.true))

pub returns-then-listed : goal.returns-then-listed
unfolding surl_right
returns-then-listed c bs known own =
    sym (held_ill _ _ bs (sym ((rw c.as_container.ensures at c.surls_formed.ensures) c.requires bs known) ∙ c.if-surls_formed.false))

pub returns-then-in_pfil : goal.returns-then-in_pfil
returns-then-in_pfil c bs known own = sym (held_listed _ _ bs (sym own ∙ c.if-listed.false) c.if-in_pfil.true)

pub returns-else-in_pfil : goal.returns-else-in_pfil
returns-else-in_pfil c bs known own = sym (held_listless _ _ bs (sym own ∙ c.if-listed.false) c.if-in_pfil.false)
