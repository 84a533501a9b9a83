-- `puts::pshd::version_of` meets its contract.
use mathlib.Core.Path.{sym, ◌∙◌}
use Rattle.puts.proofs.BoxLaws.{version_0, version_1}
use Rattle.puts.proofs.pshd.version_of.Goals as goal

pub returns-then-width-eq4 : goal.returns-then-width-eq4
returns-then-width-eq4 c = λ offset width. sym (version_0 offset (sym width ∙ c.if-width-eq4.true))

pub returns-else-width-eq4 : goal.returns-else-width-eq4
returns-else-width-eq4 c = λ offset width. sym (version_1 offset (λ four. c.if-width-eq4.false (width ∙ four)))
