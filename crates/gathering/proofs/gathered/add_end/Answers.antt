-- `gathering::gathered::add_end` meets its contract.
use mathlib.Core.Path.{ap, ◌∙◌}
use Rattle.partial.specs.Sources.{of_source}
use Rattle.ends.specs.Table.{sizes_in}
use Rattle.ends.proofs.TableLaws.{holds_more}
use Rattle.gathering.proofs.gathered.add_end.Goals as goal

pub returns : goal.returns
returns c =
    λ ss s source there holds flags count ends within.
    let with = c.with.ensures (of_source s.source ss) s (c.sizes_at-before.ensures ∙ ap (sizes_in _) source ∙ holds.said s.source) ends (c.gives_size.ensures s flags count) in
    holds_more s source there within holds with c.put_sizes.ensures
