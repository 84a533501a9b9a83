-- `sources::lists::number_of` meets its contract, container by container.
use Rattle.sources.proofs.ListLaws.{container_tag}
use Rattle.sources.proofs.lists.number_of.Goals as goal

pub returns : goal.returns
returns c = container_tag c.args.container
