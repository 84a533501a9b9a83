-- `sources::lists::clear_lists` meets its contract.
use Rattle.sources.proofs.ListLaws.{zeros_unlisted}
use Rattle.sources.proofs.lists.clear_lists.Goals as goal

pub returns : goal.returns
returns c = zeros_unlisted
