-- `listing::calls::counted` meets its contract.
use Rattle.listing.proofs.CallsLaws.{spanned_lists}
use Rattle.listing.proofs.calls.counted.Goals as goal

pub returns : goal.returns
returns c = λ ordered ss spanned. (spanned_lists spanned (c.put_lists.ensures ordered)).counts
