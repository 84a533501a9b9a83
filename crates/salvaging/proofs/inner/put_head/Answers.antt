-- `salvaging::inner::put_head` meets its contract: the size field of either form holds the size.
use Rattle.salvaging.proofs.InnerLaws.{head_large, head_small}
use Rattle.salvaging.proofs.inner.put_head.Goals as goal

pub returns-then-b-saturating_add : goal.returns-then-b-saturating_add
returns-then-b-saturating_add c low small = head_large _ c.saturating_add.ensures low small c.if-b-saturating_add.true c.put_large_front.ensures

pub returns : goal.returns
returns c low small = head_small _ c.saturating_add.ensures low small c.if-b-saturating_add.false c.put_front.ensures
