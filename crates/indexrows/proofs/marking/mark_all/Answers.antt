-- `indexrows::marking::mark_all` meets its contract. The loop's invariant: the sources so far are marked.
use borrow.Author.Rules.{rules}
use Rattle.indexrows.specs.Marking.{marked_below}
use Rattle.indexrows.proofs.HadLaws.{starts_filled}
use Rattle.indexrows.proofs.MarkingLaws.{filled_next}
use Rattle.indexrows.proofs.marking.mark_all.Goals as goal

pub loop-source-preserved : goal.loop-source-preserved
loop-source-preserved c = (
  search rules,
  λ ss is a long starts.
      let so_far = c.loop-source.invariant.1 ss is a long starts in
      filled_next ss _ is _ so_far (c.mark_by.ensures ss is (marked_below ss c.loop-source.source) a long (starts_filled _ _ so_far)),
)
