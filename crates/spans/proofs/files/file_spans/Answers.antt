-- `spans::files::file_spans` meets its contract.
use Rattle.spans.proofs.SpanLaws.{same_ordered}
use Rattle.spans.proofs.FileLaws.{spans_ordered}
use Rattle.spans.proofs.files.file_spans.Goals as goal

pub returns : goal.returns
returns c =
    let (spans, all) = c.spans_of-n.ensures in
    let (same, up) = c.order.ensures spans.room in
    (same_ordered same spans up, λ ss kept room. spans_ordered (all ss kept room) same)
