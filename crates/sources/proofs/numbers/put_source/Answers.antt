-- `sources::numbers::put_source` meets its contract: by whether the table has the entry.
use mathlib.Core.Path.{sym}
use Rattle.sources.proofs.NumberLaws.{put_past, put_there}
use Rattle.sources.proofs.numbers.put_source.Goals as goal

pub returns-then-segment : goal.returns-then-segment
returns-then-segment c = sym (put_there _ _ _ c.if-segment.true)

pub returns-else-segment : goal.returns-else-segment
returns-else-segment c = sym (put_past _ _ _ c.if-segment.false)
