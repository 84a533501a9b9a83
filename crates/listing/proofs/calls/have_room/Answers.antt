-- `listing::calls::have_room` meets its contract: with room for as many ranges as there can be, none is counted.
use mathlib.Core.Path.{sym}
use native.Mathlib.Omega.{arith}
use borrow.Author.Tests.{le-leb, lt-leb}
use lib.ListN.{length}
use Rattle.partial.specs.Ranges.{had_list, missing_list}
use Rattle.listing.proofs.calls.have_room.Goals as goal

pub returns-then-most-min : goal.returns-then-most-min
returns-then-most-min c ordered ss spanned had missing =
    let least = c.min.ensures in
    let args = c.args in
    sym (rw (le-leb (length (had_list ss)) args.had (omega arith), le-leb (length (missing_list ss)) args.missing (omega arith)))

pub returns-then-totals-had : goal.returns-then-totals-had
returns-then-totals-had c ordered ss spanned had missing =
    let counts = c.counted-totals.ensures ordered ss spanned in
    let args = c.args in
    rw (counts.missing_many, le-leb (length (had_list ss)) args.had (omega (arith, counts.had_many)))

pub returns-else-totals-had : goal.returns-else-totals-had
returns-else-totals-had c ordered ss spanned had missing =
    let counts = c.counted-totals.ensures ordered ss spanned in
    let args = c.args in
    rw (lt-leb (length (had_list ss)) args.had (omega (arith, counts.had_many))) (lt-leb c.counted-totals.result.had args.had c.if-totals-had.false)
