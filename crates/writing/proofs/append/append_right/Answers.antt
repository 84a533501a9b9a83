-- `writing::append::append_right` meets its contract: what admission refuses and 33 in their order, then the boxes.
use Prim.Native.Nat.{◌+◌, ◌≤◌}
use mathlib.Core.Path.{sym}
use native.Mathlib.Omega.{arith}
use lib.ListN.{length}
use lib.Seq.{length-take-le}
use Rattle.additions.specs.Addition.{asks}
use Rattle.additions.specs.Append.{added}
use Rattle.adding.specs.Asks.{asks_of}
use Rattle.writing.proofs.AppendLaws.{appends_refused, appends_handed, appends_given, put_result, earlier}
use Rattle.writing.proofs.AppendLaws.{not_admitted, new_length, added_small, items_fit, too_short, appended_given}
use Rattle.writing.proofs.append.append_right.Goals as goal

pub slice_bounds-admission-end-2 : goal.slice_bounds-admission-end-2
slice_bounds-admission-end-2 c = sym (length-take-le _ _ c.requires.0.enough)

pub returns-then-buffer-size : goal.returns-then-buffer-size
unfolding asks
returns-then-buffer-size c =
    let (ready, right, asked, plain, outer) = c.requires in
    let file = earlier _ _ ready.told in
    appends_refused _ _ _
    (too_short _ _ _ ready.enough _ file right (outer _ file.head) plain asked ready.going _ (c.admission.ensures c.args.asked.counts.right) c.in_ok-size.was (omega arith))

pub put_added-end-requires : goal.put_added-end-requires
unfolding asks
put_added-end-requires c =
    let (ready, right, asked, plain, outer) = c.requires in
    let file = earlier _ _ ready.told in
    let held = outer _ file.head in
    let answer = c.admission.ensures c.args.asked.counts.right in
    let size = c.in_ok-size.was in (
      asked.sorted,
      asked.laid,
      items_fit _ _ _ ready.enough _ file right held plain asked ready.going _ answer size,
      added_small _ _ _ ready.enough _ file right held plain asked ready.going _ answer size,
    )

pub returns-in_err-size : goal.returns-in_err-size
unfolding asks
returns-in_err-size c =
    let (ready, right, asked, plain, outer) = c.requires in
    let file = earlier _ _ ready.told in
    appends_handed _ _ _ _ _ c.from_residual.ensures.1
    (not_admitted _ _ _ ready.enough _ file right (outer _ file.head) plain asked ready.going _ (c.admission.ensures c.args.asked.counts.right) c.in_err-size.was)

pub returns : goal.returns
unfolding asks
returns c =
    let args = c.args in
    let (ready, right, asked, plain, outer) = c.requires in
    let file = earlier _ _ ready.told in
    let held = outer _ file.head in
    let answer = c.admission.ensures c.args.asked.counts.right in
    let size = c.in_ok-size.was in
    let long = new_length _ _ _ ready.enough _ file right held plain asked ready.going _ answer size in
    let left = c.if-buffer-size.false in
    let room : args.onto.length + length (added (asks_of args.addition)) ≤ length args.buffer.now = omega arith in
    let all = c.put_added-end.ensures.puts (omega arith) in
    let answered = appended_given _ _ _ ready.enough _ file right held plain asked ready.going _ answer size (omega arith) all.end in
    appends_given _ _ _ answered (put_result _ _ _ room all.put)
