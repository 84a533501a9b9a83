-- `puts::surl::put_surls` meets its contract. The loop's invariant: where 32 bits hold the size of all boxes, those of
-- the pairs passed are put, and the texts of those that are left begin at a byte.
use Prim.Native.Nat.{◌+◌, ◌/◌, ◌<◌}
use mathlib.Core.Path.{ap, ◌∙◌}
use native.Mathlib.Omega.{arith}
use borrow.Author.Rules.{rules}
use lib.ListN.{length, length-append}
use Rattle.puts.proofs.PieceLaws.{partly_start, partly_same, partly_end, partly_more}
use Rattle.puts.proofs.SurlLaws.{box, boxes_from, boxes_step, boxes_done, left_small}
use Rattle.puts.proofs.surl.put_surls.Goals as goal

pub loop-i-init : goal.loop-i-init
loop-i-init c = (search rules, λ small. partly_start _ _ _)

pub loop-i-preserved : goal.loop-i-preserved
loop-i-preserved c =
    let first = c.end_by-middle.ensures in
    let second = c.end_by-end.ensures in
    let lengths = c.args.lengths.now in
    let texts = c.args.texts.now in
    let i = c.loop-i.i in
    let from = c.loop-i.from in
    let less : i < length lengths / 2 = omega arith in (
      omega (arith, second),
      λ small.
          let m = c.loop-i.invariant.1 small in
          let step = boxes_step texts lengths i from less first second in
          let rest = boxes_from texts lengths c.end_by-end.result (i + 1) in
          let long = ap length step ∙ length-append (box texts lengths i from less first second) rest in
          partly_more _ _ _ _ _ (partly_same _ _ _ step m) (c.put_surl-next.ensures (omega (arith, long, left_small texts lengths from i m))),
    )

pub returns : goal.returns
returns c small =
    partly_end _ _ _ (partly_same _ _ _ (boxes_done _ _ c.loop-i.i c.loop-i.from (omega arith)) (c.loop-i.invariant.1 small))
