-- `puts::pdat::put_chosen` meets its contract. The loop's invariant: the data of the items passed that are chosen is
-- copied.
use Prim.Native.Nat.{◌*◌, ◌/◌, ◌<◌}
use mathlib.Core.Path.{sym, ◌∙◌}
use native.Mathlib.Omega.{arith}
use lib.ListN.{length, get_or}
use Rattle.puts.proofs.CopyLaws.{copied_start, copied_more, copied_past, copied_end}
use Rattle.puts.proofs.PieceLaws.{piece_put}
use Rattle.puts.proofs.pdat.put_chosen.Goals as goal
use Rattle.puts.proofs.pdat.put_chosen.Goals.{then-is_chosen, else-is_chosen}

pub loop-i-init : goal.loop-i-init
loop-i-init c = copied_start _ _ _ _ _

pub loop-i-preserved : goal.loop-i-preserved
loop-i-preserved c =
    let m = c.loop-i.invariant in
    let ends = c.end_of-end.ensures in
    let list = c.args.list.now in
    let less : c.loop-i.i < length list / 2 = omega arith in
    let told = c.is_chosen.ensures (get_or list (2 * c.loop-i.i) 0) in
    elim c.if-is_chosen.branch [
      | then-is_chosen w ↦ rw (w.buffer-is, w.next-is) (copied_more _ _ _ _ _ m less ends (sym told ∙ w.if-is_chosen.true) (piece_put w.put_bytes-next.ensures))
      | else-is_chosen w ↦ rw (w.buffer-is, w.next-is) (copied_past _ _ _ _ _ m less ends (sym told ∙ w.if-is_chosen.false))
    ]

pub returns : goal.returns
returns c = copied_end _ _ _ _ _ c.loop-i.invariant (omega arith)
