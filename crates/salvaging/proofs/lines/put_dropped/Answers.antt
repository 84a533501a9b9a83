-- `salvaging::lines::put_dropped` meets its contract. The loop's invariant: the boxes so far have their lines.
use mathlib.Core.Path.{refl, sym, ap, ◌∙◌}
use native.Mathlib.Omega.{arith}
use Rattle.boxes.specs.Framing.{box_of}
use Rattle.boxes.proofs.WalkLaws.{next_box, fewer, over_left}
use Rattle.filling.proofs.PutsLaws.{puts_same, puts_more}
use Rattle.partial.specs.BoxList.{each}
use Rattle.rescue.specs.Lines.{dropped_line}
use Rattle.rescue.proofs.TableLaws.{no_fated}
use Rattle.salvaging.specs.Tables.{fates_in, fate_at}
use Rattle.surls.proofs.WithinLaws.{was_next}
use Rattle.salvaging.proofs.CountingLaws.{counting_none, counting_more, counting_last}
use Rattle.salvaging.proofs.LinesLaws.{each_more, each_none, take_all}
use Rattle.salvaging.proofs.SoundLaws.{code_held, box-held, fates_long}
use Rattle.salvaging.proofs.lines.put_dropped.Goals as goal

pub loop-b-init : goal.loop-b-init
loop-b-init c =
    let new = c.new-walk.ensures in (
      refl,
      omega (arith, over_left new),
      omega arith,
      λ h sound held. (counting_none _ sound.boxes new refl, each_none dropped_line (fates_in c.args.file.now h) _),
    )

pub bounds-fates-k : goal.bounds-fates-k
bounds-fates-k c =
    let inv = c.loop-b.invariant in
    let step = next_box c.step.ensures (was_next c.unwrap_or.ensures c.in-Some.is) in
    omega (arith, inv.1, fewer _ _ step)

pub loop-b-smaller : goal.loop-b-smaller
loop-b-smaller c = fewer _ _ (next_box c.step.ensures (was_next c.unwrap_or.ensures c.in-Some.is))

pub loop-b-preserved : goal.loop-b-preserved
unfolding box_of
loop-b-preserved c =
    let f = c.args.file.now in
    let k = c.loop-b.k in
    let inv = c.loop-b.invariant in
    let step = next_box c.step.ensures (was_next c.unwrap_or.ensures c.in-Some.is) in
    let (line, few) = c.put_line-at.ensures in (
      c.put_line-at.auto.buffer ∙ inv.0,
      omega (arith, inv.1, fewer _ _ step),
      omega (arith, inv.2, few),
      λ h sound held.
          let (counting, puts) = inv.3 h sound held in
          let (less, here, onward) = counting_more counting step in (
            onward,
            puts_same (each_more dropped_line (fates_in f h) no_fated k (omega (arith, less, fates_long f h sound)))
                (puts_more puts (line (fate_at f h k) (ap (λ b. b.at) (box-held f h sound k ∙ sym here)) (code_held f h sound held k less) (omega (arith, inv.1, inv.2)))),
          ),
    )

pub returns : goal.returns
returns c =
    let inv = c.loop-b.invariant in (
      λ h sound held.
          let (counting, puts) = inv.3 h sound held in
          let all = counting_last counting _ c.step.ensures c.unwrap_or.ensures c.in_default.is in
          puts_same (ap (each dropped_line) (take_all (fates_in _ h) _ (fates_long _ h sound ∙ sym all))) puts,
      omega (arith, inv.1, inv.2),
    )
