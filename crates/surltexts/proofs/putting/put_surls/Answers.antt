-- `surltexts::putting::put_surls` meets its contract. The loop's invariant: of a container that lies in the file, the
-- texts of the `surl` boxes passed are put, and the walk ends where it did.
use mathlib.Core.Logic.{inl, inr}
use mathlib.Core.Path.{refl, ap}
use native.Mathlib.Omega.{arith}
use borrow.Author.Rules.{rules}
use Rattle.boxes.specs.Kinds.{surl}
use Rattle.boxes.proofs.WalkLaws.{fewer, next_box, no_more, a_fault}
use Rattle.surls.proofs.WithinLaws.{was_next, was_last}
use Rattle.tallying.proofs.FoundLaws.{asked_sound, is_kind, is_other}
use Rattle.surltexts.proofs.PuttingLaws.{putting_none, putting_within, putting_behind, putting_other, putting_more, putting_end}
use Rattle.surltexts.proofs.putting.put_surls.Goals as goal

pub loop-b-init : goal.loop-b-init
loop-b-init c = (refl, refl, λ room. putting_none _ _ _ _ c.default-amount.ensures)

pub loop-b-smaller-then-eq : goal.loop-b-smaller-then-eq
loop-b-smaller-then-eq c = fewer _ _ (next_box c.step.ensures (was_next c.unwrap_or.ensures c.in-Some.is))

pub loop-b-preserved-then-eq : goal.loop-b-preserved-then-eq
loop-b-preserved-then-eq c =
    let inv = c.loop-b.invariant in
    let step = next_box c.step.ensures (was_next c.unwrap_or.ensures c.in-Some.is) in (
      search rules,
      search rules,
      λ room.
          let p = inv.2 room in
          putting_more p _ step (is_kind surl _ c.eq.ensures c.if-eq.true) (c.put_surl-amount.ensures (putting_within p _ step room) (putting_behind p _ step)),
    )

pub loop-b-smaller : goal.loop-b-smaller
loop-b-smaller c = fewer _ _ (next_box c.step.ensures (was_next c.unwrap_or.ensures c.in-Some.is))

pub loop-b-preserved : goal.loop-b-preserved
loop-b-preserved c =
    let inv = c.loop-b.invariant in
    let step = next_box c.step.ensures (was_next c.unwrap_or.ensures c.in-Some.is) in
    (inv.0, inv.1, λ room. putting_other (inv.2 room) _ step (is_other surl _ c.eq.ensures c.if-eq.false))

pub returns : goal.returns
returns c bs known inside =
    let new = c.new-walk.ensures in
    let p = c.loop-b.invariant.2 (omega (arith, ap (λ w. w.end.0) new)) in
    elim (was_last c.unwrap_or.ensures c.in_default.is) [
      | inl end ↦ putting_end p new known (no_more c.step.ensures end)
      | inr (n, fault) ↦ absurd (asked_sound new p.asked known (a_fault c.step.ensures fault))
    ]
