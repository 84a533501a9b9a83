-- `sweeping::ranges::range_at` meets its contract: by whether the reach lies behind the position.
use native.Mathlib.Omega.{arith}
use Rattle.sweeping.proofs.RangeLaws.{range_had, range_missing, next_high, passed_on, nothing-goes, nothing-found}
use Rattle.sweeping.proofs.ranges.range_at.Goals as goal
use Rattle.sweeping.proofs.ranges.range_at.Goals.{then-k-spans, else-k-spans}

pub returns-then-end-p : goal.returns-then-end-p
returns-then-end-p c =
    (nothing-goes c.nothing.ensures (λ below. absurd (omega arith)) (omega arith), λ o before below. absurd (omega arith))

pub returns-then-p-to : goal.returns-then-p-to
returns-then-p-to c =
    let s = c.had_to-reached.ensures in (
      record { class = omega arith; some = λ below. omega arith; ends = omega arith },
      λ o before below. record { range = range_had _ _ _ _ _ o before s (omega arith) (omega arith); passed = passed_on _ _ _ _ _ o before s (omega arith) },
    )

pub overflow_sub-next : goal.overflow_sub-next
overflow_sub-next c =
    let high =
    next_high _ _ _ _ c.args.end.0 c.had_to-reached.ensures (omega arith) (omega arith)
    {next = c.if-k-spans.next}
    (λ less. elim c.if-k-spans.branch [ then-k-spans w ↦ omega arith | else-k-spans w ↦ absurd (omega arith) ])
    (λ most. elim c.if-k-spans.branch [ then-k-spans w ↦ absurd (omega arith) | else-k-spans w ↦ omega arith ]) in
    omega (arith, high)

pub returns : goal.returns
returns c =
    let s = c.had_to-reached.ensures in
    let next = c.if-k-spans.next in
    let high =
    next_high _ _ _ _ c.args.end.0 s (omega arith) (omega arith)
    {next = next}
    (λ less. elim c.if-k-spans.branch [ then-k-spans w ↦ omega arith | else-k-spans w ↦ absurd (omega arith) ])
    (λ most. elim c.if-k-spans.branch [ then-k-spans w ↦ absurd (omega arith) | else-k-spans w ↦ omega arith ]) in (
      nothing-goes c.nothing-2.ensures (λ below. omega (arith, high)) (omega (arith, high)),
      λ o before below.
          nothing-found c.nothing-2.ensures
          (range_missing _ _ _ _ _ o before s (omega arith) (omega arith)
          {next = next}
          (λ less. elim c.if-k-spans.branch [ then-k-spans w ↦ omega arith | else-k-spans w ↦ absurd (omega arith) ])
          (λ most. elim c.if-k-spans.branch [ then-k-spans w ↦ absurd (omega arith) | else-k-spans w ↦ omega arith ]))
          (passed_on _ _ _ _ _ o before s (omega (arith, high))),
    )
