-- `listing::lists::put_lists` meets its contract. The loop's invariant: the ranges so far are listed, those from here
-- on are left, and so many spans are passed.
use native.Mathlib.Omega.{arith}
use Rattle.sweeping.proofs.RangeLaws.{found_most}
use Rattle.listing.proofs.ListLaws.{midway_none, midway_more, midway_end}
use Rattle.listing.proofs.lists.put_lists.Goals as goal

pub loop-p-init : goal.loop-p-init
loop-p-init c = (
  record { had_many = omega arith; missing_many = omega arith; received = omega arith; missed = omega arith },
  λ o. (omega arith, record { most = omega arith; ended = λ j less. absurd (omega arith) }, midway_none _ _ _ _),
)

pub joined-lists-requires : goal.joined-lists-requires
joined-lists-requires c =
    let goes = c.range_at-found.ensures.0 in
    (c.loop-p.invariant.0, record { class = goes.class; some = goes.some (omega arith); ends = goes.ends })

pub overflow_add-p : goal.overflow_add-p
overflow_add-p c = omega (arith, c.range_at-found.ensures.0.ends)

pub loop-p-smaller : goal.loop-p-smaller
loop-p-smaller c = omega (arith, c.range_at-found.ensures.0.some (omega arith))

pub loop-p-preserved : goal.loop-p-preserved
loop-p-preserved c =
    let inv = c.loop-p.invariant in
    let with = c.joined-lists.ensures in (
      with.0,
      λ o.
          let (low, passed, midway) = inv.1 o in
          let finds = c.range_at-found.ensures.1 o passed (omega arith) in
          (omega (arith, found_most _ _ _ (omega arith) finds.range), finds.passed, midway_more _ _ _ _ midway (omega arith) _ finds.range with.1),
    )

pub returns : goal.returns
returns c =
    λ o.
    let (low, _, midway) = c.loop-p.invariant.1 o in
    midway_end _ _ _ _ midway (omega arith)
