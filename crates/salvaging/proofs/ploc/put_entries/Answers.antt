-- `salvaging::ploc::put_entries` meets its contract. The loop's invariant: the entries passed are put with their new
-- offsets, and those that are left were read.
use native.Mathlib.Omega.{arith}
use borrow.Author.Rules.{rules}
use Rattle.salvaging.proofs.PlocLaws.{midway_start, midway_sound, midway_place, midway_held, midway_more, midway_end}
use Rattle.salvaging.proofs.ploc.put_entries.Goals as goal

pub loop-i-init : goal.loop-i-init
loop-i-init c = (search rules, λ h s moving read same held. midway_start _ _ _ _ _ _ _ _ read.start read.chunks held)

pub returns-in_default : goal.returns-in_default
returns-in_default c h s moving read same held =
    let m = c.loop-i.invariant.1 h s moving read same held in
    absurd (midway_sound _ _ _ _ _ _ _ _ m (omega arith) c.entry_at.ensures c.in_default.is)

pub loop-i-preserved : goal.loop-i-preserved
loop-i-preserved c =
    let inv = c.loop-i.invariant in (
      search rules,
      λ h s moving read same held.
          let m = inv.1 h s moving read same held in
          let answer = c.entry_at.ensures in
          let is = c.in-Ok.is in
          let there = midway_place _ _ _ _ _ _ _ _ m (omega arith) answer is in
          let far = c.offset_anew-offset.ensures _ h m.start _ moving same there in
          let number = c.number.ensures in
          midway_more _ _ _ _ _ _ _ _ m (omega arith) answer is far number (c.put_entry-next.ensures (midway_held _ _ _ _ _ _ _ _ m (omega arith) answer is far number)),
    )

pub returns : goal.returns
returns c h s moving read same held = midway_end _ _ _ _ _ _ _ _ (c.loop-i.invariant.1 h s moving read same held) (omega arith)
