-- `segment::tops::tops_of` meets its contract. The loop's invariant: the places of the boxes passed stand in the table.
use mathlib.Core.List.{List, [], ◌∷◌, ◌++◌}
use mathlib.Core.Logic.{inl, inr}
use mathlib.Core.Path.{sym, ap, subst, ◌∙◌}
use native.Mathlib.Nat.{mod-eq_of_lt}
use native.Mathlib.Omega.{arith}
use lib.ListN.{length-append}
use Rattle.segment.proofs.MetLaws.{met_one, met_none}
use Rattle.boxes.specs.Framing.{Box, box_of}
use Rattle.boxes.proofs.AnswerLaws.{not_both, given_same}
use Rattle.boxes.proofs.ToldLaws.{box_fields}
use Rattle.boxes.proofs.WalkLaws.{passed_more, all_boxes, first_fault, next_box, no_more, a_fault}
use Rattle.segment.specs.Tops.{Tops}
use Rattle.std.proofs.lemmas.List.{set-get_or}
use Rattle.segment.proofs.TopsLaws.{ends_inside, all_passed, tops_more}
use Rattle.segment.proofs.tops.tops_of.Goals as goal

pub loop-top-preserved : goal.loop-top-preserved
loop-top-preserved c =
    let inv = c.loop-top.invariant in
    let b = c.in-Some.b in
    let step = next_box c.step.ensures (met_one c.unwrap_or.ensures c.in-Some.is) in (
      inv.0 ++ (box_of b ∷ []),
      passed_more inv.1 step,
      omega (arith, length-append inv.0 (box_of b ∷ []), inv.2),
      (λ short none.
          let (low, ends) = ends_inside c.new-walk.ensures inv.1 step in
          let at = ap (λ (x : Box). x.at) (box_fields b) in
          tops_more (box_of b) inv.2 (at ∙ sym (mod-eq_of_lt (omega arith))) (omega arith) (omega arith) (inv.3 short none)),
    )

pub returns-in_default : goal.returns-in_default
returns-in_default c =
    λ bs short none known.
    let inv = c.loop-top.invariant in
    elim (met_none c.unwrap_or.ensures c.in_default.is) [
      | inl end ↦ rw set-get_or (subst (λ (bs : List Box). Tops bs c.loop-top.tops) (given_same (sym (all_boxes c.new-walk.ensures inv.1 (no_more c.step.ensures end)) ∙ known)) (inv.3 short none))
      | inr fault ↦ absurd (not_both (sym (first_fault c.new-walk.ensures inv.1 (a_fault c.step.ensures fault.1)) ∙ known))
    ]

pub returns : goal.returns
returns c =
    λ bs short none known.
    let inv = c.loop-top.invariant in
    subst (λ (bs : List Box). Tops bs c.loop-top.tops) (sym (all_passed c.new-walk.ensures inv.1 (omega arith) known)) (inv.3 short none)
