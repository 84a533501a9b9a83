-- The cycle of calls of `index_list` and `indexed_box` meets its contracts: the list's walk goes on with each box, and
-- a box's answer is that of its own fields, of the framing inside it, or of the list on the next level.
use mathlib.Core.Path.{sym, ap, subst, ◌∙◌}
use native.Mathlib.Omega.{arith}
use Prim.Native.Nat.{◌+◌}
use Rattle.std.specs.Prelude.{Ok}
use Rattle.boxes.specs.Framing.{box_of}
use Rattle.boxes.specs.Kinds.{bidx, those}
use Rattle.boxes.specs.declared.walk.Walk.{Walk}
use Rattle.boxes.proofs.ToldLaws.{told-ok, told-err}
use Rattle.boxes.proofs.WalkLaws.{fewer, next_box, no_more, a_fault, walk_boxes}
use Rattle.tallying.proofs.FoundLaws.{is_kind, is_other}
use Rattle.indexing.specs.Ends.{end_of}
use Rattle.indexing.specs.Head.{head_told}
use Rattle.indexing.specs.Lists.{Counted, Listed}
use Rattle.indexing.proofs.BoxLaws.{box_head, box_unframed, inner_known}
use Rattle.indexing.proofs.KnownLaws.{next_place}
use Rattle.indexing.proofs.ListLaws.{handed_counted, handed_listed, handed_read, midway_none, midway_other, midway_refused, midway_more, midway_end, midway_sound, one_left, box_ready}
use Rattle.indexing.proofs.ReadyLaws.{box_below, list_below, inner_counted, inner_wrong, box-roomy, part_short, list_ready, listed_last, listed-filled, listed_unfilled, listed_wrong}
use Rattle.indexing.proofs.lists.+index_list_indexed_box.Goals as goal

pub index_list-loop-b-init : goal.index_list-loop-b-init
index_list-loop-b-init t c = midway_none (end_of c.args.spot.enclosing) _ c.new-walk.ensures c.requires

pub index_list-overflow_sub-left : goal.index_list-overflow_sub-left
index_list-overflow_sub-left t c =
    let step = next_box c.step.ensures (c.in_ok-b.was ∙ ap Ok c.in-Some.is) in
    one_left _ _ _ _ _ _ _ c.loop-b.invariant c.in-Some.b step (is_kind bidx c.in-Some.b c.eq.ensures c.if-eq.true)

pub index_list-indexed_box-requires : goal.index_list-indexed_box-requires
index_list-indexed_box-requires t c =
    let step = next_box c.step.ensures (c.in_ok-b.was ∙ ap Ok c.in-Some.is) in
    let kind = is_kind bidx c.in-Some.b c.eq.ensures c.if-eq.true in
    (box_below c.args.spot.level c.requires.deepest c.decreases, box_ready _ _ _ _ _ _ _ c.loop-b.invariant c.in-Some.b step kind)

pub index_list-returns-in_err-more : goal.index_list-returns-in_err-more
unfolding Listed
index_list-returns-in_err-more t c =
    let step = next_box c.step.ensures (c.in_ok-b.was ∙ ap Ok c.in-Some.is) in
    let kind = is_kind bidx c.in-Some.b c.eq.ensures c.if-eq.true in
    let fault = subst (Listed _ _ _ _) c.in_err-more.was c.indexed_box.ensures.1 in
    let handed = c.from_residual-in_err-more.ensures.1 in
    (handed_counted _ _ _ handed, λ bs known. handed_listed _ c.args.body.end.0 _ handed _ _ _ (midway_refused _ _ _ _ _ _ _ c.loop-b.invariant c.in-Some.b step kind fault bs (sym (walk_boxes _ c.new-walk.ensures) ∙ known)))

pub index_list-loop-b-smaller-then-eq : goal.index_list-loop-b-smaller-then-eq
index_list-loop-b-smaller-then-eq t c = fewer _ _ (next_box c.step.ensures (c.in_ok-b.was ∙ ap Ok c.in-Some.is))

pub index_list-loop-b-preserved-then-eq : goal.index_list-loop-b-preserved-then-eq
index_list-loop-b-preserved-then-eq t c =
    let step = next_box c.step.ensures (c.in_ok-b.was ∙ ap Ok c.in-Some.is) in
    let kind = is_kind bidx c.in-Some.b c.eq.ensures c.if-eq.true in
    let read = c.indexed_box.ensures in
    let next = ap (λ place. place.0) c.unwrap_or-place.ensures ∙ next_place c.loop-b.place c.in_ok-more.to in
    midway_more _ _ _ _ _ _ _ c.loop-b.invariant c.in-Some.b step kind (subst (Listed _ _ _ _) c.in_ok-more.was read.1) (subst (Counted _) c.in_ok-more.was read.0) next

pub index_list-loop-b-smaller : goal.index_list-loop-b-smaller
index_list-loop-b-smaller t c = fewer _ _ (next_box c.step.ensures (c.in_ok-b.was ∙ ap Ok c.in-Some.is))

pub index_list-loop-b-preserved : goal.index_list-loop-b-preserved
index_list-loop-b-preserved t c =
    let step = next_box c.step.ensures (c.in_ok-b.was ∙ ap Ok c.in-Some.is) in
    midway_other _ _ _ _ _ _ _ c.loop-b.invariant c.in-Some.b step (is_other bidx c.in-Some.b c.eq.ensures c.if-eq.false)

pub index_list-returns : goal.index_list-returns
unfolding Counted
index_list-returns t c =
    let so_far = c.loop-b.invariant in
    let new = c.new-walk.ensures in
    let end = no_more c.step.ensures (c.in_ok-b.was ∙ ap Ok c.in_default.is) in
    (omega (arith, so_far.rows, so_far.within, so_far.same_end, ap (λ (w : Walk). w.end.0) new), λ bs known. midway_end _ _ _ _ _ _ _ so_far end bs (sym (walk_boxes _ new) ∙ known))

pub index_list-returns-in_err-b : goal.index_list-returns-in_err-b
index_list-returns-in_err-b t c =
    absurd (midway_sound _ _ _ _ _ _ _ c.loop-b.invariant (a_fault c.step.ensures c.in_err-b.was))

pub indexed_box-returns-in_err-x : goal.indexed_box-returns-in_err-x
indexed_box-returns-in_err-x t c =
    handed_read _ c.args.b.end.0 _ c.from_residual.ensures.1 _ _ _ (box_head _ _ c.requires.deepest _ _ _ _ (told-err head_told c.head_of.ensures c.in_err-x.was))

pub indexed_box-returns-in_err-many : goal.indexed_box-returns-in_err-many
unfolding box_of
indexed_box-returns-in_err-many t c =
    let headed = told-ok head_told c.head_of.ensures c.in_ok-x.was in
    let wrong = inner_wrong _ _ _ (told-err (λ r. r) c.inner_of.ensures c.in_err-many.was) in
    handed_read _ c.args.b.end.0 _ c.from_residual-in_err-many.ensures.1 _ _ _ (box_unframed _ _ c.requires.deepest _ _ _ _ headed wrong)

pub indexed_box-put_box-marks-requires : goal.indexed_box-put_box-marks-requires
indexed_box-put_box-marks-requires t c =
    let headed = told-ok head_told c.head_of.ensures c.in_ok-x.was in
    ((box-roomy _ c.args.b _ _ _ _ _ c.requires c.in_ok-x.x c.in_ok-x.end headed).rows, c.requires.deepest)

pub indexed_box-returns-then-level-eq-LEVEL_LIMIT :
    goal.indexed_box-returns-then-level-eq-LEVEL_LIMIT
unfolding Counted
indexed_box-returns-then-level-eq-LEVEL_LIMIT t c =
    let headed = told-ok head_told c.head_of.ensures c.in_ok-x.was in
    let room = box-roomy _ c.args.b _ _ _ _ _ c.requires c.in_ok-x.x c.in_ok-x.end headed in
    let inner = inner_counted _ _ _ (told-ok (λ r. r) c.inner_of.ensures c.in_ok-many.was) in
    let put = c.put_box-marks.ensures in
    let deep = c.deepened.ensures in
    let under = deep.1 (c.args.spot.level + 1) (those bidx inner.boxes) _ (omega (arith, c.if-level-eq-LEVEL_LIMIT.true)) inner.many_are in
    (omega (arith, room.row, room.inside, put.0, deep.0), listed_last _ c.args.b _ _ _ _ _ c.requires c.in_ok-x.x c.in_ok-x.end headed inner put.1 c.if-level-eq-LEVEL_LIMIT.true under)

pub indexed_box-overflow_add-under-2 : goal.indexed_box-overflow_add-under-2
indexed_box-overflow_add-under-2 t c =
    let headed = told-ok head_told c.head_of.ensures c.in_ok-x.was in
    let room = box-roomy _ c.args.b _ _ _ _ _ c.requires c.in_ok-x.x c.in_ok-x.end headed in
    let inner = inner_counted _ _ _ (told-ok (λ r. r) c.inner_of.ensures c.in_ok-many.was) in
    let short = part_short _ c.args.b _ _ _ _ _ c.requires c.in_ok-x.x c.in_ok-x.end headed inner in
    omega (arith, c.requires.placed, c.requires.deepest, room.high, short)

pub indexed_box-overflow_add-under-3 : goal.indexed_box-overflow_add-under-3
indexed_box-overflow_add-under-3 t c =
    let headed = told-ok head_told c.head_of.ensures c.in_ok-x.was in
    let room = box-roomy _ c.args.b _ _ _ _ _ c.requires c.in_ok-x.x c.in_ok-x.end headed in
    let inner = inner_counted _ _ _ (told-ok (λ r. r) c.inner_of.ensures c.in_ok-many.was) in
    let short = part_short _ c.args.b _ _ _ _ _ c.requires c.in_ok-x.x c.in_ok-x.end headed inner in
    omega (arith, c.requires.placed, c.requires.deepest, room.high, short)

pub indexed_box-index_list-requires : goal.indexed_box-index_list-requires
indexed_box-index_list-requires t c =
    let headed = told-ok head_told c.head_of.ensures c.in_ok-x.was in
    let inner = inner_counted _ _ _ (told-ok (λ r. r) c.inner_of.ensures c.in_ok-many.was) in
    (list_below c.args.spot.level c.requires.deepest c.decreases, list_ready _ c.args.b _ _ _ _ _ c.requires c.in_ok-x.x c.in_ok-x.end headed inner c.if-level-eq-LEVEL_LIMIT.false c.put_box-marks.ensures.0)

pub indexed_box-returns-in_err-more : goal.indexed_box-returns-in_err-more
unfolding Listed
indexed_box-returns-in_err-more t c =
    let headed = told-ok head_told c.head_of.ensures c.in_ok-x.was in
    let inner = inner_counted _ _ _ (told-ok (λ r. r) c.inner_of.ensures c.in_ok-many.was) in
    let known = inner_known _ _ _ inner.read in
    let fault = subst (Listed _ _ _ _) c.in_err-more.was (c.index_list.ensures.1 inner.boxes known) in
    handed_read _ c.args.b.end.0 _ c.from_residual-in_err-more.ensures.1 _ _ _ (listed_wrong _ c.args.b _ _ _ _ _ c.requires c.in_ok-x.x c.in_ok-x.end headed inner fault)

pub indexed_box-returns-then-not-fills : goal.indexed_box-returns-then-not-fills
unfolding Counted Listed
indexed_box-returns-then-not-fills t c =
    let headed = told-ok head_told c.head_of.ensures c.in_ok-x.was in
    let inner = inner_counted _ _ _ (told-ok (λ r. r) c.inner_of.ensures c.in_ok-many.was) in
    let known = inner_known _ _ _ inner.read in
    let (boxes, listed, ends, under) = subst (Listed _ _ _ _) c.in_ok-more.was (c.index_list.ensures.1 inner.boxes known) in
    (tt, listed_unfilled _ c.args.b _ _ _ _ _ c.requires c.in_ok-x.x c.in_ok-x.end headed inner c.in_ok-more.filled listed ends (sym c.fills.ensures ∙ c.if-not-fills.true))

pub indexed_box-returns : goal.indexed_box-returns
unfolding Counted Listed
indexed_box-returns t c =
    let headed = told-ok head_told c.head_of.ensures c.in_ok-x.was in
    let inner = inner_counted _ _ _ (told-ok (λ r. r) c.inner_of.ensures c.in_ok-many.was) in
    let known = inner_known _ _ _ inner.read in
    let (boxes, listed, ends, under) = subst (Listed _ _ _ _) c.in_ok-more.was (c.index_list.ensures.1 inner.boxes known) in
    let counted = subst (Counted _) c.in_ok-more.was c.index_list.ensures.0 in
    (counted, listed-filled _ c.args.b _ _ _ _ _ c.requires c.in_ok-x.x c.in_ok-x.end headed inner c.put_box-marks.ensures.1 c.in_ok-more.filled listed ends under (sym c.fills.ensures ∙ c.if-not-fills.false))
