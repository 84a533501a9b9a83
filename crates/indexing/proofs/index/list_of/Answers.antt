-- `indexing::index::list_of` meets its contract: the framing, then the list on the first level.
use mathlib.Core.Bool.{false≢true}
use mathlib.Core.Path.{◌≡◌, refl, sym, ap, subst, ◌∙◌}
use Rattle.refusals.specs.Refusals.{refusal_no}
use Rattle.boxes.specs.Answer.{refused, given}
use Rattle.boxes.specs.Bodies.{boxes_of}
use Rattle.boxes.specs.Framing.{box_of}
use Rattle.boxes.specs.Kinds.{bidx}
use Rattle.tallying.proofs.RuleLaws.{tally_fault, tally_sound, tally_given}
use Rattle.indexing.specs.Lists.{Counted}
use Rattle.indexing.proofs.ListLaws.{handed_counted, handed_listed}
use Rattle.indexing.proofs.ReplacedLaws.{ok-before, err-before}
use Rattle.indexing.proofs.IndexLaws.{list-fault, listed_first, first_ready}
use Rattle.indexing.proofs.index.list_of.Goals as goal

pub returns-then-not-bounded : goal.returns-then-not-bounded
unfolding Counted
returns-then-not-bounded c =
    (tt, λ within. absurd (false≢true (sym c.if-not-bounded.true ∙ c.bounded.ensures.1 within)))

pub returns-in_err-inner : goal.returns-in_err-inner
unfolding box_of
returns-in_err-inner c =
    let (n, was, same) = err-before _ c.or.ensures c.in_err-inner.was in
    let wrong = rw c.as_container-body.ensures at (tally_fault c.tally.ensures was) in
    let fault = list-fault _ (box_of c.args.b) _ _ wrong ∙ ap (λ e. refused (refusal_no e)) (sym same) in
    let handed = c.from_residual.ensures.1 in
    (handed_counted _ _ _ handed, λ within. handed_listed _ c.args.b.end.0 _ handed _ _ _ fault)

pub index_list-requires : goal.index_list-requires
index_list-requires c =
    let within = c.bounded.ensures.0 c.if-not-bounded.false in
    let (bs, known, counts) = tally_sound c.tally.ensures (ok-before _ c.or.ensures c.in_ok-inner.was) in
    let framed = subst (λ body. boxes_of c.args.file.now body ≡ given bs) c.as_container-body.ensures known in
    rw c.as_container-body.ensures (first_ready _ c.args.b within framed (c.of.ensures ∙ (tally_given counts).of bidx refl))

pub returns : goal.returns
unfolding box_of
returns c =
    let (bs, known, counts) = tally_sound c.tally.ensures (ok-before _ c.or.ensures c.in_ok-inner.was) in
    let told = c.index_list.ensures in
    let framed = subst (λ body. boxes_of c.args.file.now body ≡ given bs) c.as_container-body.ensures known in
    (rw c.as_container-body.ensures at told.0, λ within. listed_first _ (box_of c.args.b) _ _ framed _ _ _ _ (told.1 bs known))
