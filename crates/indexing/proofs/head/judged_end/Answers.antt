-- `indexing::head::judged_end` meets its contract: each test is one of the definition's.
use mathlib.Core.Path.{sym, ap, ◌∙◌}
use borrow.Author.Tests.{leb-true, leb-false}
use native.Mathlib.Omega.{arith}
use Rattle.boxes.specs.Answer.{given}
use Rattle.indexing.specs.Ends.{end_of}
use Rattle.indexing.proofs.HeadLaws.{from_size, from_enclosing, end_under, end_far, end-right, end_unjudged}
use Rattle.indexing.proofs.head.judged_end.Goals as goal

pub returns-then-size-x : goal.returns-then-size-x
returns-then-size-x c = sym (end_under _ _ _ (from_size _ _ _ c.in-Some.is) (omega arith))

pub returns-then-not-ends_by : goal.returns-then-not-ends_by
returns-then-not-ends_by c =
    sym (end_far _ _ _ (from_size _ _ _ c.in-Some.is) (leb-false _ _ (sym c.ends_by.ensures ∙ c.if-not-ends_by.true)))

pub returns-in-Some : goal.returns-in-Some
returns-in-Some c =
    sym (end-right _ _ _ (from_size _ _ _ c.in-Some.is) (omega arith) (leb-true _ _ (sym c.ends_by.ensures ∙ c.if-not-ends_by.false)))

pub returns-then-at-gt-SOURCE_LIMIT : goal.returns-then-at-gt-SOURCE_LIMIT
returns-then-at-gt-SOURCE_LIMIT c =
    let ends = from_enclosing _ _ _ c.in_default.is ∙ ap end_of c.in-Some-enclosing.is in
    sym (end_far _ _ _ ends c.if-at-gt-SOURCE_LIMIT.true)

pub returns-then-not-ends_by-2 : goal.returns-then-not-ends_by-2
returns-then-not-ends_by-2 c =
    let ends = from_enclosing _ _ _ c.in_default.is ∙ ap end_of c.in-Some-enclosing.is in
    sym (end_under _ _ _ ends (leb-false _ _ (sym c.ends_by-in-Some-enclosing.ensures ∙ c.if-not-ends_by-2.true)))

pub returns-else-not-ends_by-2 : goal.returns-else-not-ends_by-2
returns-else-not-ends_by-2 c =
    let is = ap end_of c.in-Some-enclosing.is in
    let front = leb-true _ _ (sym c.ends_by-in-Some-enclosing.ensures ∙ c.if-not-ends_by-2.false) in
    ap given is ∙ sym (end-right _ _ _ (from_enclosing _ _ _ c.in_default.is ∙ is) front c.if-at-gt-SOURCE_LIMIT.false)

pub returns-in_default-enclosing : goal.returns-in_default-enclosing
returns-in_default-enclosing c =
    let is = ap end_of c.in_default-enclosing.is in
    ap given is ∙ sym (end_unjudged _ _ _ (from_enclosing _ _ _ c.in_default.is ∙ is))
