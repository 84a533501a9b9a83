-- `indexing::index::index_in` meets its contract: the count rule, then none, or the list of the first.
use mathlib.Core.Path.{refl, sym, ap, subst, ◌∙◌}
use native.Mathlib.Omega.{arith}
use Rattle.boxes.specs.Kinds.{fidx}
use Rattle.tallying.specs.Found.{found_of}
use Rattle.tallying.proofs.RuleLaws.{rule_kept, tally_given}
use Rattle.indexing.specs.Index.{Indexes, CountedIn}
use Rattle.indexing.specs.Lists.{Counted, Listed}
use Rattle.indexing.proofs.IndexLaws.{known_tally, known_sound, a_found, no_found, index_second, indexes_none, indexes_wrong, indexes-told, first_bounded, handed_index}
use Rattle.indexing.proofs.index.index_in.Goals as goal

pub returns-then-not-keeps : goal.returns-then-not-keeps
unfolding Indexes CountedIn
returns-then-not-keeps c bs contained =
    let counts = known_tally c.tally.ensures c.in-Ok.is contained.framed in
    let rule = rule_kept bs counts _ fidx refl c.of.ensures c.keeps.ensures in
    (index_second _ _ bs _ _ (sym rule ∙ c.if-not-keeps.true), tt)

pub returns-in_default : goal.returns-in_default
returns-in_default c bs contained = absurd (known_sound c.tally.ensures c.in_default.is contained.framed)

pub returns-then-of-eq0 : goal.returns-then-of-eq0
unfolding CountedIn
returns-then-of-eq0 c bs contained =
    let counts = known_tally c.tally.ensures c.in-Ok.is contained.framed in
    let rule = rule_kept bs counts _ fidx refl c.of.ensures c.keeps.ensures in
    let many = c.of-2.ensures ∙ (tally_given counts).of fidx refl in
    (indexes_none _ _ bs _ _ (sym rule ∙ c.if-not-keeps.false) _ _ (sym many ∙ c.if-of-eq0.true), omega (arith, contained.rows, contained.ordered))

pub returns-in_default-first_of : goal.returns-in_default-first_of
unfolding CountedIn
returns-in_default-first_of c bs contained =
    let counts = known_tally c.tally.ensures c.in-Ok.is contained.framed in
    let rule = rule_kept bs counts _ fidx refl c.of.ensures c.keeps.ensures in
    let none-there = no_found bs (ap found_of (sym c.in_default-first_of.is) ∙ c.first_of.ensures bs contained.framed) in
    (indexes_none _ _ bs _ _ (sym rule ∙ c.if-not-keeps.false) _ _ none-there, omega (arith, contained.rows, contained.ordered))

pub returns-in_err-marks : goal.returns-in_err-marks
unfolding Listed
returns-in_err-marks c bs contained =
    let counts = known_tally c.tally.ensures c.in-Ok.is contained.framed in
    let rule = rule_kept bs counts _ fidx refl c.of.ensures c.keeps.ensures in
    let (there, first) = a_found bs (ap found_of (sym c.in-Some.is) ∙ c.first_of.ensures bs contained.framed) in
    let (within, inside) = first_bounded _ contained there first in
    let fault = subst (Listed _ _ _ _) c.in_err-marks.was (c.list_of.ensures.1 within) in
    handed_index _ _ bs _ _ _ _ _ _ _ _ c.from_residual.ensures.1 (indexes_wrong _ _ bs _ _ (sym rule ∙ c.if-not-keeps.false) there first fault)

pub returns : goal.returns
unfolding CountedIn Counted Listed
returns c bs contained =
    let counts = known_tally c.tally.ensures c.in-Ok.is contained.framed in
    let rule = rule_kept bs counts _ fidx refl c.of.ensures c.keeps.ensures in
    let (there, first) = a_found bs (ap found_of (sym c.in-Some.is) ∙ c.first_of.ensures bs contained.framed) in
    let (within, inside) = first_bounded _ contained there first in
    let (told, read, ends, marked) = subst (Listed _ _ _ _) c.in_ok-marks.was (c.list_of.ensures.1 within) in
    let rows = subst (Counted _) c.in_ok-marks.was c.list_of.ensures.0 in
    (indexes-told _ _ bs _ _ (sym rule ∙ c.if-not-keeps.false) there first read marked, omega arith)
