-- `heading::pfil::pfhd_right` meets its contract: the count rule, and the form of the first.
use mathlib.Core.Bool.{true, false}
use mathlib.Core.Path.{◌≡◌, refl, sym, ap, ◌∙◌}
use Rattle.boxes.specs.Kinds.{pfhd, right}
use Rattle.boxes.specs.declared.kinds.Container.TheVariants.{Pfil}
use Rattle.partial.specs.Heading.{pfhd_right, pfhd_formed}
use Rattle.tallying.specs.Found.{found_of}
use Rattle.tallying.proofs.RuleLaws.{rule_kept}
use Rattle.tallying.proofs.FoundLaws.{found_there, found_none}
use Rattle.heading.proofs.pfil.pfhd_right.Goals as goal

pub returns-then-not-keeps : goal.returns-then-not-keeps
unfolding pfhd_right
returns-then-not-keeps c bs known tallied =
    let rule = rule_kept bs tallied Pfil pfhd refl c.of.ensures c.keeps.ensures in
    let broken : right Pfil pfhd bs ≡ false = sym rule ∙ c.if-not-keeps.true in
    sym (rw broken)

pub returns-in-Some : goal.returns-in-Some
unfolding pfhd_right
returns-in-Some c bs known tallied =
    let rule = rule_kept bs tallied Pfil pfhd refl c.of.ensures c.keeps.ensures in
    let kept : right Pfil pfhd bs ≡ true = sym rule ∙ c.if-not-keeps.false in
    let there = ap found_of (sym c.in-Some.is) ∙ c.first_of.ensures bs known in
    c.pfhd_formed.ensures ∙ ap (pfhd_formed c.args.file.now) (found_there pfhd bs there) ∙ sym (rw kept)

pub returns-in-None : goal.returns-in-None
unfolding pfhd_right pfhd_formed
returns-in-None c bs known tallied =
    let rule = rule_kept bs tallied Pfil pfhd refl c.of.ensures c.keeps.ensures in
    let kept : right Pfil pfhd bs ≡ true = sym rule ∙ c.if-not-keeps.false in
    let none = ap found_of (sym c.in-None.is) ∙ c.first_of.ensures bs known in
    sym (rw (kept, sym (found_none pfhd bs none)))
