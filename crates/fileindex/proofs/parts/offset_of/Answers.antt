-- `fileindex::parts::offset_of` meets its contract: the fields of the first `pshd`.
use mathlib.Core.Path.{◌≡◌, sym, ap, subst, ◌∙◌}
use Rattle.boxes.specs.Answer.{given}
use Rattle.boxes.specs.Bodies.{boxes_of}
use Rattle.boxes.specs.Framing.{box_of}
use Rattle.boxes.specs.Kinds.{pshd}
use Rattle.boxes.proofs.ToldLaws.{told-ok, told-err}
use Rattle.tallying.specs.Found.{found_of}
use Rattle.tallying.proofs.FoundLaws.{found_there}
use Rattle.fileindex.proofs.SegmentLaws.{header-there, offset_known, fields_sound}
use Rattle.fileindex.proofs.parts.offset_of.Goals as goal

pub returns-in_default : goal.returns-in_default
unfolding box_of
returns-in_default c s known =
    let framed = subst (λ body. boxes_of c.args.file.now body ≡ given s.inner) (sym c.as_container.ensures) known.boxes in
    absurd (header-there _ known (ap found_of (sym c.in_default.is) ∙ c.first_of.ensures s.inner framed))

pub returns-in-Ok : goal.returns-in-Ok
unfolding box_of
returns-in-Ok c s known =
    let framed = subst (λ body. boxes_of c.args.file.now body ≡ given s.inner) (sym c.as_container.ensures) known.boxes in
    let first = found_there pshd s.inner (ap found_of (sym c.in-Some.is) ∙ c.first_of.ensures s.inner framed) in
    offset_known _ known first (told-ok (λ p. p) c.fields_of.ensures c.in-Ok.is)

pub returns-in-Err : goal.returns-in-Err
unfolding box_of
returns-in-Err c s known =
    let framed = subst (λ body. boxes_of c.args.file.now body ≡ given s.inner) (sym c.as_container.ensures) known.boxes in
    let first = found_there pshd s.inner (ap found_of (sym c.in-Some.is) ∙ c.first_of.ensures s.inner framed) in
    absurd (fields_sound _ known first (told-err (λ p. p) c.fields_of.ensures c.in-Err.is))
