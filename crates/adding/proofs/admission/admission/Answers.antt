-- `adding::admission::admission` meets its contract: 1 and 6 in their order, and then whether the segment is admitted.
use Prim.Native.Nat.{ℕ, ◌+◌}
use mathlib.Core.Path.{sym, ap, ◌∙◌}
use lib.ListN.{length}
use Rattle.boxes.specs.Answer.{given, ◌>>=◌}
use Rattle.boxes.proofs.ToldLaws.{handed_on}
use Rattle.additions.specs.Append.{added}
use Rattle.adding.specs.Admission.{admitted_answer}
use Rattle.adding.proofs.AdmissionLaws.{file_test, size_whole, box_test, inner_test, passes_6}
use Rattle.adding.proofs.AdmissionLaws.{admission_1, admission_6, admission_6_inner, admission_told}
use Rattle.adding.proofs.admission.admission.Goals as goal

pub returns-then-not-ends_by : goal.returns-then-not-ends_by
returns-then-not-ends_by c =
    λ right h ss a beside goes asked.
    let n = c.args.onto.length in
    admission_1 _ h ss n a (file_test n beside asked (sym c.if-not-ends_by.true ∙ c.ends_by.ensures))

pub returns-then-not-ends_by-2 : goal.returns-then-not-ends_by-2
returns-then-not-ends_by-2 c =
    λ right h ss a beside goes asked.
    let n = c.args.onto.length in
    let small = file_test n beside asked (sym c.if-not-ends_by.false ∙ c.ends_by.ensures) in
    admission_6 _ h ss n a small (box_test n beside asked (c.added_boxes.ensures right a asked.sorted asked.whole) (sym c.if-not-ends_by-2.true ∙ c.ends_by-2.ensures))

pub returns-then-not-ends_by-3 : goal.returns-then-not-ends_by-3
returns-then-not-ends_by-3 c =
    λ right h ss a beside goes asked.
    let n = c.args.onto.length in
    let small = file_test n beside asked (sym c.if-not-ends_by.false ∙ c.ends_by.ensures) in
    let boxes = box_test n beside asked (c.added_boxes.ensures right a asked.sorted asked.whole) (sym c.if-not-ends_by-2.false ∙ c.ends_by-2.ensures) in
    admission_6_inner _ h ss n a small boxes (inner_test n beside asked (sym c.if-not-ends_by-3.true ∙ c.ends_by-3.ensures))

pub returns-in_err-admitted : goal.returns-in_err-admitted
returns-in_err-admitted c =
    λ right h ss a beside goes asked.
    let n = c.args.onto.length in
    let passes = passes_6 n beside asked (sym c.if-not-ends_by.false ∙ c.ends_by.ensures) (c.added_boxes.ensures right a asked.sorted asked.whole) (sym c.if-not-ends_by-2.false ∙ c.ends_by-2.ensures) (sym c.if-not-ends_by-3.false ∙ c.ends_by-3.ensures) in
    handed_on (λ m. m) _ _ c.from_residual.ensures.1
    ∙ ap (λ r. admitted_answer r >>= λ _. given (n + length (added a))) (sym c.in_err-admitted.was)
    ∙ admission_told n beside asked passes goes (c.admitted.ensures right)

pub returns : goal.returns
returns c =
    λ right h ss a beside goes asked.
    let n = c.args.onto.length in
    let passes = passes_6 n beside asked (sym c.if-not-ends_by.false ∙ c.ends_by.ensures) (c.added_boxes.ensures right a asked.sorted asked.whole) (sym c.if-not-ends_by-2.false ∙ c.ends_by-2.ensures) (sym c.if-not-ends_by-3.false ∙ c.ends_by-3.ensures) in
    ap (λ (m : ℕ). given (n + m)) (size_whole n beside asked passes.small)
    ∙ ap (λ r. admitted_answer r >>= λ _. given (n + length (added a))) (sym c.in_ok-admitted.was)
    ∙ admission_told n beside asked passes goes (c.admitted.ensures right)
