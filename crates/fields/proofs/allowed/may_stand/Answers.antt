-- `fields::allowed::may_stand` meets its contract: each test is one of the definition's.
use Rattle.std.proofs.Common.{sym}
use Rattle.fields.proofs.AllowedLaws.{allowed_tests}
use Rattle.fields.proofs.allowed.may_stand.Goals as goal
use Rattle.fields.proofs.allowed.may_stand.Goals.{then-eq-via-then-eq, then-eq-via-else-eq+then-eq-2, then-eq-via-else-eq+else-eq-2+then-eq-3}

pub returns-then-eq : goal.returns-then-eq
returns-then-eq c =
    elim c.then-eq.branch [
      | then-eq-via-then-eq w ↦ sym (simp (allowed_tests, ← w.if-eq.ensures))
      | then-eq-via-else-eq+then-eq-2 w ↦ sym (simp (allowed_tests, ← w.if-eq.ensures, ← w.if-eq-2.ensures))
      | then-eq-via-else-eq+else-eq-2+then-eq-3 w ↦ sym (simp (allowed_tests, ← w.if-eq.ensures, ← w.if-eq-2.ensures, ← w.if-eq-3.ensures))
    ]

pub returns : goal.returns
returns c = sym (simp (allowed_tests, ← c.if-eq.ensures, ← c.if-eq-2.ensures, ← c.if-eq-3.ensures, c.ne.ensures))
