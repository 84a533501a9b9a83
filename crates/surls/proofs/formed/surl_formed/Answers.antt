-- `surls::formed::surl_formed` meets its contract: each test is one of the definition's.
use mathlib.Core.Path.{sym, ◌∙◌}
use native.Mathlib.Omega.{arith}
use borrow.Author.Tests.{le-leb, lt-leb, eq-eqb, ne_eqb}
use Rattle.surls.proofs.FormLaws.{surl_tests, mime_part_ends}
use Rattle.surls.proofs.formed.surl_formed.Goals as goal

pub returns-then-b-body : goal.returns-then-b-body
returns-then-b-body c = sym (surl_tests _ _ ∙ simp (lt-leb _ _ c.if-b-body.true))

pub returns-then-unsigned-ne0 : goal.returns-then-unsigned-ne0
returns-then-unsigned-ne0 c =
    sym (surl_tests _ _ ∙ simp (le-leb _ _ c.if-b-body.false, ← c.unsigned.ensures, ne_eqb _ _ c.if-unsigned-ne0.true))

pub overflow_add-result : goal.overflow_add-result
overflow_add-result c = omega (arith, mime_part_ends _ _ _ c.requires.whole (c.mime_of-mime.ensures c.requires))

pub overflow_add-result-2 : goal.overflow_add-result-2
overflow_add-result-2 c = omega (arith, mime_part_ends _ _ _ c.requires.whole (c.mime_of-mime.ensures c.requires))

pub returns : goal.returns
returns c =
    let mime = c.mime_of-mime.ensures c.requires in
    sym (surl_tests _ _ ∙ simp (le-leb _ _ c.if-b-body.false, ← c.unsigned.ensures, eq-eqb _ _ c.if-unsigned-ne0.false, ← mime))
