-- `surls::texts::url_of` meets its contract: the text after the version and the flags.
use Prim.Native.Nat.{ℕ, ◌+◌}
use mathlib.Core.Path.{◌≡◌, sym, ap, ◌∙◌}
use native.Mathlib.Omega.{arith}
use Rattle.partial.specs.Heading.{text}
use Rattle.surls.proofs.FormLaws.{url-text}
use Rattle.surls.proofs.texts.url_of.Goals as goal

pub returns : goal.returns
returns c within =
    let from : c.saturating_add.result ≡ c.args.b.body.0 + 4 = omega arith in
    c.text_at.ensures ∙ ap (λ (n : ℕ). text c.args.file.now n c.args.b.end.0) from ∙ sym (url-text _ _)
