-- `surls::texts::mime_of` meets its contract: the text after the URL and its zero byte.
use Prim.Native.Nat.{ℕ, ◌+◌}
use mathlib.Core.Path.{◌≡◌, sym, ap, ◌∙◌}
use native.Mathlib.Omega.{arith}
use Rattle.partial.specs.Heading.{text}
use Rattle.surls.proofs.FormLaws.{url_ends, mime-text}
use Rattle.surls.proofs.texts.mime_of.Goals as goal

pub returns : goal.returns
returns c within =
    let f = c.args.file.now in
    let b = c.args.b in
    let u = c.url_of-url.result in
    let same = c.url_of-url.ensures within in
    let ended = url_ends f b within.whole in
    let from : c.saturating_add.result ≡ u.place.0 + u.size + 1 =
    omega (arith, ap (λ p. p.place) same, ap (λ p. p.size) same) in
    c.text_at.ensures ∙ ap (λ (n : ℕ). text f n b.end.0) from ∙ sym (mime-text f b ∙ rw (← same))
