-- `surls::urls::both_next` meets its contract: each pair of answers decides, or leaves it to the rest.
use mathlib.Core.Path.{sym, ap, ◌∙◌}
use Rattle.std.specs.Prelude.{Ok}
use Rattle.surls.proofs.BothLaws.{urls_differ, urls_follow, first_longer, second_longer, both_spent}
use Rattle.surls.proofs.NextLaws.{surl_met, surl_none}
use Rattle.surls.proofs.UrlLaws.{urls_told}
use Rattle.surls.proofs.urls.both_next.Goals as goal

pub returns-then-eq : goal.returns-then-eq
returns-then-eq c =
    let a = surl_met _ _ _ c.next_surl.ensures (c.in-Ok-Ok.is-0 ∙ ap Ok c.in-Some-Some.is-0) in
    let b = surl_met _ _ _ c.next_surl-2.ensures (c.in-Ok-Ok.is-1 ∙ ap Ok c.in-Some-Some.is-1) in
    let told = urls_told c.requires a b c.url_of.ensures c.url_of-in-Some-Some.ensures c.bytes.ensures c.bytes-in-Some-Some.ensures c.eq.ensures in
    urls_follow a b (sym told ∙ c.if-eq.true)

pub returns-else-eq : goal.returns-else-eq
returns-else-eq c =
    let a = surl_met _ _ _ c.next_surl.ensures (c.in-Ok-Ok.is-0 ∙ ap Ok c.in-Some-Some.is-0) in
    let b = surl_met _ _ _ c.next_surl-2.ensures (c.in-Ok-Ok.is-1 ∙ ap Ok c.in-Some-Some.is-1) in
    let told = urls_told c.requires a b c.url_of.ensures c.url_of-in-Some-Some.ensures c.bytes.ensures c.bytes-in-Some-Some.ensures c.eq.ensures in
    urls_differ a b (sym told ∙ c.if-eq.false)

pub returns-in-Some-None : goal.returns-in-Some-None
returns-in-Some-None c =
    first_longer (surl_met _ _ _ c.next_surl.ensures (c.in-Ok-Ok.is-0 ∙ ap Ok c.in-Some-None.is-0)) (surl_none _ _ _ c.next_surl-2.ensures (c.in-Ok-Ok.is-1 ∙ ap Ok c.in-Some-None.is-1))

pub returns-in-None-None : goal.returns-in-None-None
returns-in-None-None c =
    both_spent (surl_none _ _ _ c.next_surl.ensures (c.in-Ok-Ok.is-0 ∙ ap Ok c.in-None-None.is-0)) (surl_none _ _ _ c.next_surl-2.ensures (c.in-Ok-Ok.is-1 ∙ ap Ok c.in-None-None.is-1))

pub returns-in-None-Some : goal.returns-in-None-Some
returns-in-None-Some c =
    second_longer (surl_none _ _ _ c.next_surl.ensures (c.in-Ok-Ok.is-0 ∙ ap Ok c.in-None-Some.is-0)) (surl_met _ _ _ c.next_surl-2.ensures (c.in-Ok-Ok.is-1 ∙ ap Ok c.in-None-Some.is-1))
