-- `surls::first::first_text` meets its contract: the first box that is found is a `surl`, or there is none.
use mathlib.Core.Path.{sym, ap, ◌∙◌}
use Rattle.boxes.specs.Kinds.{surl}
use Rattle.partial.specs.Tables.{nowhere}
use Rattle.tallying.specs.Found.{found_of}
use Rattle.tallying.proofs.FoundLaws.{found_there}
use Rattle.surls.specs.First.{text_in}
use Rattle.surls.proofs.FirstLaws.{first_found, first_none}
use Rattle.surls.proofs.WithinLaws.{further_within, first_within}
use Rattle.surls.proofs.first.first_text.Goals as goal

pub returns-in-None-default : goal.returns-in-None-default
unfolding nowhere
returns-in-None-default c bs known inside =
    sym (first_none _ _ bs (ap found_of (sym c.in-None-default.is-0) ∙ c.first_of.ensures bs known))

pub returns-in-Some-Url : goal.returns-in-Some-Url
unfolding text_in
returns-in-Some-Url c bs known inside =
    let there = ap found_of (sym c.in-Some-Url.is-0) ∙ c.first_of.ensures bs known in
    let within = further_within inside (first_within _ _ _ _ known _ surl (found_there surl bs there)) in
    c.url_of.ensures within ∙ rw c.in-Some-Url.is-1 (sym (first_found _ _ bs there))

pub returns-in-Some-Mime : goal.returns-in-Some-Mime
unfolding text_in
returns-in-Some-Mime c bs known inside =
    let there = ap found_of (sym c.in-Some-Mime.is-0) ∙ c.first_of.ensures bs known in
    let within = further_within inside (first_within _ _ _ _ known _ surl (found_there surl bs there)) in
    c.mime_of.ensures within ∙ rw c.in-Some-Mime.is-1 (sym (first_found _ _ bs there))
