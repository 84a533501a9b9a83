-- `salvaging::fates::fate_of` meets its contract.
use mathlib.Core.Path.{sym, ap, ◌∙◌}
use Rattle.boxes.specs.Kinds.{ftyp, pfil, pdat}
use Rattle.partial.specs.Limits.{source_limit}
use Rattle.partial.specs.Sequences.{some_of}
use Rattle.rescue.specs.Kept.{kept_of}
use Rattle.tallying.proofs.FoundLaws.{is_kind, is_other}
use Rattle.salvaging.proofs.FatesLaws.{by_number, some_lies, code_ftyp, code_pfil, code_stays, code_gone, stays_pdat, stays_plain, stays_lain}
use Rattle.salvaging.proofs.fates.fate_of.Goals as goal

pub returns-then-eq : goal.returns-then-eq
returns-then-eq c f h before mix other small same = code_ftyp f h before _ other (is_kind ftyp _ c.eq.ensures c.if-eq.true)

pub returns-then-eq-2 : goal.returns-then-eq-2
returns-then-eq-2 c f h before mix other small same = code_pfil f h before _ other (is_other ftyp _ c.eq.ensures c.if-eq.false) (is_kind pfil _ c.eq-2.ensures c.if-eq-2.true)

pub returns-then-eq-3 : goal.returns-then-eq-3
returns-then-eq-3 c f h before mix other small same =
    code_stays f h before _ other (is_other ftyp _ c.eq.ensures c.if-eq.false) (is_other pfil _ c.eq-2.ensures c.if-eq-2.false) (stays_pdat f h _ (is_kind pdat _ c.eq-3.ensures c.if-eq-3.true))

pub returns-then-not-mixed : goal.returns-then-not-mixed
returns-then-not-mixed c f h before mix other small same =
    code_gone f h before _ other (is_other ftyp _ c.eq.ensures c.if-eq.false) (is_other pfil _ c.eq-2.ensures c.if-eq-2.false)
    (stays_plain f h _ (is_other pdat _ c.eq-3.ensures c.if-eq-3.false) (sym mix ∙ c.if-not-mixed.true))

pub returns-then-lain_in : goal.returns-then-lain_in
returns-then-lain_in c f h before mix other small same =
    code_stays f h before _ other (is_other ftyp _ c.eq.ensures c.if-eq.false) (is_other pfil _ c.eq-2.ensures c.if-eq-2.false)
    (stays_lain f h _ (is_other pdat _ c.eq-3.ensures c.if-eq-3.false) (sym mix ∙ c.if-not-mixed.false) ∙ (sym (some_lies _ (kept_of source_limit f h) small) ∙ ap (some_of (by_number _)) (sym same) ∙ sym c.lain_in.ensures ∙ c.if-lain_in.true))

pub returns-else-lain_in : goal.returns-else-lain_in
returns-else-lain_in c f h before mix other small same =
    code_gone f h before _ other (is_other ftyp _ c.eq.ensures c.if-eq.false) (is_other pfil _ c.eq-2.ensures c.if-eq-2.false)
    (stays_lain f h _ (is_other pdat _ c.eq-3.ensures c.if-eq-3.false) (sym mix ∙ c.if-not-mixed.false) ∙ (sym (some_lies _ (kept_of source_limit f h) small) ∙ ap (some_of (by_number _)) (sym same) ∙ sym c.lain_in.ensures ∙ c.if-lain_in.false))
