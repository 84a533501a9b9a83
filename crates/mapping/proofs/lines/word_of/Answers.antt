-- `mapping::lines::word_of` meets its contract.
use mathlib.Core.Path.{refl, sym, ◌∙◌}
use Rattle.sweeping.proofs.ClassLaws.{is_had, not_had, is_held, not_held}
use Rattle.mapping.proofs.LineLaws.{have_word, miss-word, held_word, lost_word}
use Rattle.mapping.proofs.lines.word_of.Goals as goal

pub returns-then-eq : goal.returns-then-eq
returns-then-eq c = record { value = have_word _ _ (is_had _ (sym c.eq.ensures ∙ c.if-eq.true)); value_2 = refl }

pub returns-then-not-named : goal.returns-then-not-named
returns-then-not-named c = record { value = miss-word _ (not_had _ (sym c.eq.ensures ∙ c.if-eq.false)) c.if-not-named.true; value_2 = refl }

pub returns-then-eq-2 : goal.returns-then-eq-2
returns-then-eq-2 c =
    record {
      value = held_word _ (not_had _ (sym c.eq.ensures ∙ c.if-eq.false)) c.if-not-named.false (is_held _ (sym c.eq-2.ensures ∙ c.if-eq-2.true));
      value_2 = refl;
    }

pub returns : goal.returns
returns c =
    record {
      value = lost_word _ (not_had _ (sym c.eq.ensures ∙ c.if-eq.false)) c.if-not-named.false (not_held _ (sym c.eq-2.ensures ∙ c.if-eq-2.false));
      value_2 = refl;
    }
