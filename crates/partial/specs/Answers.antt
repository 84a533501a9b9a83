-- Document 01, "For every answer that is an enum, a definition gives this paper's number and values for each case of
-- the enum".
use Rattle.std.specs.Prelude.{ℕ, Result}
use Rattle.refusals.specs.declared.Refusal.{Refusal}
use Rattle.boxes.specs.Answer.{Answer, told_as}
use Rattle.partial.specs.declared.answers.Tables.{Tables}
use Rattle.partial.specs.declared.answers.Asked.{Asked}
use Rattle.partial.specs.declared.answers.Asked.TheVariants.{Served, Missing, NotBelow}
use Rattle.partial.specs.declared.answers.Lists.{Lists}
use Rattle.partial.specs.Meaning.{Reply, served_for, missing_for, not_below}
use Rattle.partial.specs.Tables.{Summary, Totals}

-- reading: how many rows each table has, how many sources there are, the described length of one, whether its size is
-- known
abbrev pub summary_of : Tables → Summary
summary_of t =
    record { segments = t.segments; chunks = t.chunks; sources = t.sources; described = t.described.0; closed = t.closed }

abbrev pub read_answer : Result Tables Refusal → Answer Summary
read_answer = told_as summary_of

-- asking: served or missing, for how many positions, or not below the described length
abbrev pub reply_of : Asked → Reply
reply_of (Served n) = served_for n
reply_of (Missing n) = missing_for n
reply_of NotBelow = not_below

abbrev pub asked_answer : Result Asked Refusal → Answer Reply
asked_answer = told_as reply_of

-- listing: how many ranges each list has, and the totals
abbrev pub totals_of : Lists → Totals
totals_of t =
    record { had_ranges = t.had; missing_ranges = t.missing; received_total = t.received_total; missing_total = t.missing_total }

abbrev pub listed_answer : Result Lists Refusal → Answer Totals
listed_answer = told_as totals_of

-- a number: how many rows an index has, how long the file is that begin and append wrote
abbrev pub number_answer : Result ℕ Refusal → Answer ℕ
number_answer = told_as (λ n. n)
