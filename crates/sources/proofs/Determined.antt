-- Each public call's contract determines its answer: two that it allows of the same arguments are equal. A table of
-- lists is determined by its entries, and what is put into one where it is as long as the table is; the source of a list
-- where the segments are known whose lists are held, and the boxes of its container.
use Prim.Native.Nat.{ℕ}
use mathlib.Core.List.{List}
use mathlib.Core.Path.{◌≡◌, sym, ap, subst, ◌∙◌}
use native.Mathlib.Decide.{ℕ_discrete}
use lib.ListN.{length}
use Rattle.boxes.specs.Framing.{Box}
use Rattle.numerals.proofs.Determined.{OneResult, OneKnown, OneLeft, OneLeftKnown}
use Rattle.partial.specs.Heading.{Heading}
use Rattle.partial.specs.ReadingDemands.{Numbered}
use Rattle.partial.specs.Segments.{Segment}
use Rattle.partial.specs.Sources.{source_count}
use Rattle.boxes.specs.declared.body.Body.{Body}
use Rattle.sources.specs.Held.{Stands, ListsHeld, SourceOf, Joins}
use Rattle.sources.specs.Lists.{all_lists, list_in, ListPut}
use Rattle.sources.specs.Numbers.{source_put}
use Rattle.sources.proofs.ListLaws.{list_put_one}
use Rattle.sources.proofs.find.source_of.Reads as source_of
use Rattle.sources.proofs.join.join.Reads as join
use Rattle.sources.proofs.lists.clear_lists.Reads as clear-lists
use Rattle.sources.proofs.lists.list_at.Reads as list_at
use Rattle.sources.proofs.lists.put_list.Reads as put-list
use Rattle.sources.proofs.numbers.clear_sources.Reads as clear-sources
use Rattle.sources.proofs.numbers.put_source.Reads as put-source
use Rattle.sources.proofs.numbers.source_at.Reads as source-at

source_at_result : OneResult source-at.Post
source_at_result κs args x y after after' p q = p ∙ sym q

put_source_table : OneLeft put-source.Post (λ κs after. after.0.now)
put_source_table κs args x y after after' p q = p ∙ sym q

clear_sources-table : OneLeft clear-sources.Post (λ κs after. after.0.now)
clear_sources-table κs args x y after after' p q = p ∙ sym q

list_at_result : OneResult list_at.Post
list_at_result κs args x y after after' p q = p ∙ sym q

put_list_entries : OneLeftKnown put-list.Post (λ κs args (_ : Unit {0}). length args.0.now ≡ all_lists) (λ κs after. list_in after.0.now)
put_list_entries κs args known long x y after after' p q = λ i k. list_put_one long p q k i

clear_lists_entries : OneLeft clear-lists.Post (λ κs after. list_in after.0.now)
clear_lists_entries κs args x y after after' p q = λ i k. (p.none k ∙ sym (q.none k)) i

-- segments of so many sources, whose lists a table holds, and the boxes of a container
abbrev Known : List ℕ → List ℕ → ℕ → Body → Heading × List Segment × List Box → Type 0
Known f lists many list (h, ss, bs) = (many ≡ source_count ss) × Numbered ss × ListsHeld f h lists ss × Stands f list bs

one-source : {f lists : List ℕ} {many : ℕ} {list : Body} (known : Heading × List Segment × List Box) → Known f lists many list known → {x y : ℕ} → SourceOf f lists many list x → SourceOf f lists many list y → x ≡ y
one-source (h, ss, bs) (count, numbered, held, stands) p q = p h ss bs count numbered held stands ∙ sym (q h ss bs count numbered held stands)

source_of-result : OneKnown source_of.Post (λ κs args. Known args.0.now args.1.0.now args.1.1.0 args.1.1.1.0)
source_of-result κs args known is x y after after' p q = one-source known is p q

join_result : OneKnown join.Post (λ κs args. Known args.0.now args.1.1.1.1.1.0.now args.1.1.1.0 args.1.0)
join_result κs args known is x y after after' p q = one-source known is p.found q.found

join_sources : OneLeftKnown join.Post (λ κs args. Known args.0.now args.1.1.1.1.1.0.now args.1.1.1.0 args.1.0) (λ κs after. after.1.1.1.1.0.now)
join_sources κs args known is x y after after' p q = p.numbers ∙ ap (source_put _ _) (one-source known is p.found q.found) ∙ sym q.numbers

-- two tables of lists after the same segment was put to its source have the same entries
one_lists : {f : List ℕ} {list : Body} {segment many : ℕ} {t u t' u' t'' u'' : List ℕ} {r r' : ℕ} → length u ≡ all_lists → r ≡ r'
    → Joins f list segment many t u r t' u'
    → Joins f list segment many t u r' t'' u''
    → (k : ℕ) → list_in u' k ≡ list_in u'' k
one_lists {list = list} {many = many} {u = u} {u'' = u''} {r = r} long same p q k =
    elim (ℕ_discrete r many) [
      | yes new ↦ list_put_one long (p.new new) (subst (λ (n : ℕ). ListPut u n list u'') (sym same) (q.new (sym same ∙ new))) k
      | no old ↦ ap (λ (l : List ℕ). list_in l k) (p.old old ∙ sym (q.old (λ new. old (same ∙ new))))
    ]

join_lists : OneLeftKnown join.Post (λ κs args. Known args.0.now args.1.1.1.1.1.0.now args.1.1.1.0 args.1.0) (λ κs after. list_in after.1.1.1.1.1.0.now)
join_lists κs args (h, ss, bs) is x y after after' p q = λ i k. one_lists is.2.long (one-source (h, ss, bs) is p.found q.found) p q k i
