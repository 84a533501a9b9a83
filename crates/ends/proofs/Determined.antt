-- Each public call's contract determines its answer: two that it allows of the same arguments are equal. A call on what
-- was gathered is determined where the segments are known of which it was, and a call on one segment, where that is
-- known. A table is determined by its entries, and what is put into one where it is as long as the table is.
use Prim.Native.Nat.{ℕ, ◌*◌}
use mathlib.Core.List.{List}
use mathlib.Core.Path.{◌≡◌, sym, ◌∙◌}
use lib.ListN.{length, get_or}
use Rattle.numerals.proofs.Determined.{OneResult, OneKnown, OneLeft, OneLeftKnown}
use Rattle.partial.specs.Meaning.{gives_size}
use Rattle.partial.specs.Segments.{Segment, end_of}
use Rattle.partial.specs.Sources.{source_count}
use Rattle.ends.specs.Sizes.{sizes_of}
use Rattle.ends.specs.Table.{entry_length, all_sizes, sizes_in, Holds}
use Rattle.ends.proofs.TableLaws.{put_one, put_one_first}
use Rattle.ends.proofs.sizes.Sizes.agree.Reads as agree
use Rattle.ends.proofs.sizes.Sizes.described.Reads as described
use Rattle.ends.proofs.sizes.Sizes.none.Reads as none
use Rattle.ends.proofs.sizes.Sizes.with.Reads as with
use Rattle.ends.proofs.sizes.gives_size.Reads as Gives-size
use Rattle.ends.proofs.table.all_agree.Reads as all-agree
use Rattle.ends.proofs.table.clear_sizes.Reads as clear-sizes
use Rattle.ends.proofs.table.put_sizes.Reads as put-sizes
use Rattle.ends.proofs.table.sizes_at.Reads as sizes-at

none_result : OneResult none.Post
none_result κs args x y after after' p q = p ∙ sym q

gives_size_result : OneKnown Gives-size.Post (λ κs args (s : Segment). (args.0 ≡ s.flags) × (args.1.0 ≡ length s.chunks))
gives_size_result κs args s (flags, count) x y after after' p q = p s flags count ∙ sym (q s flags count)

with_result : OneKnown with.Post (λ κs args ((ss, s) : List Segment × Segment). (args.0 ≡ sizes_of ss) × (args.1.0.0 ≡ end_of s) × (args.1.1.0 ≡ gives_size s))
with_result κs args (ss, s) (known, ends, gives) x y after after' p q = p ss s known ends gives ∙ sym (q ss s known ends gives)

agree-result : OneKnown agree.Post (λ κs args (ss : List Segment). args.0 ≡ sizes_of ss)
agree-result κs args ss known x y after after' p q = p ss known ∙ sym (q ss known)

described_result : OneKnown described.Post (λ κs args (ss : List Segment). args.0 ≡ sizes_of ss)
described_result κs args ss known x y after after' p q =
    let same = p ss known ∙ sym (q ss known) in
    λ i. record { 0 = same i }

sizes_at_result : OneResult sizes-at.Post
sizes_at_result κs args x y after after' p q = p ∙ sym q

put_sizes_entries : OneLeftKnown put-sizes.Post (λ κs args (_ : Unit {0}). length args.0.now ≡ all_sizes) (λ κs after. sizes_in after.0.now)
put_sizes_entries κs args known long x y after after' p q = λ i k. put_one long p q k i

put_sizes_first : OneLeftKnown put-sizes.Post {Y = ℕ → ℕ} (λ κs args (_ : Unit {0}). length args.0.now ≡ all_sizes) (λ κs after (k : ℕ). get_or after.0.now (entry_length * k) 0)
put_sizes_first κs args known long x y after after' p q = λ i k. put_one_first long p q k i

clear_sizes_numbers : OneLeft clear-sizes.Post {X = ℕ → ℕ} (λ κs after (i : ℕ). get_or after.0.now i 0)
clear_sizes_numbers κs args x y after after' p q = λ i n. (p.zeros n ∙ sym (q.zeros n)) i

clear_sizes_entries : OneLeft clear-sizes.Post (λ κs after. sizes_in after.0.now)
clear_sizes_entries κs args x y after after' p q = λ i k. (p.none k ∙ sym (q.none k)) i

all_agree-result : OneKnown all-agree.Post (λ κs args (ss : List Segment). (args.1.0 ≡ source_count ss) × Holds args.0.now ss)
all_agree-result κs args ss (many, holds) x y after after' p q = p ss many holds ∙ sym (q ss many holds)
