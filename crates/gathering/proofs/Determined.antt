-- Each public call's contract determines its answer: two that it allows of the same arguments are equal. The pass over
-- a file is determined where the file's heading is known, what it leaves in a table where all of it fits, what the ends
-- say, the sources and the boxes where their lists stand where there are segments; so are the rows that are made of what
-- is kept of a file. Salvage's pass is determined where the file's heading is known, with the numbers of the chunks that are
-- kept and the fate of each `pseg`.
use Prim.Native.Nat.{ℕ, ◌<◌, ◌≤◌}
use mathlib.Core.Bool.{Bool, true}
use mathlib.Core.List.{List}
use mathlib.Core.Path.{◌≡◌, sym, ap, ◌∙◌}
use native.Mathlib.Omega.{arith}
use lib.ListN.{length, take, get_or}
use Rattle.boxes.specs.Answer.{Answer, given}
use Rattle.boxes.specs.Framing.{Box, boxes_in}
use Rattle.boxes.specs.Kinds.{pseg, is, box_at}
use Rattle.boxes.proofs.AnswerLaws.{not_both, refused_same, given_same}
use Rattle.numerals.proofs.Determined.{OneResult, OneKnown, OneLeft, OneLeftKnown}
use Rattle.partial.specs.Heading.{Heading}
use Rattle.partial.specs.Limits.{source_limit}
use Rattle.partial.specs.Segments.{Segment, chunks_of}
use Rattle.partial.specs.Sources.{source_count}
use Rattle.partial.specs.Tables.{segment_rows, chunk_rows}
use Rattle.rescue.specs.Kept.{kept_of}
use Rattle.rescue.specs.declared.table.Fate.TheVariants.{Stays}
use Rattle.rescue.proofs.TableLaws.{fate_told}
use Rattle.boxes.specs.declared.body.Body.{Body}
use Rattle.partial.specs.Texts.{list_boxes}
use Rattle.sources.specs.Held.{ListHeld}
use Rattle.sources.specs.Lists.{list_in}
use Rattle.ends.specs.Table.{sizes_in}
use Rattle.segment.proofs.ChunkLaws.{chunk_told}
use Rattle.filling.specs.Rows.{Put}
use Rattle.gathering.specs.Forms.{all_puts}
use Rattle.gathering.specs.Gathered.{gathered_of}
use Rattle.gathering.specs.Keeping.{Boxed}
use Rattle.gathering.specs.Kept.{Kept}
use Rattle.gathering.specs.Noted.{Blank}
use Rattle.gathering.specs.Pass.{segments_by, Opened, Gathers}
use Rattle.std.specs.Prelude.{Result, Ok, Err}
use Rattle.refusals.specs.declared.Refusal.{Refusal}
use Rattle.refusals.proofs.NumberLaws.{refusal_told}
use Rattle.gathering.specs.declared.gathered.Gathered.{Gathered}
use Rattle.gathering.specs.declared.tables.SourceTables.{SourceTables}
use Rattle.gathering.proofs.PassLaws.{rows_put}
use Rattle.gathering.proofs.keeping.keep_pass.Reads as keep-pass
use Rattle.gathering.proofs.kept.fill_rows.Reads as fill-rows
use Rattle.gathering.proofs.numbers.chunk_by.Reads as chunk-by
use Rattle.gathering.proofs.pass.pass.Reads as pass
use Rattle.gathering.proofs.tables.SourceTables.clear.Reads as clear
use Rattle.gathering.proofs.tables.SourceTables.new.Reads as new

-- where something is known, a contract allows one value of what is read by it of that which the call leaves behind
module _ {L : Type 0} {A R E : L → Type 0} (post : (κs : L) → A κs → R κs → E κs → Type 0) where
  abbrev pub OneRead : {X Y : Type 0} → ((κs : L) → A κs → X → Type 0) → ((κs : L) → A κs → E κs → X → Y) → Type 0
  OneRead {X} known of =
      (κs : L) (args : A κs) (what : X) → known κs args what → (x y : R κs) (after after' : E κs)
      → post κs args x after
      → post κs args y after'
      → of κs args after what ≡ of κs args after' what

-- a contract allows one value of what is read in the result
module _ {L : Type 0} {A R E : L → Type 0} (post : (κs : L) → A κs → R κs → E κs → Type 0) where
  abbrev OneOf : {X : Type 0} → ((κs : L) → R κs → X) → Type 0
  OneOf of =
      (κs : L) (args : A κs) (x y : R κs) (after after' : E κs) → post κs args x after → post κs args y after' → of κs x ≡ of κs y

-- the tables of no segment are those that say nothing
one_sizes : {t u : SourceTables} → Blank t → Blank u → sizes_in t.sizes ≡ sizes_in u.sizes
one_sizes p q = λ i k. (p.sizes.none k ∙ sym (q.sizes.none k)) i

one_lists : {t u : SourceTables} → Blank t → Blank u → list_in t.lists ≡ list_in u.lists
one_lists p q = λ i k. (p.lists.none k ∙ sym (q.lists.none k)) i

new_sizes : OneOf new.Post (λ κs r. sizes_in r.sizes)
new_sizes κs args x y after after' p q = one_sizes p.0 q.0

new_sources : OneOf new.Post (λ κs r. r.sources)
new_sources κs args x y after after' p q = p.0.sources ∙ sym q.0.sources

new_lists : OneOf new.Post (λ κs r. list_in r.lists)
new_lists κs args x y after after' p q = one_lists p.0 q.0

clear_sizes : OneLeft clear.Post (λ κs after. sizes_in after.0.now.sizes)
clear_sizes κs args x y after after' p q = one_sizes p.0 q.0

clear_sources : OneLeft clear.Post (λ κs after. after.0.now.sources)
clear_sources κs args x y after after' p q = p.0.sources ∙ sym q.0.sources

clear_lists : OneLeft clear.Post (λ κs after. list_in after.0.now.lists)
clear_lists κs args x y after after' p q = one_lists p.0 q.0

-- of the segments of a file with that heading these are the rows, for which a table has room
abbrev Fits : (List Segment → List ℕ) → List ℕ → Bool → Body → List ℕ → Heading × List Segment → Type 0
Fits rows f mixed list table (h, ss) = Opened f mixed list h × (segments_by f h ≡ given ss) × (length (rows ss) ≤ length table)

module _ (f : List ℕ) (h : Heading) (numbered : Bool) (t₀ t t' u₀ u u' : List ℕ) (n n' : SourceTables) where
  one_passed : (x y : Result Gathered Refusal) → Gathers f h numbered t₀ t u₀ u n x → Gathers f h numbered t₀ t' u₀ u' n' y → x ≡ y
  unfolding Gathers
  one_passed (Err n) (Err m) p q = ap Err (refusal_told n m (refused_same (sym p ∙ q)))
  one_passed (Err n) (Ok g) p (ss, read, _, _, _, _) = absurd (not_both (sym p ∙ read))
  one_passed (Ok g) (Err m) (ss, read, _, _, _, _) q = absurd (not_both (sym q ∙ read))
  one_passed (Ok g) (Ok g') (ss, read, of, _, _, _) (ss', read', of', _, _, _) = ap Ok (of ∙ ap gathered_of (given_same (sym read ∙ read')) ∙ sym of')

pub one_put : {before rows t t' : List ℕ} → length rows ≤ length before → Put before 0 rows t → Put before 0 rows t' → t ≡ t'
one_put room p q = p.held (omega arith) ∙ sym (q.held (omega arith))

pass_result : OneKnown pass.Post (λ κs args (h : Heading). Opened args.0.now args.1.0 args.1.1.0 h)
pass_result κs args h opened x y after after' p q = one_passed _ h _ _ _ _ _ _ _ _ _ x y (p h opened) (q h opened)

pass_segments : OneLeftKnown pass.Post (λ κs args. Fits segment_rows args.0.now args.1.0 args.1.1.0 args.1.1.1.1.0.now) (λ κs after. after.1.1.1.1.0.now)
pass_segments κs args (h, ss) (opened, read, room) x y after after' p q =
    one_put room (rows_put _ h _ _ x (p h opened) read).0 (rows_put _ h _ _ y (q h opened) read).0

pass_chunks : OneLeftKnown pass.Post (λ κs args. Fits (all_puts args.1.1.1.0) args.0.now args.1.0 args.1.1.0 args.1.1.1.1.1.0.now) (λ κs after. after.1.1.1.1.1.0.now)
pass_chunks κs args (h, ss) (opened, read, room) x y after after' p q =
    one_put room (rows_put _ h _ _ x (p h opened) read).1 (rows_put _ h _ _ y (q h opened) read).1

-- the segments of a file with that heading
abbrev Read : List ℕ → Bool → Body → Heading × List Segment → Type 0
Read f mixed list (h, ss) = Opened f mixed list h × (segments_by f h ≡ given ss)

pass_sizes : OneLeftKnown pass.Post (λ κs args. Read args.0.now args.1.0 args.1.1.0) (λ κs after. sizes_in after.1.1.1.1.1.1.0.now.sizes)
pass_sizes κs args (h, ss) (opened, read) x y after after' p q = λ i n.
    ((rows_put _ h _ _ x (p h opened) read).2.sizes.said n ∙ sym ((rows_put _ h _ _ y (q h opened) read).2.sizes.said n)) i

pass_sources : OneRead pass.Post (λ κs args. Read args.0.now args.1.0 args.1.1.0) (λ κs args after (h, ss). take (length ss) after.1.1.1.1.1.1.0.now.sources)
pass_sources κs args (h, ss) (opened, read) x y after after' p q =
    (rows_put _ h _ _ x (p h opened) read).2.sourced.sources.numbers ∙ sym (rows_put _ h _ _ y (q h opened) read).2.sourced.sources.numbers

-- the boxes where the list of a source stands
abbrev pub boxes_at : List ℕ → Body → Answer (List Box)
boxes_at f list = boxes_in list.container f list.start.0 list.end.0

pub one_list : {f : List ℕ} {h : Heading} {ss : List Segment} {n : ℕ} {list list' : Body} → ListHeld f h ss n list → ListHeld f h ss n list' → boxes_at f list ≡ boxes_at f list'
one_list {h = h} p q =
    let same : p.first ≡ q.first = cc (p.leads, q.leads) in
    p.stands.boxes ∙ ap (λ (s : Segment). given (list_boxes h s)) same ∙ sym q.stands.boxes

pass_lists : OneRead pass.Post
    (λ κs args (known : (Heading × List Segment) × ℕ). Read args.0.now args.1.0 args.1.1.0 known.0 × (known.1 < source_count known.0.1))
    (λ κs args after (known, n). boxes_at args.0.now (list_in after.1.1.1.1.1.1.0.now.lists n))
pass_lists κs args ((h, ss), n) ((opened, read), low) x y after after' p q =
    one_list ((rows_put _ h _ _ x (p h opened) read).2.sourced.lists.each n low) ((rows_put _ h _ _ y (q h opened) read).2.sourced.lists.each n low)

chunk_by_result : OneResult chunk-by.Post
chunk_by_result κs args x y after after' p q = chunk_told x y (p ∙ sym q)

fill_rows_chunks : OneLeftKnown fill-rows.Post
    (λ κs args ((sources, ss) : List ℕ × List Segment). Kept args.0.now args.1.0 sources args.1.1.0.now ss × (length (chunk_rows ss) ≤ length args.1.1.1.0.now))
    (λ κs after. after.1.1.1.0.now)
fill_rows_chunks κs args (sources, ss) (kept, room) x y after after' p q = one_put room (p sources ss kept) (q sources ss kept)

keep_pass_result : OneKnown keep-pass.Post (λ κs args. Boxed args.0.now args.1.0 args.1.1.0)
keep_pass_result κs args h boxed x y after after' p q = (p h boxed).gathered ∙ sym (q h boxed).gathered

keep_pass_numbers : OneRead keep-pass.Post (λ κs args. Boxed args.0.now args.1.0 args.1.1.0)
    (λ κs args after h. take (length (chunks_of (kept_of source_limit args.0.now h))) after.1.1.1.1.0.now)
keep_pass_numbers κs args h boxed x y after after' p q = (p h boxed).numbers ∙ sym (q h boxed).numbers

keep_pass_fates : OneRead keep-pass.Post
    (λ κs args ((h, k) : Heading × ℕ). Boxed args.0.now args.1.0 args.1.1.0 h × (k < length h.boxes) × (is pseg (box_at k h.boxes) ≡ true))
    (λ κs args after (h, k). get_or after.1.1.1.0.now k Stays)
keep_pass_fates κs args (h, k) (boxed, there, kind) x y after after' p q = fate_told _ _ ((p h boxed).psegs k there kind ∙ sym ((q h boxed).psegs k there kind))
