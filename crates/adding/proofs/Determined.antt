-- Each public call's contract determines its answer: two that it allows of the same arguments are equal. The layout is
-- determined where it is known what was counted, and 35 and admission where it is known what was read of the file and
-- what is asked.
use mathlib.Core.Bool.{Bool}
use mathlib.Core.List.{List}
use mathlib.Core.Path.{◌≡◌, sym, ◌∙◌}
use Rattle.boxes.proofs.ToldLaws.{result-told}
use Rattle.partial.proofs.Determined.{number-told}
use Rattle.numerals.proofs.Determined.{OneResult, OneKnown}
use Rattle.additions.specs.Addition.{Addition, items}
use Rattle.additions.specs.Append.{new_urls}
use Rattle.partial.specs.Heading.{Heading}
use Rattle.partial.specs.Segments.{Segment}
use Rattle.outside.specs.Chunks.{outside_of}
use Rattle.adding.specs.Admission.{Beside, Goes, asked_saying, AskedBy}
use Rattle.adding.specs.Counts.{saying, Sorted}
use Rattle.adding.specs.Layout.{Laid}
use Rattle.adding.specs.Texts.{Texted}
use Rattle.adding.specs.declared.layout.Layout.{Layout}
use Rattle.adding.proofs.admission.admission.Reads as admission
use Rattle.adding.proofs.admission.outside_right.Reads as outside-right
use Rattle.adding.proofs.counts.counted.Reads as counted
use Rattle.adding.proofs.counts.counts_of.Reads as Counts-of
use Rattle.adding.proofs.layout.layout_of.Reads as layout_of
use Rattle.adding.proofs.texts.is_text.Reads as is-text
use Rattle.adding.proofs.texts.texts_of.Reads as texts-of

counts_of-result : OneResult Counts-of.Post
counts_of-result κs args x y after after' p q = p ∙ sym q

counted_result : OneResult counted.Post
counted_result κs args x y after after' p q = result-told (λ c d e. e) x y (p ∙ sym q)

-- an addition has one layout
one_layout : (a : Addition) (x y : Layout) → Laid a x → Laid a y → x ≡ y
one_layout a x y p q =
    let sizes = p.pseg.ploc.sizes ∙ sym q.pseg.ploc.sizes in
    let offsets = p.pseg.ploc.offsets ∙ sym q.pseg.ploc.offsets in
    let width = p.pseg.pshd.width ∙ sym q.pseg.pshd.width in
    let pshd = p.pseg.pshd.body ∙ sym q.pseg.pshd.body in
    let ploc = p.pseg.ploc.body ∙ sym q.pseg.ploc.body in
    let pseg = p.pseg.body ∙ sym q.pseg.body in
    let all = p.all ∙ sym q.all in
    λ k. record { length_size = sizes k; offset_size = offsets k; offset_width = width k; pshd = pshd k; ploc = ploc k; pseg = pseg k; added = all k }

layout_of-result : OneKnown layout_of.Post (λ κs args ((right, a) : Bool × Addition). Sorted a (saying right args.0) args.1.0 × Texted a args.1.1.0 × (args.1.1.1.0.0 ≡ a.source_offset))
layout_of-result κs args (right, a) (sorted, texted, at) x y after after' p q = one_layout a x y (p right a sorted texted at) (q right a sorted texted at)

outside_right-result : OneKnown outside-right.Post (λ κs args ((h, a) : Heading × Addition). (args.0 ≡ h.mixed) × (args.1.0 ≡ outside_of a.outside (items a.list) a.bytes))
outside_right-result κs args (h, a) (mixed, sorted) x y after after' p q = p h a mixed sorted ∙ sym (q h a mixed sorted)

admission-result : OneKnown admission.Post
    (λ κs args ((right, h, ss, a) : Bool × Heading × List Segment × Addition).
    Beside args.0.now h ss args.1.0.judged × Goes h ss (new_urls h a) args.1.0.target × AskedBy a (asked_saying right args.1.1.0))
admission-result κs args (right, h, ss, a) (beside, goes, asked) x y after after' p q =
    number-told x y (p right h ss a beside goes asked ∙ sym (q right h ss a beside goes asked))

is-text-result : OneResult is-text.Post
is-text-result κs args x y after after' p q = p ∙ sym q

texts_of-result : OneResult texts-of.Post
texts_of-result κs args x y after after' p q = p ∙ sym q
