-- Each public call's contract determines its answer: two that it allows of the same arguments are equal. Whether a
-- container has the URLs of texts is determined where it lies in the file and its boxes are known, and the source of an
-- addition where the lists of the file are.
use Prim.Native.Nat.{◌≤◌}
use mathlib.Core.List.{List, []}
use mathlib.Core.Path.{◌≡◌, sym, ◌∙◌}
use lib.ListN.{length}
use Rattle.boxes.specs.Answer.{given}
use Rattle.boxes.specs.Bodies.{boxes_of}
use Rattle.boxes.specs.Framing.{Box}
use Rattle.numerals.proofs.Determined.{OneKnown}
use Rattle.partial.specs.Heading.{Heading}
use Rattle.partial.specs.ReadingDemands.{Numbered}
use Rattle.partial.specs.Segments.{Segment}
use Rattle.partial.specs.Sources.{source_count}
use Rattle.sources.specs.Held.{Stands, ListsHeld}
use Rattle.going.proofs.source.goes_to.Reads as Goes-to
use Rattle.going.proofs.source.has_list.Reads as has-list
use Rattle.going.proofs.source.source_for.Reads as source-for
use Rattle.going.proofs.texts.same_texts.Reads as same-texts

same_texts_result : OneKnown same-texts.Post
    (λ κs args (bs : List Box).
    (boxes_of args.0.now args.1.0 ≡ given bs) × (args.1.0.end.0 ≤ length args.0.now))
same_texts_result κs args bs (known, inside) x y after after' p q = p bs known inside ∙ sym (q bs known inside)

source_for_result : OneKnown source-for.Post
    (λ κs args ((h, ss, bs) : Heading × List Segment × List Box).
    (args.1.1.0 ≡ source_count ss) × Numbered ss × ListsHeld args.0.now h args.1.0.now ss × Stands args.0.now args.1.1.1.0 bs)
source_for_result κs args (h, ss, bs) (count, numbered, held, stands) x y after after' p q =
    p h ss bs count numbered held stands ∙ sym (q h ss bs count numbered held stands)

goes_to_result : OneKnown Goes-to.Post (λ κs args (bs : List Box). Stands args.0.now args.1.0 bs)
goes_to_result κs args bs stands x y after after' p q = p bs stands ∙ sym (q bs stands)

has_list_result : OneKnown has-list.Post (λ κs args (bs : List Box). Stands args.0.now args.1.0 bs)
has_list_result κs args bs stands x y after after' p q = p [] bs stands ∙ sym (q [] bs stands)
