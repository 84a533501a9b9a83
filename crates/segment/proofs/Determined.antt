-- Each public call's contract determines its answer: two that it allows of the same arguments are equal. The table of a
-- file's boxes is determined where these are known. So is a call that searches a file for a data box or for whole
-- boxes, where it is lent their table, and so is which box it names.
use Prim.Native.Nat.{◌^◌, ◌<◌}
use mathlib.Core.List.{List, []}
use mathlib.Core.Path.{◌≡◌, sym, ◌∙◌}
use lib.ListN.{length}
use Rattle.boxes.specs.Answer.{given}
use Rattle.boxes.specs.Framing.{Box, boxes_in}
use Rattle.boxes.specs.declared.kinds.Container.TheVariants.{File}
use Rattle.numerals.proofs.Determined.{OneResult, OneLeft, OneKnown}
use Rattle.partial.specs.Heading.{Heading}
use Rattle.segment.specs.Data.{Searched}
use Rattle.segment.specs.Placed.{Ready}
use Rattle.segment.specs.Tops.{Tops}
use Rattle.segment.proofs.ChunkLaws.{one_step}
use Rattle.segment.proofs.DataLaws.{one_found}
use Rattle.segment.proofs.TopsLaws.{one_table}
use Rattle.segment.proofs.chunk.Chunk.place_of.Reads as place_of
use Rattle.segment.proofs.chunk.Cursor.step.Reads as step
use Rattle.segment.proofs.data.held_at.Reads as held_at
use Rattle.segment.proofs.tops.tops_of.Reads as tops-of
use Rattle.segment.proofs.whole.whole_at.Reads as whole-at

tops_of-table : (bs : List Box)
    → OneLeft (λ κs args x after. (length args.0.now < 2 ^ 32) × Tops [] args.1.0.now × (boxes_in File args.0.now 0 (length args.0.now) ≡ given bs) × tops-of.Post κs args x after) (λ κs after. after.1.0.now)
tops_of-table bs κs args x y after after' (short, none, known, p) (_, _, _, q) = one_table (p bs short none known) (q bs short none known)

held_at_result : OneKnown held_at.Post (λ κs args (bs : List Box). Searched args.0.now args.1.1.0 bs × Tops bs args.1.0.now)
held_at_result κs args bs (known, listed) x y after after' p q = one_found bs known listed x y p q

whole_at_result : OneKnown whole-at.Post (λ κs args (bs : List Box). (boxes_in File args.0.now 0 (length args.0.now) ≡ given bs) × Tops bs args.1.0.now)
whole_at_result κs args bs (known, listed) x y after after' p q = p bs known listed ∙ sym (q bs known listed)

step_result : OneKnown step.Post (λ κs args (h : Heading). Ready args.1.0.now args.1.1.0.now args.1.1.1.0 args.0.last h)
step_result κs args h ready x y after after' p q = one_step h ready x y p q

place_of-result : OneResult place_of.Post
place_of-result κs args x y after after' p q =
    let same = p ∙ sym q in
    λ i. record { 0 = same i }
