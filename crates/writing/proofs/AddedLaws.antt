-- Laws of what append adds: the parts that it is put in, and how long they are.
use Prim.Native.Nat.{ℕ, ◌+◌}
use mathlib.Core.Bool.{Bool, not}
use mathlib.Core.List.{List, [], ◌++◌, append_assoc}
use mathlib.Core.Logic.{inl, inr}
use mathlib.Core.Path.{◌≡◌, sym, ap, ◌∙◌}
use native.Mathlib.Omega.{arith}
use borrow.Author.Tests.{eqb-true, eqb-false}
use lib.Dec.{eqb}
use lib.ListN.{length, length-append}
use Rattle.additions.specs.Addition.{asks, items, size_of, surls, goes_out, goes_in, data_for}
use Rattle.additions.specs.Append.{pshd_body, pseg_body}
use Rattle.additions.specs.Append.{inside_data, outside_data, any_inside, data_box, stored, added}
use Rattle.additions.specs.declared.header.SegmentHeader.{SegmentHeader}
use Rattle.partial.proofs.Meaning.SequenceLaws.{which}
use Rattle.additions.proofs.DataLaws.{sizes_split, length_inside, length_outside}
use Rattle.outside.specs.declared.chunks.Outside.{Outside}
use Rattle.outside.proofs.ChunkLaws.{outside-bytes}
use Rattle.adding.specs.Counts.{Whole, Sorted}
use Rattle.adding.specs.Layout.{PsegLaid, Laid}
use Rattle.adding.specs.declared.counts.Counts.{Counts}
use Rattle.adding.specs.declared.layout.Layout.{Layout}
use Rattle.adding.proofs.OutsideLaws.{data_counted, inside_none, inside_some}
use Rattle.puts.specs.Boxes.{data_part, pseg_box}

-- the layout of the `pseg` does not depend on the data
pub pseg_laid : (h : SegmentHeader) (o : Bool) (list bytes texts lengths : List ℕ) {l : Layout} → Laid (asks h o list bytes texts lengths) l → PsegLaid (asks h o list [] texts lengths) l
unfolding asks surls pseg_body pshd_body
pseg_laid h o list bytes texts lengths laid = record { pshd = laid.pseg.pshd; ploc = laid.pseg.ploc; body = laid.pseg.body }

module _ (h : SegmentHeader) (o : Bool) (list bytes texts lengths : List ℕ) {c : Counts} {x : Outside} (sorted : Sorted (asks h o list bytes texts lengths) c x) where
  pub whole_of : Whole (items list) c
  unfolding asks
  whole_of = sorted.counted.items

  -- how many bytes go outside
  pub out_size : x.bytes ≡ size_of (goes_out o) (items list)
  unfolding asks outside_data
  out_size =
      ap (λ (x : Outside). x.bytes) sorted.outside
      ∙ outside-bytes o (items list) bytes
      ∙ length_outside (asks h o list bytes texts lengths) (data_counted sorted.counted)

  -- and the others go into `pdat`
  pub in_size : c.bytes ≡ length (data_for (goes_in o) (items list) bytes) + x.bytes
  unfolding asks inside_data
  in_size =
      omega (
        arith,
        out_size,
        sorted.counted.items.bytes,
        sizes_split o (items list),
        length_inside (asks h o list bytes texts lengths) (data_counted sorted.counted),
      )

  -- there is a `pdat` where more chunks are present than go outside
  there_inside : not (eqb c.present x.chunks) ≡ any_inside (asks h o list bytes texts lengths)
  there_inside =
      elim (which (eqb c.present x.chunks)) [
        | inl e ↦ ap not e ∙ sym (inside_none sorted (eqb-true c.present x.chunks e))
        | inr e ↦ ap not e ∙ sym (inside_some sorted (eqb-false c.present x.chunks e))
      ]

  abbrev pub there_is : Bool
  there_is = not (eqb c.present x.chunks)

  pub added_parts : data_part o there_is list bytes ++ (data_for (goes_out o) (items list) bytes ++ pseg_box h o list texts lengths) ≡ added (asks h o list bytes texts lengths)
  unfolding added stored data_box inside_data outside_data asks surls pseg_body pshd_body
  added_parts =
      ap (λ (there : Bool). data_part o there list bytes ++ (data_for (goes_out o) (items list) bytes ++ pseg_box h o list texts lengths)) there_inside
      ∙ sym (append_assoc (data_box (asks h o list bytes texts lengths)) (data_for (goes_out o) (items list) bytes) (pseg_box h o list texts lengths))

  pub added_long : length (added (asks h o list bytes texts lengths))
      ≡ length (data_part o there_is list bytes) + (length (data_for (goes_out o) (items list) bytes) + length (pseg_box h o list texts lengths))
  added_long =
      sym (ap length added_parts)
      ∙ length-append (data_part o there_is list bytes) _
      ∙ ap (λ (n : ℕ). length (data_part o there_is list bytes) + n) (length-append (data_for (goes_out o) (items list) bytes) (pseg_box h o list texts lengths))
