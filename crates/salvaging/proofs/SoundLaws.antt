-- Laws of a file whose framing and whose first two boxes are right: its fates are those of its boxes, as its tables tell.
use Prim.Native.Nat.{ℕ, ◌<◌, ◌≤◌}
use mathlib.Core.List.{List}
use mathlib.Core.Path.{◌≡◌}
use lib.ListN.{length}
use Rattle.boxes.specs.Kinds.{box_at}
use Rattle.partial.specs.Heading.{Heading}
use Rattle.rescue.proofs.HeadingLaws.{opened}
use Rattle.rescue.specs.Table.{told_at}
use Rattle.rescue.specs.declared.table.Fate.{Fate}
use Rattle.rescue.proofs.TableLaws.{Coded, code_at, fates_many, fated_box}
use Rattle.salvaging.specs.Tables.{fates_in, fate_at, FatesHeld, Sound}

module _ (f : List ℕ) (h : Heading) (sound : Sound f h) where
  pub two_boxes : 2 ≤ length h.boxes
  two_boxes = (opened f h sound.opens).two

  pub fates_long : length (fates_in f h) ≡ length h.boxes
  fates_long = fates_many f h two_boxes

  pub box-held : (k : ℕ) → (fate_at f h k).box ≡ box_at k h.boxes
  box-held = fated_box f h two_boxes

  -- a table tells the fate of a box
  pub code_held : {t : List Fate} → FatesHeld f h t → (k : ℕ) → k < length h.boxes → Coded (fate_at f h k).fate (told_at t k)
  code_held held k less = rw (held.each k less) (code_at f h k)
