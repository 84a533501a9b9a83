-- How large what is kept of a file tells of a chunk may be.
use Prim.Native.Nat.{ℕ, ◌≤◌}
use mathlib.Core.Bool.{Bool, true, false}
use mathlib.Core.List.{List, [], ◌∷◌, ◌++◌}
use mathlib.Core.Path.{◌≡◌, refl}
use lib.ListN.{length, drop}
use Rattle.boxes.specs.Answer.{Answer, refused, given}
use Rattle.boxes.specs.Framing.{Box, boxes_in}
use Rattle.boxes.specs.Kinds.{pseg, is}
use Rattle.boxes.specs.declared.kinds.Container.TheVariants.{File}
use Rattle.partial.specs.Heading.{Heading}
use Rattle.partial.specs.Limits.{file_limit}
use Rattle.partial.specs.Segments.{Segment}
use Rattle.partial.proofs.Reading.SmallLaws.{AllSmall, all_append, segment_small}
use Rattle.rescue.specs.Kept.{beside, kept_with, kept_from, kept_of}
use Rattle.rescue.proofs.FateLaws.{beside_given}

module _ (limit : ℕ) (f : List ℕ) (h : Heading) (short : length f ≤ file_limit) (known : boxes_in File f 0 (length f) ≡ given h.boxes) where
  with_small : (kept : List Segment) (b : Box) → AllSmall limit kept → AllSmall limit (kept_with limit f h kept b)
  unfolding kept_with
  with_small kept b small = go (is pseg b) (beside limit f h kept b) refl
    where
      go : (t : Bool) (a : Answer Segment) → beside limit f h kept b ≡ a
          → AllSmall limit (elim t [ true ↦ elim a [ refused n ↦ kept | given s ↦ kept ++ (s ∷ []) ] | false ↦ kept ])
      go true (refused n) e = small
      go true (given s) e = all_append limit kept (s ∷ []) small (segment_small limit f h short known kept b (beside_given limit f h kept b e).1, tt)
      go false a e = small

  from_small : (kept : List Segment) (bs : List Box) → AllSmall limit kept → AllSmall limit (kept_from limit f h kept bs)
  unfolding kept_from
  from_small kept [] small = small
  from_small kept (b ∷ bs) small = from_small (kept_with limit f h kept b) bs (with_small kept b small)

  pub kept_small : AllSmall limit (kept_of limit f h)
  unfolding kept_of
  kept_small = from_small [] (drop 2 h.boxes) tt
