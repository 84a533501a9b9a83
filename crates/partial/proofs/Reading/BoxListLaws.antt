-- Laws of the list of boxes: how it goes on behind a box, and what it says of a whole file and of a fault.
use Prim.Native.Nat.{ℕ, ◌≤◌}
use mathlib.Core.List.{List, ◌++◌, append_assoc, append-nil}
use mathlib.Core.Path.{◌≡◌, ap, ◌∙◌}
use borrow.Author.Tests.{le-leb, lt-leb}
use lib.ListN.{length}
use Rattle.boxes.specs.Framing.{Box, followed, Walked, walked_in, boxes_in}
use Rattle.boxes.specs.declared.kinds.Container.TheVariants.{File}
use Rattle.boxes.proofs.FaultLaws.{no-fault, fault_met, fault_stands}
use Rattle.partial.specs.Limits.{file_limit}
use Rattle.partial.specs.ReadingDemands.{BoxesPrinted}
use Rattle.partial.specs.BoxList.{each, box_line, fault_line, walk_lines, boxes_text}

-- behind a box its line, and then those of what is met behind it
pub lines-followed : (f : List ℕ) (b : Box) (w : Walked) → walk_lines f (followed b w) ≡ box_line f b ++ walk_lines f w
unfolding walk_lines each
lines-followed f b w = append_assoc (box_line f b) (each (box_line f) w.boxes) _

-- a file that is taken has the lines of the walk over it
pub text-lines : (most : ℕ) (input : List ℕ) → length input ≤ most → length input ≤ file_limit → boxes_text most input ≡ walk_lines input (walked_in File input 0 (length input))
unfolding boxes_text
text-lines most input small short = rw (boxes_text, le-leb (length input) most small, le-leb (length input) file_limit short)

pub boxes_printed : (most : ℕ) (input : List ℕ) → BoxesPrinted most input
unfolding boxes_text boxes_in walk_lines fault_line
boxes_printed most input =
    record {
      over_long = λ over. rw (boxes_text, lt-leb (length input) most over);
      over_limit = λ small over. rw (boxes_text, le-leb (length input) most small, lt-leb (length input) file_limit over);
      whole = λ bs small short e. text-lines most input small short ∙ ap (walk_lines input) (no-fault _ e) ∙ append-nil (each (box_line input) bs);
      fault = λ n small short e.
          let walk = walked_in File input 0 (length input) in
          let (at, met) = fault_met walk e in
          let stands = fault_stands File input 0 (length input) (record { at = at; number = n }) (ap (λ w. w.fault) met) in
          (walk.boxes, at, stands, text-lines most input small short ∙ ap (walk_lines input) met);
    }
