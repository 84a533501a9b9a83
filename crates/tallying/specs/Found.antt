-- The first box of some, as a call finds it.
use Rattle.std.specs.Prelude.{List, [], ◌∷◌, Option, None, Some, option_map}
use Rattle.boxes.specs.Framing.{Box, box_of}
use Rattle.boxes.specs.declared.framing.Framed.{Framed}

-- the first of some boxes, if there is one
abbrev pub first_in : List Box → Option Box
first_in [] = None
first_in (b ∷ bs) = Some b

-- what a box that was found says, if one was
abbrev pub found_of : Option Framed → Option Box
found_of = option_map box_of
