-- Document 01, "Framing" and refusals 2 to 6: a box header, and the boxes of one container up to its first fault.
use Rattle.std.specs.Prelude.{ℕ, zero, suc, ◌+◌, true, false, not, List, [], ◌∷◌, ◌++◌, length, leb, eqb}
use Rattle.std.specs.Prelude.{Option, None, Some}
use Rattle.boxes.specs.Answer.{Answer, refused, given, ◌>>=◌, hold}
use Rattle.numerals.specs.Numbers.{number, bytes_of}
use Rattle.boxes.specs.declared.framing.Framed.{Framed}
use Rattle.boxes.specs.declared.kinds.Container.{Container}

-- a box: its type as a number, and the places of its first byte, of its user type, of its body and of the first byte
-- after it. The user type stands right before the body
pub record Box : Type 0 where
  pub kind : ℕ
  pub at : ℕ
  pub user : ℕ
  pub body : ℕ
  pub end : ℕ

-- the type `uuid`
abbrev pub uuid : ℕ
uuid = 0x75756964

-- how many bytes the user type has of a box of a type: sixteen of `uuid`, none of another
unfoldable pub user_size : ℕ → ℕ
user_size kind = elim (eqb kind uuid) [ true ↦ 16 | false ↦ 0 ]

-- the box at a place whose size and type take so many bytes and state that size. The user type after them counts as
-- header
unfoldable pub sized : List ℕ → ℕ → ℕ → ℕ → ℕ → Answer Box
sized s at end width size = do
  let kind = number s (at + 4) 4
  _ ← hold 4 (leb (width + user_size kind) size)
  _ ← hold 5 (leb (at + size) end)
  given (record { kind = kind; at = at; user = at + width; body = at + (width + user_size kind); end = at + size })

-- the box at a place whose 64-bit size follows its type
unfoldable pub large : List ℕ → ℕ → ℕ → Answer Box
large s at end = do
  _ ← hold 2 (leb (at + 16) end)
  sized s at end 16 (number s (at + 8) 8)

-- a 32-bit size, then the type; size 1 means that a 64-bit size follows. All containers are framed alike
unfoldable pub header : Container → List ℕ → ℕ → ℕ → Answer Box
header c s at end = do
  _ ← hold 2 (leb (at + 8) end)
  _ ← hold 3 (not (eqb (number s at 4) 0))
  elim (eqb (number s at 4) 1) [ true ↦ large s at end | false ↦ sized s at end 8 (number s at 4) ]

-- where a walk met a fault, and its number
pub record Fault : Type 0 where
  pub at : ℕ
  pub number : ℕ

-- the boxes that a walk met, and the fault, if it met one
pub record Walked : Type 0 where
  pub boxes : List Box
  pub fault : Option Fault

-- the container's end; a fault; a box, and what comes behind it
abbrev pub ended : Walked
ended = record { boxes = []; fault = None }

abbrev pub broken : ℕ → ℕ → Walked
broken at n = record { boxes = []; fault = Some (record { at = at; number = n }) }

abbrev pub followed : Box → Walked → Walked
followed b rest = record { boxes = b ∷ rest.boxes; fault = rest.fault }

-- the walk from a place to the end of its container, of which so many more boxes are allowed
unfoldable pub walked : Container → List ℕ → ℕ → ℕ → ℕ → Walked
walked c s end zero at = elim (leb end at) [ true ↦ ended | false ↦ broken at 6 ]
walked c s end (suc more) at =
    elim (leb end at) [
      | true ↦ ended
      | false ↦ elim (header c s at end) [ refused n ↦ broken at n | given b ↦ followed b (walked c s end more b.end) ]
    ]

-- the boxes of a walk that met no fault; else it is refused with the fault's number
unfoldable pub faultless : Walked → Answer (List Box)
faultless w = elim w.fault [ None ↦ given w.boxes | Some x ↦ refused x.number ]

-- the boxes from a place to the end of their container, of which so many more are allowed
unfoldable pub boxes_from : Container → List ℕ → ℕ → ℕ → ℕ → Answer (List Box)
boxes_from c s end more at = faultless (walked c s end more at)

-- boxes in one container: at most 512
unfoldable pub box_limit : ℕ
box_limit = 512

-- the walk over the container that starts and ends at these places
unfoldable pub walked_in : Container → List ℕ → ℕ → ℕ → Walked
walked_in c s start end = walked c s end box_limit start

-- its boxes, or the number of its first fault
unfoldable pub boxes_in : Container → List ℕ → ℕ → ℕ → Answer (List Box)
boxes_in c s start end = faultless (walked_in c s start end)

-- what a box that was read says
unfoldable pub box_of : Framed → Box
box_of b = record { kind = b.kind.code; at = b.at.0; user = b.user.0; body = b.body.0; end = b.end.0 }

-- a header as we write it, in the 32-bit form, has 8 bytes
unfoldable pub front_size : ℕ
front_size = 8

-- the header of a box with a body of n bytes, as we write it: its size, then its type
unfoldable pub front : ℕ → ℕ → List ℕ
front kind n = bytes_of 4 (front_size + n) ++ bytes_of 4 kind

-- a box as we write it
unfoldable pub boxed : ℕ → List ℕ → List ℕ
boxed kind body = front kind (length body) ++ body

-- that box, of another type than `uuid`, at a place and with a body of n bytes
abbrev pub boxed_at : ℕ → ℕ → ℕ → Box
boxed_at at kind n = record { kind = kind; at = at; user = at + front_size; body = at + front_size; end = at + (front_size + n) }
