-- Document 01, "Framing", and document 02, [7] and [8]: the types that are known, with their containers and how many of each,
-- in one table.
use Rattle.std.specs.Prelude.{ℕ, Bool, true, false, ◌&&◌, List, [], ◌∷◌, length, get_or, leb, eqb}
use Rattle.boxes.specs.Framing.{Box}
use Rattle.boxes.specs.declared.kinds.Kind.{Kind}
use Rattle.boxes.specs.declared.kinds.Rule.{Rule}
use Rattle.boxes.specs.declared.kinds.Container.{Container}
use Rattle.boxes.specs.declared.kinds.Container.TheVariants.{File, Pfil, Pseg, Fidx, Bidx}
use Rattle.boxes.specs.declared.kinds.Count.{Count}
use Rattle.boxes.specs.declared.kinds.Count.TheVariants.{One, OneOrMore, AtMostOne, Any}

abbrev pub ftyp : Kind
ftyp = record { code = 0x66747970 }

abbrev pub pfil : Kind
pfil = record { code = 0x7066696c }

abbrev pub pfhd : Kind
pfhd = record { code = 0x70666864 }

abbrev pub surl : Kind
surl = record { code = 0x7375726c }

abbrev pub pseg : Kind
pseg = record { code = 0x70736567 }

abbrev pub pshd : Kind
pshd = record { code = 0x70736864 }

abbrev pub ploc : Kind
ploc = record { code = 0x706c6f63 }

abbrev pub pdat : Kind
pdat = record { code = 0x70646174 }

abbrev pub fidx : Kind
fidx = record { code = 0x66696478 }

abbrev pub bidx : Kind
bidx = record { code = 0x62696478 }

abbrev pub frpa : Kind
frpa = record { code = 0x66727061 }

-- a row of the table: a kind, a container that it stands in, and how many of it that holds
abbrev pub rule : Kind → Container → Count → Rule
rule k c count = record { kind = k; container = c; count = count }

abbrev pub rules : List Rule
rules =
    rule ftyp File One
    ∷ rule pfil File One
    ∷ rule pfhd Pfil One
    ∷ rule surl Pfil Any
    ∷ rule surl Pseg Any
    ∷ rule pseg File OneOrMore
    ∷ rule pshd Pseg One
    ∷ rule ploc Pseg One
    ∷ rule pdat File Any
    ∷ rule fidx Pfil AtMostOne
    ∷ rule fidx Pseg AtMostOne
    ∷ rule bidx Fidx Any
    ∷ rule bidx Bidx Any
    ∷ rule frpa Bidx AtMostOne
    ∷ []

-- whether a box is of a kind
unfoldable pub is : Kind → Box → Bool
is k b = eqb b.kind k.code

-- the boxes of a kind, in their order
unfoldable pub those : Kind → List Box → List Box
those k [] = []
those k (b ∷ bs) = elim (is k b) [ true ↦ b ∷ those k bs | false ↦ those k bs ]

-- whether so many keep a count rule
unfoldable pub keeps : Count → ℕ → Bool
keeps One n = eqb n 1
keeps OneOrMore n = leb 1 n
keeps AtMostOne n = leb n 1
keeps Any n = true

-- the containers by number, to tell them apart
abbrev pub container_no : Container → ℕ
container_no File = 0
container_no Pfil = 1
container_no Pseg = 2
container_no Fidx = 3
container_no Bidx = 4

-- whether a row is that of a kind in a container
abbrev pub is_row : Container → Kind → Rule → Bool
is_row c k r = eqb r.kind.code k.code && eqb (container_no r.container) (container_no c)

-- the count rule that a table has of a kind in a container: that of its row; without a row there it has none, and any
-- number keeps that
abbrev pub rule_in : List Rule → Container → Kind → Count
rule_in [] c k = Any
rule_in (r ∷ rs) c k = elim (is_row c k r) [ true ↦ r.count | false ↦ rule_in rs c k ]

-- whether so many of a kind keep the rule of the table in a container
unfoldable pub right_count : Container → Kind → ℕ → Bool
right_count c k n = keeps (rule_in rules c k) n

-- whether the boxes of a container keep its rule of a kind
unfoldable pub right : Container → Kind → List Box → Bool
right c k bs = right_count c k (length (those k bs))

-- what stands past the end of a list of boxes
abbrev pub no_box : Box
no_box = record { kind = 0; at = 0; user = 0; body = 0; end = 0 }

-- the box of that number in its container, counted from 0; past the last one a box of nothing
unfoldable pub box_at : ℕ → List Box → Box
box_at n bs = get_or bs n no_box

-- the first of a kind
unfoldable pub first_of : Kind → List Box → Box
first_of k bs = box_at 0 (those k bs)
