-- Document 01, "In one `pseg`: framing, 14, 15, 16, then 17 (head), 18, 19", and document 02, [8], 41 after 16: the
-- parts of a segment's box, and what is told of them.
use Rattle.std.specs.Prelude.{ℕ, Bool, ◌||◌, List, ltb, length}
use Rattle.boxes.specs.Answer.{Answer, given, ◌>>=◌, hold}
use Rattle.boxes.specs.Framing.{Box, boxes_in, box_of}
use Rattle.boxes.specs.Kinds.{pshd, ploc, surl, right, those, first_of}
use Rattle.boxes.specs.declared.framing.Framed.{Framed}
use Rattle.boxes.specs.declared.kinds.Container.TheVariants.{Pseg}
use Rattle.partial.specs.Entries.{Ploc, ploc_head}
use Rattle.partial.specs.Heading.{surl_right}
use Rattle.partial.specs.Index.{has_index}
use Rattle.partial.specs.Reading.{pshd_right, pshd_fields}
use Rattle.fields.specs.Fields.{values_of}
use Rattle.fields.specs.Location.{ploc_of}
use Rattle.fields.specs.declared.fields.Fields.{Fields}
use Rattle.gathering.specs.declared.parts.Parts.{Parts as CodeParts}

-- its `pshd`, the fields of that, the head of its `ploc`, and whether it has an index and a list of URLs of its own
pub record Parts : Type 0 where
  pub header : Box
  pub fields : Fields
  pub location : Ploc
  pub indexed : Bool
  pub listed : Bool

-- 14: the `pshd` among the boxes of a segment, with its fields
unfoldable pub header_in : List ℕ → List Box → Answer (Box × Fields)
header_in f inner = do
  _ ← hold 14 (pshd_right f inner)
  given (first_of pshd inner, values_of (pshd_fields f (first_of pshd inner)))

-- whether boxes have a `surl`
abbrev pub has_surl : List Box → Bool
has_surl bs = ltb 0 (length (those surl bs))

-- 16 and 41 of the boxes of a segment, in a file whose `pfil` has a list or not
unfoldable pub list_held : List ℕ → Bool → List Box → Answer (Unit {0})
list_held f in_pfil bs = do
  _ ← hold 16 (surl_right f bs)
  hold 41 (has_surl bs || in_pfil)

-- by whether `pfil` has a list
unfoldable pub parts_in : List ℕ → Bool → Box → Answer Parts
parts_in f in_pfil b = do
  inner ← boxes_in Pseg f b.body b.end
  header ← header_in f inner
  _ ← hold 15 (right Pseg ploc inner)
  _ ← hold 16 (surl_right f inner)
  _ ← hold 41 (has_surl inner || in_pfil)
  l ← ploc_head f (first_of ploc inner)
  given (record { header = header.0; fields = header.1; location = l; indexed = has_index inner; listed = has_surl inner })

-- what a header that was read says, with its fields
abbrev pub pshd_of : Framed × Fields → Box × Fields
pshd_of x = (box_of x.0, x.1)

-- what parts that were read say
abbrev pub parts_of : CodeParts → Parts
parts_of p = record { header = box_of p.header; fields = p.fields; location = ploc_of p.location; indexed = p.indexed; listed = p.listed }
