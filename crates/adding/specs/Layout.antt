-- Document 01, "Append": how the boxes are laid out that it adds. A size past the file limit counts as one more than
-- that.
use Rattle.std.specs.Prelude.{ℕ, ◌+◌, min, Bool, List, ◌≡◌, length}
use Rattle.additions.specs.Addition.{Addition, Item, items}
use Rattle.additions.specs.Append.{placed, length_size_of, offset_size_of, ploc_body, version_for, pseg_body, added}
use Rattle.partial.specs.Limits.{file_limit}
use Rattle.partial.specs.Reading.{offset_width_of}
use Rattle.adding.specs.declared.layout.Layout.{Layout}

-- of a `pshd`, by the source offset
pub record PshdLaid (offset : ℕ) (l : Layout) : Type 0 where
  pub width : l.offset_width ≡ offset_width_of (version_for offset)
  pub body : l.pshd ≡ 12 + offset_width_of (version_for offset)

-- of a `ploc`, by the items and whether the good ones go outside
pub record PlocLaid (outside : Bool) (is : List Item) (l : Layout) : Type 0 where
  pub sizes : l.length_size ≡ length_size_of (placed outside is)
  pub offsets : l.offset_size ≡ offset_size_of (placed outside is)
  pub body : l.ploc ≡ min (length (ploc_body (placed outside is))) (file_limit + 1)

-- of a `pseg`, which holds both and the `surl` boxes
pub record PsegLaid (a : Addition) (l : Layout) : Type 0 where
  pub pshd : PshdLaid a.source_offset l
  pub ploc : PlocLaid a.outside (items a.list) l
  pub body : l.pseg ≡ min (length (pseg_body a)) (file_limit + 1)

-- of all that is added
pub record Laid (a : Addition) (l : Layout) : Type 0 where
  pub pseg : PsegLaid a l
  pub all : l.added ≡ min (length (added a)) (file_limit + 1)
