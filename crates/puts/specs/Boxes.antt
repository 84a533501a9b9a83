-- Document 01, "Begin" and "Append": the boxes that they write, one by one.
use Rattle.std.specs.Prelude.{ℕ, Bool, true, false, List, [], ◌++◌}
use Rattle.numerals.specs.Numbers.{bytes_of}
use Rattle.boxes.specs.Framing.{boxed}
use Rattle.boxes.specs.Kinds.{ftyp, pfil, pfhd, pseg, pshd, ploc, pdat}
use Rattle.additions.specs.Addition.{asks, Item, items, goes_out, goes_in, data_for}
use Rattle.additions.specs.Append.{placed, ploc_body, pshd_body, pseg_body}
use Rattle.additions.specs.Begin.{version_and_flags, brand_code, surl_box}
use Rattle.additions.specs.declared.header.SegmentHeader.{SegmentHeader}
use Rattle.partial.specs.declared.brand.Brand.{Brand}

-- ---- what a file begins with

-- the brand as major, minor 0, the brand as the one compatible
abbrev pub ftyp_box : Brand → List ℕ
ftyp_box brand = boxed ftyp.code (bytes_of 4 (brand_code brand) ++ (bytes_of 4 0 ++ bytes_of 4 (brand_code brand)))

-- flags 0
abbrev pub pfhd_box : List ℕ
pfhd_box = boxed pfhd.code version_and_flags

-- holding `pfhd` and one `surl`
abbrev pub pfil_box : List ℕ → List ℕ → List ℕ
pfil_box url mime = boxed pfil.code (pfhd_box ++ surl_box url mime)

-- ---- what is added to it

-- the items whose data goes outside, or else those whose data goes into `pdat`
abbrev pub chosen : Bool → Bool → Item → Bool
chosen o true = goes_out o
chosen o false = goes_in o

-- the data that goes into `pdat`, in one where there is one
abbrev pub data_part : Bool → Bool → List ℕ → List ℕ → List ℕ
data_part o there list bytes = elim there [ true ↦ boxed pdat.code (data_for (goes_in o) (items list) bytes) | false ↦ [] ]

-- a `pshd` tells of the header alone
abbrev pub pshd_box : SegmentHeader → List ℕ
pshd_box header = boxed pshd.code (pshd_body (asks header false [] [] [] []))

-- a `ploc` tells of the chunk list, and of which chunks go outside
abbrev pub ploc_box : Bool → List ℕ → List ℕ
ploc_box o list = boxed ploc.code (ploc_body (placed o (items list)))

-- a `pseg` tells of both, and of the texts of its `surl` boxes with the list of their lengths
abbrev pub pseg_box : SegmentHeader → Bool → List ℕ → List ℕ → List ℕ → List ℕ
pseg_box header o list texts lengths = boxed pseg.code (pseg_body (asks header o list [] texts lengths))
