-- Document 01, refusals 1 to 11, and document 02, [8], for 11: the file's boxes, `ftyp` and `pfil`. Boxes of other kinds are passed over.
use Rattle.std.specs.Prelude.{ℕ, zero, suc, ◌+◌, ◌-◌, ◌/◌, ◌%◌, Bool, not, ◌&&◌, ◌||◌, List, [], ◌∷◌, map, length, get_or, take, drop, leb, eqb}
use Rattle.boxes.specs.Answer.{Answer, given, ◌>>=◌, hold}
use Rattle.numerals.specs.Numbers.{number}
use Rattle.boxes.specs.Framing.{Box, boxes_in}
use Rattle.boxes.specs.Kinds.{ftyp, pfil, pfhd, surl, is, right, those, box_at, first_of}
use Rattle.boxes.specs.declared.kinds.Container.TheVariants.{File, Pfil}
use Rattle.partial.specs.Limits.{file_limit}
use Rattle.partial.specs.Sequences.{some_of, all_of, stretch}

-- a part of the file, and its bytes
pub record Part : Type 0 where
  pub place : ℕ
  pub size : ℕ

unfoldable pub bytes_in : List ℕ → Part → List ℕ
bytes_in f part = take part.size (drop part.place f)

-- 7: `ftyp` is first, its body at least 8 bytes and a multiple of 4, and there is no second
unfoldable pub ftyp_right : List Box → Bool
ftyp_right bs =
    let b = box_at 0 bs in
    is ftyp b && leb (b.body + 8) b.end && eqb ((b.end - b.body) % 4) 0 && right File ftyp bs

-- so many brands from a place on, four bytes each
unfoldable pub brands_from : List ℕ → ℕ → ℕ → List ℕ
brands_from f zero at = []
brands_from f (suc more) at = number f at 4 ∷ brands_from f more (at + 4)

-- the compatible brands: after the major brand and the minor version, to the end
unfoldable pub brands : List ℕ → Box → List ℕ
brands f b = brands_from f ((b.end - b.body - 8) / 4) (b.body + 8)

-- whether some compatible brand of a file with these boxes is that one
unfoldable pub branded : ℕ → List ℕ → List Box → Bool
branded brand f bs = some_of (eqb brand) (brands f (box_at 0 bs))

-- the brand of partial files, and that of mixed ones
abbrev pub paff : ℕ
paff = 0x70616666

abbrev pub pmff : ℕ
pmff = 0x706d6666

-- 8: one of the two is there
unfoldable pub brand_right : List ℕ → List Box → Bool
brand_right f bs = branded paff f bs || branded pmff f bs

-- 9: `pfil` is second, and there is no other
unfoldable pub pfil_right : List Box → Bool
pfil_right bs = is pfil (box_at 1 bs) && right File pfil bs

-- `pfhd`: version 0, flags, nothing more
unfoldable pub pfhd_formed : List ℕ → Box → Bool
pfhd_formed f b = eqb (b.body + 4) b.end && eqb (number f b.body 1) 0

-- 10: exactly one `pfhd`, and it is well-formed
unfoldable pub pfhd_right : List ℕ → List Box → Bool
pfhd_right f bs = right Pfil pfhd bs && pfhd_formed f (first_of pfhd bs)

-- the text from a place up to the first zero byte before an end, or up to that end
unfoldable pub text : List ℕ → ℕ → ℕ → Part
text f at end = record { place = at; size = stretch (λ i. not (eqb (get_or f i 0) 0)) (end - at) at }

-- the URL of a `surl`, after its version and flags
unfoldable pub url : List ℕ → Box → Part
url f b = text f (b.body + 4) b.end

-- its MIME text, after the zero byte that closes the URL
unfoldable pub mime : List ℕ → Box → Part
mime f b = text f ((url f b).place + (url f b).size + 1) b.end

-- `surl`: version 0, flags 0, two strings each closed by a zero byte, nothing after
unfoldable pub surl_formed : List ℕ → Box → Bool
surl_formed f b = leb (b.body + 4) b.end && eqb (number f b.body 4) 0 && eqb ((mime f b).place + (mime f b).size + 1) b.end

-- 11, and 16 in a segment: each `surl` of a container is well-formed; there may be none
unfoldable pub surl_right : List ℕ → List Box → Bool
surl_right f bs = all_of (surl_formed f) (those surl bs)

-- the URLs of the `surl` boxes of a container, in their order
unfoldable pub urls_in : List ℕ → List Box → List (List ℕ)
urls_in f bs = map (λ b. bytes_in f (url f b)) (those surl bs)

-- the boxes of the file, those of its `pfil` and the URLs there; whether the file is mixed, whatever other brands it has
pub record Heading : Type 0 where
  pub boxes : List Box
  pub inner : List Box
  pub urls : List (List ℕ)
  pub mixed : Bool

-- stages 1 to 6: the file's boxes
unfoldable pub file_boxes : List ℕ → Answer (List Box)
file_boxes f = do
  _ ← hold 1 (leb (length f) file_limit)
  boxes_in File f 0 (length f)

-- stages 7 to 11 of a file with these boxes, the framing of `pfil` before 10
unfoldable pub judged : List ℕ → List Box → Answer Heading
judged f boxes = do
  _ ← hold 7 (ftyp_right boxes)
  _ ← hold 8 (brand_right f boxes)
  _ ← hold 9 (pfil_right boxes)
  inner ← boxes_in Pfil f (box_at 1 boxes).body (box_at 1 boxes).end
  _ ← hold 10 (pfhd_right f inner)
  _ ← hold 11 (surl_right f inner)
  given (record { boxes = boxes; inner = inner; urls = urls_in f inner; mixed = branded pmff f boxes })

-- stages 1 to 11
unfoldable pub heading : List ℕ → Answer Heading
heading f = do
  boxes ← file_boxes f
  judged f boxes
