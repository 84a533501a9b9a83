-- Laws of the numbers of refusals: no two refusals have the same, and none has 0.
use native.Mathlib.Omega.{arith}
use Rattle.std.proofs.Common.{◌≡◌, ℕ, refl, sym, ap, ◌∙◌, List, [], ◌∷◌}
use Rattle.std.specs.Prelude.{slice_index_or}
use Rattle.refusals.specs.Refusals.{refusal_no}
use Rattle.refusals.specs.declared.Refusal.{Refusal}
use Rattle.refusals.specs.declared.Refusal.TheVariants.{FileTooLong, HeaderCut, SizeZero, SizeUnderHeader, BoxPastEnd, TooManyBoxes, FtypWrong, BrandMissing, PfilWrong, PfhdWrong, SurlWrong, NoSegment, TooManySegments, PshdWrong, PlocNotSingle, SegmentSurlWrong, PlocWrong, WidthWrong, DataElsewhere, ReservedBit, TooManyChunks, SourceTooLong, OutsideData, SizesDiffer, TableTooShort, InputTooLong, LengthOverBuffer, ChunkListWrong, DataWrong, BufferTooShort, ZeroInText, NotWholeBoxes, IndexWrong, NinthLevel, IndexesInBoth, EndUnknown, TooManySources, NoUrl}

-- the refusals by number, with the first of all where there is none of that number
by_number : List Refusal
by_number =
    FileTooLong ∷ FileTooLong ∷ HeaderCut ∷ SizeZero ∷ SizeUnderHeader ∷ BoxPastEnd ∷ TooManyBoxes ∷ FtypWrong ∷ BrandMissing ∷ PfilWrong ∷ PfhdWrong ∷ SurlWrong ∷ NoSegment ∷ TooManySegments ∷ PshdWrong ∷ PlocNotSingle ∷ SegmentSurlWrong ∷ PlocWrong ∷ WidthWrong ∷ DataElsewhere ∷ ReservedBit ∷ FileTooLong ∷ TooManyChunks ∷ SourceTooLong ∷ OutsideData ∷ SizesDiffer ∷ TableTooShort ∷ InputTooLong ∷ FileTooLong ∷ FileTooLong ∷ LengthOverBuffer ∷ ChunkListWrong ∷ DataWrong ∷ BufferTooShort ∷ ZeroInText ∷ NotWholeBoxes ∷ IndexWrong ∷ NinthLevel ∷ IndexesInBoth ∷ EndUnknown ∷ TooManySources ∷ NoUrl ∷ []

abbrev of_number : ℕ → Refusal
of_number k = slice_index_or by_number k FileTooLong

back : (n : Refusal) → of_number (refusal_no n) ≡ n
unfolding by_number
back FileTooLong = refl
back HeaderCut = refl
back SizeZero = refl
back SizeUnderHeader = refl
back BoxPastEnd = refl
back TooManyBoxes = refl
back FtypWrong = refl
back BrandMissing = refl
back PfilWrong = refl
back PfhdWrong = refl
back SurlWrong = refl
back NoSegment = refl
back TooManySegments = refl
back PshdWrong = refl
back PlocNotSingle = refl
back SegmentSurlWrong = refl
back PlocWrong = refl
back WidthWrong = refl
back DataElsewhere = refl
back ReservedBit = refl
back TooManyChunks = refl
back SourceTooLong = refl
back OutsideData = refl
back SizesDiffer = refl
back TableTooShort = refl
back InputTooLong = refl
back LengthOverBuffer = refl
back ChunkListWrong = refl
back DataWrong = refl
back BufferTooShort = refl
back ZeroInText = refl
back NotWholeBoxes = refl
back IndexWrong = refl
back NinthLevel = refl
back IndexesInBoth = refl
back EndUnknown = refl
back TooManySources = refl
back NoUrl = refl

pub refusal_told : (n m : Refusal) → refusal_no n ≡ refusal_no m → n ≡ m
refusal_told n m e = sym (back n) ∙ ap of_number e ∙ back m

pub refusal_some : (n : Refusal) → 0 ≡ refusal_no n → ⊥
unfolding by_number
refusal_some n e =
    let first : FileTooLong ≡ n = ap of_number e ∙ back n in
    let one : 1 ≡ refusal_no n = ap refusal_no first in
    omega (arith, e, one)
