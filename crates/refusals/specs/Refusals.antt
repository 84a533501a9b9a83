-- Document 01, "Refusal numbers and their order": the number of each refusal.
use Rattle.std.specs.Prelude.{ℕ}
use Rattle.refusals.specs.declared.Refusal.{Refusal}
use Rattle.refusals.specs.declared.Refusal.TheVariants.{FileTooLong, HeaderCut, SizeZero, SizeUnderHeader, BoxPastEnd, TooManyBoxes, FtypWrong, BrandMissing, PfilWrong, PfhdWrong, SurlWrong, NoSegment, TooManySegments, PshdWrong, PlocNotSingle, SegmentSurlWrong, PlocWrong, WidthWrong, DataElsewhere, ReservedBit, TooManyChunks, SourceTooLong, OutsideData, SizesDiffer, TableTooShort, InputTooLong, LengthOverBuffer, ChunkListWrong, DataWrong, BufferTooShort, ZeroInText, NotWholeBoxes, IndexWrong, NinthLevel, IndexesInBoth, EndUnknown, TooManySources, NoUrl}

-- which number it has in the table
abbrev pub refusal_no : Refusal → ℕ
refusal_no FileTooLong = 1
refusal_no HeaderCut = 2
refusal_no SizeZero = 3
refusal_no SizeUnderHeader = 4
refusal_no BoxPastEnd = 5
refusal_no TooManyBoxes = 6
refusal_no FtypWrong = 7
refusal_no BrandMissing = 8
refusal_no PfilWrong = 9
refusal_no PfhdWrong = 10
refusal_no SurlWrong = 11
refusal_no NoSegment = 12
refusal_no TooManySegments = 13
refusal_no PshdWrong = 14
refusal_no PlocNotSingle = 15
refusal_no SegmentSurlWrong = 16
refusal_no PlocWrong = 17
refusal_no WidthWrong = 18
refusal_no DataElsewhere = 19
refusal_no ReservedBit = 20
refusal_no TooManyChunks = 22
refusal_no SourceTooLong = 23
refusal_no OutsideData = 24
refusal_no SizesDiffer = 25
refusal_no TableTooShort = 26
refusal_no InputTooLong = 27
refusal_no LengthOverBuffer = 30
refusal_no ChunkListWrong = 31
refusal_no DataWrong = 32
refusal_no BufferTooShort = 33
refusal_no ZeroInText = 34
refusal_no NotWholeBoxes = 35
refusal_no IndexWrong = 36
refusal_no NinthLevel = 37
refusal_no IndexesInBoth = 38
refusal_no EndUnknown = 39
refusal_no TooManySources = 40
refusal_no NoUrl = 41
