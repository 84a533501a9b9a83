-- Laws of reading: what an accepted file gives, what is put behind a file, every refusal, what is handed back and
-- printed, and the rows of tables.
pub mod AgreementReadLaws
pub mod HeadingAppendLaws
pub mod IndexGivenLaws
pub mod IndexKeptLaws
pub mod IndexServedLaws
pub mod IndexShapeLaws
pub mod IndexedLaws
pub mod IndexingLaws
pub mod KeptLaws
pub mod LieLaws
pub mod LimitLaws
pub mod NumberedLaws
pub mod OneSourceLaws
pub mod PartLaws
pub mod BoxListLaws
pub mod PrintedLaws
pub mod RaisedLaws
pub mod ReadingLaws
pub mod RefusalLaws
pub mod RowLaws
pub mod SmallLaws
pub mod TextLengthLaws
