pub mod AllowedLaws
pub mod Determined
pub mod EntryLaws
pub mod FieldsLaws
pub mod LocationLaws
pub mod StateLaws
pub mod ToldLaws
