pub mod AddedLaws
pub mod AppendLaws
pub mod BeginLaws
pub mod Determined
