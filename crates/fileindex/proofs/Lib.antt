pub mod SegmentLaws
pub mod SourceRowLaws
pub mod PartLaws
pub mod HeadingLaws
pub mod PassLaws
pub mod FileLaws
pub mod Determined
