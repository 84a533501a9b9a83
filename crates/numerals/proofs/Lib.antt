pub mod Determined
pub mod NumberLaws
pub mod OffsetLaws
pub mod StoredLaws
pub mod WidthLaws
