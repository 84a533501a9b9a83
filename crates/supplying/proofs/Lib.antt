pub mod Determined
pub mod RowsLaws
pub mod RunsLaws
