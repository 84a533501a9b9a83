pub mod RowLaws
pub mod PutsLaws
pub mod Determined
