pub mod JudgedLaws
pub mod StagedLaws
pub mod PartLaws
pub mod TableLaws
pub mod TextLaws
pub mod Determined
