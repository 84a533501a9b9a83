pub mod ClassLaws
pub mod RangeLaws
pub mod SweepLaws
pub mod NameLaws
pub mod Determined
