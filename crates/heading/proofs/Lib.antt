pub mod BrandLaws
pub mod Determined
pub mod FormLaws
pub mod FoundLaws
pub mod StageLaws
