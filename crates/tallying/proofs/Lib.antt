pub mod Determined
pub mod FoundLaws
pub mod RuleLaws
