pub mod DecimalLaws
pub mod Determined
pub mod TextLaws
pub mod WritesLaws
