pub mod Outline
pub mod Totals
