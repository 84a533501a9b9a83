-- Laws of a list of segments: supply, the described length, the lists, serving and asking, and its sources.
pub mod AgreementLaws
pub mod AlikeLaws
pub mod AskedLaws
pub mod DescribedLaws
pub mod EdgeLaws
pub mod KnownLaws
pub mod ListingLaws
pub mod MappedLaws
pub mod NamingLaws
pub mod RangeLaws
pub mod RunLaws
pub mod SameLaws
pub mod SequenceLaws
pub mod ServingLaws
pub mod SourceLaws
pub mod StretchLaws
pub mod SupplyLaws
