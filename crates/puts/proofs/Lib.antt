pub mod BoxLaws
pub mod CopyLaws
pub mod Determined
pub mod EntryLaws
pub mod PieceLaws
pub mod SurlLaws
