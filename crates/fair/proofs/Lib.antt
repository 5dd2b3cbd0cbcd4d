-- The laws that the call for a fair's orders is proved with.
pub mod EntryLaws
pub mod FairLaws
