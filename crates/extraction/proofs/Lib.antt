-- The laws that plan extraction rests on.
pub mod NogoodLaws
pub mod ExtractLaws
