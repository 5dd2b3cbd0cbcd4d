-- The laws that the text rests on.
pub mod TextLaws
