-- The laws that the C interface rests on.
pub mod ReturnedLaws
