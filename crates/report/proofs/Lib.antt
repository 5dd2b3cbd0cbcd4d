-- The laws that the report rests on.
pub mod OutcomeLaws
