-- The projection filter; and what the code's types mean.
pub mod Filter
pub mod Meaning
