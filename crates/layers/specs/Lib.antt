-- What the code's types mean.
pub mod Meaning
