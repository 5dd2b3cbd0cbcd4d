-- The text that the program prints.
pub mod Text
pub mod Meaning
