-- What the call for a fair's orders answers.
pub mod Fair
pub mod Meaning
