-- What the program does with a file, and what it prints.
pub mod Outcome
