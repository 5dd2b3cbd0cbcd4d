-- Names and likeness, in the order of docs/RULES.md, "Names and comparison".
pub mod Names
pub mod Likeness
pub mod Meaning
