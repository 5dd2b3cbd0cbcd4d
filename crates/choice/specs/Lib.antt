-- The choice; and what the parts of the search promise each other.
pub mod Meaning
pub mod Choice
pub mod Search
