-- What calls answer, and the tests of what a caller lends.
pub mod Answers
pub mod Tests
pub mod Meaning
