-- Bytes that are put into a page, and the choice that is written.
pub mod Put
pub mod Meaning
