-- Plan extraction.
pub mod Extraction
