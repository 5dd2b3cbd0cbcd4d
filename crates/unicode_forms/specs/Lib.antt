-- Texts and when two are canonically equivalent, in the order of docs/RULES.md, "Names and comparison".
pub mod Table
pub mod Utf8
pub mod Canonical
pub mod Forms
pub mod Meaning
