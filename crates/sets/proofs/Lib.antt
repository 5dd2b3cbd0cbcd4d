-- The laws of the definitions, for every width. A crate above cites them by name, and looks into a definition only if no law says what it needs.
pub mod Ranges
pub mod Lists
pub mod Bits
pub mod Made
pub mod Lowest
pub mod Counts
pub mod Filled
pub mod Tables
pub mod First
pub mod Articles
pub mod Computed
