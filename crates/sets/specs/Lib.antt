-- The words that every rule above is said with. They come in this order:
-- tests and ranges of numbers; lists of numbers; sets of numbers; tables of sets; the smallest number with a property; a set of articles; then what the code hands back where there may be nothing.
pub mod Ranges
pub mod Lists
pub mod Sets
pub mod Tables
pub mod First
pub mod Articles
pub mod Handed
