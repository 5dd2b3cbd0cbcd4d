-- What the C interface hands back, and its number.
pub mod Returned
pub mod Version
