-- The proved table.
pub mod Table
