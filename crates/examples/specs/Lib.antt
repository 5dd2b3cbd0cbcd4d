-- The examples that docs/RULES.md marks with a star: their files, and the table.
pub mod Files
pub mod Table
