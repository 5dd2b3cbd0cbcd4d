-- Job files, in the order of docs/RULES.md: the layouts of the kinds, the job that a file states, its reading, its writing, and which jobs
-- are valid; then what the code's types mean.
pub mod Layout
pub mod Job
pub mod Read
pub mod Write
pub mod Valid
pub mod Meaning
