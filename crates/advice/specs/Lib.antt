-- What advice on a job is said with.
pub mod Advice
