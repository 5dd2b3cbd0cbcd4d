-- What is asked of one round layer.
pub mod Supports
