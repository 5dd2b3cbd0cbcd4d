-- The laws of reading items, and of the reasons' numbers.
pub mod StepLaws
pub mod Reasons
