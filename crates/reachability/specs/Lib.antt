-- What is promised of the states that steps lead to.
pub mod States
