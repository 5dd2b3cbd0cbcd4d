-- What the planner answers, what the code's types mean, and the tables that it works on.
pub mod Planner
pub mod Meaning
pub mod Tabulated
