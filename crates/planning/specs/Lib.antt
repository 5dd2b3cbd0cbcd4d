-- Rounds and plans; the layers of the planning graph; working back from a goal; then what the code's types mean.
pub mod Rounds
pub mod Layers
pub mod Back
pub mod Meaning
