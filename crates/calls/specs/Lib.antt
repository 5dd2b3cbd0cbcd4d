-- What the open calls answer, in the order of docs/RULES.md.
pub mod Partition
pub mod Pass
pub mod Choose
pub mod Offer
pub mod Layers
pub mod Plan
pub mod Name
pub mod Find
pub mod Compare
pub mod Save
