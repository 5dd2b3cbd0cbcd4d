-- What the user's demands, and what was asked for later, say of the open calls.
pub mod Demands
pub mod Saving
pub mod Pricing
pub mod Moving
pub mod Fairs
