-- The demands as theorems, and the laws that lead to them.
pub mod ReasonLaws
pub mod DemandLaws
pub mod SaveLaws
pub mod PriceLaws
pub mod MoveLaws
pub mod FairLaws
pub mod Demands
pub mod Saving
pub mod Bounds
pub mod Naming
pub mod Pricing
pub mod Moving
pub mod Fairs
pub mod Promises
