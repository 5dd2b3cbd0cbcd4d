-- What is proved of prices and weights.
pub mod AmountLaws
pub mod WeightLaws
pub mod BoundLaws
pub mod PriceLaws
pub mod MoveLaws
