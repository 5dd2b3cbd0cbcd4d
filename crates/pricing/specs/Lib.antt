-- Prices: the cheapest selection, its total and its tax; and the numbers that a search for it works with.
pub mod Prices
pub mod Weights
