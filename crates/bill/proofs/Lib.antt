-- What is proved of the call.
pub mod PriceLaws
