-- What the call that prices answers.
pub mod Price
