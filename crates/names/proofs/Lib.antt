-- Laws of names and of arrays that are compared.
pub mod EqualLaws
pub mod SameLaws
