-- The laws that the open calls are proved with.
pub mod CallLaws
pub mod ToldLaws
pub mod ChoiceLaws
pub mod OfferLaws
pub mod FittingLaws
pub mod NameLaws
pub mod SaveLaws
