-- What is proved of the search.
pub mod LightLaws
pub mod StepLaws
pub mod PartLaws
pub mod NumberLaws
pub mod CheapestLaws
