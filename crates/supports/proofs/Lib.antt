-- The laws that the questions of one round layer rest on.
pub mod LayerLaws
