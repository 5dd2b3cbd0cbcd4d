-- Theorems on networks and groups.
pub mod NetworkLaws
pub mod GroupLaws
pub mod MaskLaws
pub mod LentLaws
pub mod PartitionLaws
pub mod ListedLaws
pub mod TableLaws
