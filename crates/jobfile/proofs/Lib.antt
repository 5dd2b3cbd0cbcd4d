-- The laws of readers, and the theorems on whole files.
pub mod Lawful
pub mod ItemLaws
pub mod RecordLaws
pub mod FileLaws
pub mod Theorems
pub mod StatedLaws
pub mod ColumnLaws
pub mod StepLaws
pub mod ReadLaws
pub mod NamingLaws
pub mod ShortLaws
