-- The laws of changes.
pub mod AlterLaws
pub mod ChangeLaws
pub mod FitLaws
pub mod StopLaws
pub mod FaultLaws
pub mod LengthLaws
pub mod ByteLaws
