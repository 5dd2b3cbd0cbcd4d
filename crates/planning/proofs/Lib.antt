-- Theorems on plans, layers and working back; and what a fitting file as read is known to be.
pub mod PlanLaws
pub mod WordLaws
pub mod VertexLaws
pub mod LayerLaws
pub mod BackLaws
pub mod SerialLaws
pub mod ReadLaws
