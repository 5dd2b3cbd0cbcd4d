-- From tables of layers to plans; and the laws that the planner's loops rest on.
pub mod PlannerLaws
pub mod LaidLaws
pub mod SearchLaws
