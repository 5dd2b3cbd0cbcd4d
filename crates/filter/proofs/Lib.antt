-- The filter is sound; and the laws of a pass as loops compute it, and of the tests of what is lent to it.
pub mod FilterLaws
pub mod BoundLaws
pub mod WishLaws
pub mod PassLaws
pub mod GoalLaws
