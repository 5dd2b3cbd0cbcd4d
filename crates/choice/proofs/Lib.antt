-- The theorems on the choice; and the laws that the search rests on.
pub mod ChoiceLaws
pub mod CoverLaws
pub mod FindLaws
pub mod FloorLaws
pub mod AmongLaws
pub mod OfferLaws
pub mod BothLaws
pub mod Theorems
