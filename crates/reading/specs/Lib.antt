-- Reading items, in the order of docs/RULES.md: the reasons, what reading gives, the items; then what the types of the code mean.
pub mod Reasons
pub mod Got
pub mod Items
pub mod Meaning
