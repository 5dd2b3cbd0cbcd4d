-- Mutex networks, in the order of docs/RULES.md: the network of a choice and its selections, groups, the tables of a search.
pub mod Network
pub mod Groups
pub mod Tables
pub mod Meaning
