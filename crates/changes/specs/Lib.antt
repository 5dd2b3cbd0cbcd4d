-- One change of a choice, and where its parts are in the file.
pub mod Change
pub mod Places
