-- The laws that the list of states rests on.
pub mod StateLaws
