-- A changed file on a page of the code's own, before it is written out.
pub mod Draft
pub mod Meaning
