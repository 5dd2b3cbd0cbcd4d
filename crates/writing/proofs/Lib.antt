-- The laws that the writer is proved with.
pub mod PutLaws
