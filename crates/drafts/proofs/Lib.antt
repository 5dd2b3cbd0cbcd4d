-- The laws that drafts are proved with.
pub mod ReadLaws
pub mod ColumnLaws
pub mod DraftLaws
