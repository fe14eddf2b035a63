pub mod CheckLemmas
pub mod CommentLemmas
pub mod GroupLemmas
pub mod PhysicalLemmas
pub mod PieceLemmas
pub mod ReadLemmas
mod Rows
