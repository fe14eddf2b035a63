mod KindLemmas
pub mod LineLemmas
pub mod MomentLemmas
pub mod QuestionLemmas
mod Rows
mod SemicolonLemmas
mod SignLemmas
pub mod VariableLemmas
