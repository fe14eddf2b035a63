pub mod AgreeLemmas
pub mod KnownLemmas
pub mod LeftLemmas
pub mod SourceLemmas
pub mod WalkLemmas
pub mod RunLemmas
pub mod FilesLemmas
