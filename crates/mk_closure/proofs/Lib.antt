pub mod LinkLemmas
pub mod MeansLemmas
pub mod MemberLemmas
pub mod PartLemmas
pub mod WalkLemmas
pub mod NamedLemmas
pub mod NeededLemmas
