pub mod EndLemmas
pub mod GrowLemmas
pub mod LineLemmas
pub mod LooksLemmas
pub mod NodeLemmas
pub mod ReportLemmas
pub mod TruthLemmas
