pub mod AuditLemmas
pub mod BuildingLemmas
pub mod MeaningLemmas
pub mod MessageLemmas
pub mod PrintLemmas
