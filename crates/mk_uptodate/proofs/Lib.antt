pub mod AuditedLemmas
pub mod NodeLemmas
pub mod FileLemmas
pub mod RecordedLemmas
