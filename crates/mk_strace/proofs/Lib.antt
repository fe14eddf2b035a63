pub mod FamilyLemmas
pub mod KeptLemmas
pub mod QuotedLemmas
pub mod ScanLemmas
pub mod TraceLemmas
