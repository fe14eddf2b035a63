mod CycleRows
mod MacroRows
mod NodeRows
pub mod AmongLemmas
pub mod BelowLemmas
pub mod ClosedLemmas
pub mod DoneLemmas
pub mod MacroLemmas
pub mod MacroViewLemmas
pub mod MarkLemmas
pub mod NodeLemmas
pub mod NumberLemmas
pub mod PartFitLemmas
pub mod PartLemmas
pub mod PartStepLemmas
pub mod StepCountLemmas
pub mod StepLemmas
pub mod StepViewLemmas
pub mod UseLemmas
pub mod ViewLemmas
pub mod WhereLemmas
pub mod WholeLemmas
