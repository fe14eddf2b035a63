pub mod BesideLemmas
pub mod CleanLemmas
pub mod JobLemmas
pub mod KeptLemmas
pub mod RepeatedLemmas
pub mod StepLemmas
pub mod TestedLemmas
pub mod WalkLemmas
