pub mod AnswerLemmas
pub mod BlockLemmas
pub mod FileLemmas
pub mod GivenLemmas
pub mod OutcomeLemmas
pub mod ReadingLemmas
pub mod SameLemmas
pub mod StepLemmas
