mod AnswerLemmas
mod LookLemmas
