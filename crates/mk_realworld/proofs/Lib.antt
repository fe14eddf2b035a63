pub mod KidLemmas
pub mod KnownLemmas
mod WordLemmas
