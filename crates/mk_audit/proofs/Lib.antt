mod AskedLemmas
mod LawLemmas
mod ReasonLemmas
mod SeenLemmas
mod TurnLemmas
