pub mod AskLemmas
pub mod BaseLemmas
pub mod ChildLemmas
pub mod ChronicleLemmas
pub mod EndingLemmas
pub mod EnterLemmas
mod ListLemmas
pub mod RunningLemmas
pub mod TicketLemmas
pub mod TurnLemmas
pub mod WorldLemmas
pub mod WriteLemmas
