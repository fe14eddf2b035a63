mod ConditionRows
mod Depths
pub mod FaultPlaces
pub mod Given
pub mod ReadAgain
pub mod ReadConditions
mod Refused
pub mod Turns
pub mod Views
pub mod WalkLemmas
pub mod Words
pub mod Written
pub mod WrittenConditions
