pub mod LeastLemmas
pub mod CountLemmas
pub mod DecideLemmas
pub mod StartLemmas
pub mod NextRows
