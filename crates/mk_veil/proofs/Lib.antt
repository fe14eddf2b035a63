pub mod HiddenLemmas
pub mod NameLemmas
pub mod VeilLemmas
