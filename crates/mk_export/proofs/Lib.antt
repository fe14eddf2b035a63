pub mod ListLemmas
mod NameLemmas
