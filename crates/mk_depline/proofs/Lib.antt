mod BraceLemmas
mod GroupLemmas
mod LeftLemmas
mod NameLemmas
mod NumberLemmas
