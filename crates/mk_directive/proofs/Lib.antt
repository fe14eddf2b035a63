mod InLemmas
mod Rows
