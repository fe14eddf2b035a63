mod OrderLemmas
mod Rows
mod SoundLemmas
