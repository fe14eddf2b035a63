pub mod SoundnessLemmas
pub mod StateLemmas
pub mod TableLemmas
