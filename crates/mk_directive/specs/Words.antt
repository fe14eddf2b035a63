-- The words of a text, and a text without the blanks that begin it.
pub use Rattle.mk_bytes.specs.Texts.{without_blanks_before as without_blanks}
pub use Rattle.mk_bytes.specs.Words.{words_of}
