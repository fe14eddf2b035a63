-- How many bytes of a buffer were filled from a pipe.
use Rattle.std.specs.Prelude.{ℕ}
use Rattle.mk_realworld.specs.declared.output.Piece.{Piece}
use Rattle.mk_realworld.specs.declared.output.Piece.TheVariants.{Bytes, Nothing, End}

abbrev pub bytes_of : Piece → ℕ
bytes_of (Bytes count) = count
bytes_of Nothing = 0
bytes_of End = 0
