-- What a text with escapes begins with, as it is read.
use Rattle.std.specs.Prelude.{ℕ, ◌<◌, Bool, [], length, Some, None}
use Rattle.mk_filemon.specs.Escapes.{Part, part_at, with_byte, at_end}
use Rattle.mk_filemon.specs.declared.escape.Unit.{Unit as Piece}
use Rattle.mk_filemon.specs.declared.escape.Unit.TheVariants.{Byte, Close, End, Bad}

abbrev pub after_unit : Bool → Piece → Part
after_unit quoted (Byte byte rest) = with_byte byte (part_at quoted rest.now)
after_unit quoted (Close rest) = Some ([], rest.now)
after_unit quoted End = at_end quoted
after_unit quoted Bad = None

-- what follows a byte is shorter than the text
abbrev pub shrinks : Piece → ℕ → Type 0
shrinks (Byte byte rest) len = length rest.now < len
shrinks (Close rest) len = Unit {0}
shrinks End len = Unit {0}
shrinks Bad len = Unit {0}
