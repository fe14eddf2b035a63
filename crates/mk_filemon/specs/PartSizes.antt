-- How many lines have been counted in a part of a log.
use Rattle.std.specs.Prelude.{ℕ}
use Rattle.mk_filemon.specs.declared.part.Part.{Part}
use Rattle.mk_filemon.specs.declared.part.Part.TheVariants.{Outside, Inside, Broken}

abbrev pub lines_in : Part → ℕ
lines_in Outside = 0
lines_in (Inside count) = count
lines_in Broken = 0
