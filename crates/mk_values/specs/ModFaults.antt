-- The faults of modifiers of words, as faults of an evaluation.
use Rattle.std.specs.Prelude.{Result, Ok, Err}
use Rattle.mk_mods.specs.State.{State}
use Rattle.mk_pieces.specs.declared.fault.ModFault.{ModFault}
use Rattle.mk_pieces.specs.declared.fault.ModFault.TheVariants as of_mods
use Rattle.mk_values.specs.declared.fault.ExpandFault.{ExpandFault}
use Rattle.mk_values.specs.declared.fault.ExpandFault.TheVariants.{TooLong, BadPlace, NoMemory}

abbrev pub of_mod : ModFault → ExpandFault
of_mod of_mods.TooLong = TooLong
of_mod of_mods.BadPlace = BadPlace
of_mod of_mods.NoMemory = NoMemory

abbrev pub with_fault : Result State ModFault → Result State ExpandFault
with_fault (Ok state) = Ok state
with_fault (Err fault) = Err (of_mod fault)
