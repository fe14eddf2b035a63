-- Faults of the world, as they are answered.
use Rattle.mk_dirs.specs.declared.fault.DirFault.{DirFault}
use Rattle.mk_dirs.specs.declared.fault.DirFault.TheVariants.{Failed, NoMemory}
use Rattle.mk_world.specs.declared.fault.WorldFault.{WorldFault}
use Rattle.mk_world.specs.declared.fault.WorldFault.TheVariants as world

abbrev pub of_world : WorldFault → DirFault
of_world world.Failed = Failed
of_world world.NoMemory = NoMemory
