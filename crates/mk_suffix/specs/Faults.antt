-- Faults of the directories, as they are answered.
use Rattle.mk_dirs.specs.declared.fault.DirFault.{DirFault}
use Rattle.mk_dirs.specs.declared.fault.DirFault.TheVariants as dirs
use Rattle.mk_suffix.specs.declared.fault.SuffixFault.{SuffixFault}
use Rattle.mk_suffix.specs.declared.fault.SuffixFault.TheVariants.{Failed, NoMemory}

abbrev pub of_dirs : DirFault → SuffixFault
of_dirs dirs.Failed = Failed
of_dirs dirs.NoMemory = NoMemory
