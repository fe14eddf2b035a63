-- How a fault of the world is answered.
use Rattle.mk_world.specs.declared.fault.WorldFault.{WorldFault}
use Rattle.mk_world.specs.declared.fault.WorldFault.TheVariants as world
use Rattle.mk_explain.specs.declared.fault.ExplainFault.{ExplainFault}
use Rattle.mk_explain.specs.declared.fault.ExplainFault.TheVariants.{Failed, NoMemory}

abbrev pub of_world : WorldFault → ExplainFault
of_world world.Failed = Failed
of_world world.NoMemory = NoMemory
