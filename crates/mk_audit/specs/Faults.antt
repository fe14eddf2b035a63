-- How a fault of the world is answered.
use Rattle.mk_world.specs.declared.fault.WorldFault.{WorldFault}
use Rattle.mk_world.specs.declared.fault.WorldFault.TheVariants as world
use Rattle.mk_audit.specs.declared.fault.AuditFault.{AuditFault}
use Rattle.mk_audit.specs.declared.fault.AuditFault.TheVariants.{Failed, NoMemory}

abbrev pub of_world : WorldFault → AuditFault
of_world world.Failed = Failed
of_world world.NoMemory = NoMemory
