-- What ends a build before it is over.
use Rattle.std.specs.Prelude.{Bool, true, false}
use Rattle.mk_world.specs.declared.fault.WorldFault.{WorldFault}
use Rattle.mk_world.specs.declared.fault.WorldFault.TheVariants as world
use Rattle.mk_trace.specs.declared.result.BuildResult.{BuildResult}
use Rattle.mk_trace.specs.declared.result.BuildResult.TheVariants as ended
use Rattle.mk_child.specs.declared.halt.Halt.{Halt}
use Rattle.mk_child.specs.declared.halt.Halt.TheVariants as halt

abbrev pub of_world : WorldFault → Halt
of_world world.Failed = halt.World
of_world world.NoMemory = halt.NoMemory

abbrev pub of_halt : Halt → BuildResult
of_halt halt.World = ended.World
of_halt halt.Sink = ended.Sink
of_halt halt.NoMemory = ended.NoMemory

-- only a failed write cuts off what is printed
abbrev pub is_cut_by : Halt → Bool
is_cut_by halt.World = false
is_cut_by halt.Sink = true
is_cut_by halt.NoMemory = false
