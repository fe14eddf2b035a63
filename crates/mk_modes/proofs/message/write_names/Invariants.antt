use Rattle.std.proofs.Common.{◌≡◌, ◌++◌, ℕ, List, drop}
use Rattle.mk_modes.specs.Messages.{spaced}
use Rattle.mk_world.specs.Sinks.{Gains}
use Rattle.mk_modes.proofs.message.write_names.Given as goal

-- the sink has gained the names so far, and no write has failed
abbrev pub invariant-loop-name : goal.invariant-loop-name
invariant-loop-name g l = record {
  written : (part : List ℕ) × (spaced l.names ≡ part ++ spaced (drop l.name-index l.names))
      × Gains (g.S.Sink.held l.fn.sink) (g.S.Sink.held l.sink) part;
  faults : g.S.Sink.faults l.sink ≡ g.S.Sink.faults l.fn.sink;
}
