use Rattle.std.proofs.Common.{◌≡◌, ◌++◌, ℕ, List, length}
use Rattle.mk_world.specs.Sinks.{Gains}
use Rattle.mk_world.proofs.sink.write_piece.Given as goal

-- the sink has gained what stands before the rest, and no write has failed
abbrev pub invariant-loop-rest : goal.invariant-loop-rest
invariant-loop-rest g l = record {
  written : (part : List ℕ) × (l.piece ≡ part ++ l.rest)
      × Gains (g.S.Sink.held l.initial.sink) (g.S.Sink.held l.sink) part;
  faults : g.S.Sink.faults l.sink ≡ g.S.Sink.faults l.initial.sink;
}

abbrev pub decreases-loop-rest : goal.decreases-loop-rest
decreases-loop-rest g l = length l.rest
