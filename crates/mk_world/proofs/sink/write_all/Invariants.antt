use Rattle.std.proofs.Common.{◌≡◌, ◌++◌, ℕ, List, drop}
use Rattle.mk_world.specs.Sinks.{Gains, all_of}
use Rattle.mk_world.proofs.sink.write_all.Given as goal

-- the sink has gained the pieces so far, and no write has failed
abbrev pub invariant-loop-piece : goal.invariant-loop-piece
invariant-loop-piece g l = record {
  written : (part : List ℕ) × (all_of l.pieces ≡ part ++ all_of (drop l.piece-index l.pieces))
      × Gains (g.S.Sink.held l.initial.sink) (g.S.Sink.held l.sink) part;
  faults : g.S.Sink.faults l.sink ≡ g.S.Sink.faults l.initial.sink;
}
