use Rattle.std.proofs.Common.{◌≡◌, ◌++◌, ℕ, List, drop}
use Rattle.mk_modes.specs.Explaining.{lines_of}
use Rattle.mk_world.specs.Sinks.{Gains}
use Rattle.mk_modes.proofs.explaining.print_reasons.Given as goal

-- the sink has gained the lines so far, and no write has failed
abbrev pub invariant-loop-reason : goal.invariant-loop-reason
invariant-loop-reason g l = record {
  written : (part : List ℕ) × (lines_of l.reasons ≡ part ++ lines_of (drop l.reason-index l.reasons))
      × Gains (g.S.Sink.held l.fn.out) (g.S.Sink.held l.out) part;
  faults : g.S.Sink.faults l.out ≡ g.S.Sink.faults l.fn.out;
}
