use Rattle.std.proofs.Common.{◌≡◌, [], drop, take}
use Rattle.mk_export.specs.Names.{names_of}
use Rattle.mk_makefile.specs.Moments.{moment_of}
use Rattle.mk_makefile.specs.Values.{all_exported}
use Rattle.mk_reader.specs.Ties.{outer}
use Rattle.mk_reader.proofs.StepLemmas.{Left}
use Rattle.mk_reader.proofs.reader.Reader.all_exported.Given as goal

-- the values of the names that are left are to be taken
abbrev pub invariant-loop-name : goal.invariant-loop-name
invariant-loop-name g l =
    let world = g.W.World in
    let sink = g.S.Sink in record {
      left : Left (outer world.meaning world.history world.faults world.runs sink.held sink.faults)
          l.initial.self l.self
          (λ answers. all_exported answers l.pairs (drop l.name-index l.names)
          (moment_of l.self.state.now l.self.order.now))
          (λ answers. all_exported answers [] l.names
          (moment_of l.initial.self.state.now l.initial.self.order.now));
      named : names_of l.pairs ≡ take l.name-index l.names;
    }
