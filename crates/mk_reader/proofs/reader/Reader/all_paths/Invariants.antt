use Rattle.std.proofs.Common.{[], drop}
use Rattle.mk_makefile.specs.Moments.{moment_of}
use Rattle.mk_makefile.specs.Wildcards.{all_paths}
use Rattle.mk_reader.specs.Ties.{outer}
use Rattle.mk_reader.proofs.StepLemmas.{Left}
use Rattle.mk_reader.proofs.reader.Reader.all_paths.Given as goal

-- the paths of the names that are left are to be taken
abbrev pub invariant-loop-name : goal.invariant-loop-name
invariant-loop-name g l =
    let world = g.W.World in
    let sink = g.S.Sink in
    Left (outer world.meaning world.history world.faults world.runs sink.held sink.faults)
    l.initial.self l.self
    (λ answers. all_paths answers l.paths (drop l.name-index l.names)
    (moment_of l.self.state.now l.self.order.now))
    (λ answers. all_paths answers [] l.names
    (moment_of l.initial.self.state.now l.initial.self.order.now))
