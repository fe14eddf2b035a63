use Rattle.std.proofs.Common.{drop}
use Rattle.mk_makefile.specs.Inclusions.{sought}
use Rattle.mk_makefile.specs.Moments.{moment_of}
use Rattle.mk_reader.specs.Ties.{outer}
use Rattle.mk_reader.proofs.StepLemmas.{Left}
use Rattle.mk_reader.proofs.reader.Reader.seek.Given as goal

-- the paths that are left are to be sought
abbrev pub invariant-loop-path : goal.invariant-loop-path
invariant-loop-path g l =
    let world = g.W.World in
    let sink = g.S.Sink in
    Left (outer world.meaning world.history world.faults world.runs sink.held sink.faults)
    l.initial.self l.self
    (λ answers. sought answers (drop l.path-index l.places)
    (moment_of l.self.state.now l.self.order.now))
    (λ answers. sought answers l.places
    (moment_of l.initial.self.state.now l.initial.self.order.now))
