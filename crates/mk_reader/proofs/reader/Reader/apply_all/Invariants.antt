use Rattle.std.proofs.Common.{drop}
use Rattle.mk_makefile.specs.Moments.{moment_of}
use Rattle.mk_makefile.specs.Orders.{all_set}
use Rattle.mk_reader.specs.Ties.{outer}
use Rattle.mk_reader.proofs.StepLemmas.{Left}
use Rattle.mk_reader.proofs.reader.Reader.apply_all.Given as goal

-- the assignments that are left are to be applied
abbrev pub invariant-loop-set : goal.invariant-loop-set
invariant-loop-set g l =
    let world = g.W.World in
    let sink = g.S.Sink in
    Left (outer world.meaning world.history world.faults world.runs sink.held sink.faults)
    l.initial.self l.self
    (λ answers. all_set answers (drop l.set-index l.sets)
    (moment_of l.self.state.now l.self.order.now))
    (λ answers. all_set answers l.sets
    (moment_of l.initial.self.state.now l.initial.self.order.now))
