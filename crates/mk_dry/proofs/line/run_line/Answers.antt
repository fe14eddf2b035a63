use Rattle.std.proofs.Common.{◌∙◌, [], ◌∷◌, true, false, append_assoc, refl, subst}
use Rattle.std.proofs.lemmas.List.{append-nil}
use Rattle.mk_world.specs.Sinks.{Gains, GainsPart}
use Rattle.std.proofs.lemmas.Result.{err_from_is_err_and}
use Rattle.mk_dry.proofs.GrowLemmas.{halted, so_far-nothing, so_far-weaken}
use Rattle.mk_dry.proofs.LineLemmas.{in-unwaited, line-ended, line-started, taken-one, was-ended}
use Rattle.mk_trace.specs.Builds.{moment}
use Rattle.mk_trace.specs.declared.event.Event.TheVariants as event
use Rattle.mk_dry.proofs.line.run_line.Goals as goal

pub returns-in_err-cmd-clause-goes : goal.returns-in_err-cmd-clause-goes
returns-in_err-cmd-clause-goes g c =
    let p = err_from_is_err_and c.from_residual.result c.from_residual.ensures.1 in
    was-ended p.0 p.1 (λ scene at. halted g.W.World.meaning scene.start p.0 scene.first _ scene.known _ at.1)

pub returns-in_err-started-clause-goes : goal.returns-in_err-started-clause-goes
returns-in_err-started-clause-goes g c =
    let p = err_from_is_err_and c.from_residual-in_err-started.result
    c.from_residual-in_err-started.ensures.1 in
    was-ended p.0 p.1 (λ scene at.
    halted g.W.World.meaning scene.start p.0 scene.first _ scene.known _
    (so_far-nothing g.W.World.meaning scene.start scene.first
    (moment (g.W.World.history c.args.world.now) (g.S.Sink.held c.args.out.now) c.args.events.now.items)
    (moment (g.W.World.history c.start_child-started.new.world) (g.S.Sink.held c.args.out.now)
    c.start_child-started.new.events.items) scene.known _ at.1 c.in_err-started.ensures.refused
    c.in_err-started.ensures.untold refl))

pub returns-in_err-ended-clause-goes : goal.returns-in_err-ended-clause-goes
returns-in_err-ended-clause-goes g c =
    let p = err_from_is_err_and c.from_residual-in_err-ended.result
    c.from_residual-in_err-ended.ensures.1 in
    was-ended p.0 p.1 (λ scene at.
    in-unwaited g.W.World.meaning scene p.0 c.args.place.number 1
    (g.W.World.history c.start_child-started.new.world) (g.W.World.history c.wait_child.new.world)
    (g.S.Sink.held c.args.out.now) c.start_child-started.new.events.items c.wait_child.new.events.items at.0.is_open
    (line-started g.W.World.meaning scene c.args.place c.args.line.now c.in_ok-cmd.cmd c.cwd.result.now
    (g.W.World.history c.args.world.now) (g.W.World.history c.start_child-started.new.world)
    (g.S.Sink.held c.args.out.now) c.args.events.now.items c.start_child-started.new.events.items c.args.made.now at.0
    c.requires.starts c.cwd.ensures.value c.in_ok-cmd.ensures at.1 c.in_ok-started.ensures.done
    c.in_ok-started.ensures.told)
    c.in_err-ended.ensures.refused c.in_err-ended.ensures.untold)

pub returns-in_err-write_all-clause-goes : goal.returns-in_err-write_all-clause-goes
returns-in_err-write_all-clause-goes g c =
    let p = err_from_is_err_and c.from_residual-in_err-write_all.result
    c.from_residual-in_err-write_all.ensures.1 in
    let ended = c.in_ok-ended.ended in
    let ticket = taken-one ended.ticket.0 1 _ _ (c.in_ok-started.ensures.held ∙ rw c.requires.alone.none refl)
    c.in_ok-ended.ensures.taken in
    let told = c.put.ensures.told ∙ rw c.in_ok-ended.ensures.told
    (append_assoc c.start_child-started.new.events.items (event.Wait ∷ []) (event.End c.args.place.node c.args.place.number ended.status ∷ [])) in
    was-ended p.0 p.1 (rw p.2 (λ scene at. (
      scene.known,
      so_far-weaken g.W.World.meaning scene.start true scene.first _ scene.known scene.known _ _
          (line-ended g.W.World.meaning scene true c.args.place c.args.line.now
          ended (g.W.World.history c.start_child-started.new.world) (g.W.World.history c.wait_child.new.world)
          (g.S.Sink.held c.args.out.now) (g.S.Sink.held c.write_all.new.sink) c.start_child-started.new.events.items
          c.put.new.events.items c.args.made.now at.0 ticket.0
          (line-started g.W.World.meaning scene c.args.place c.args.line.now c.in_ok-cmd.cmd c.cwd.result.now
          (g.W.World.history c.args.world.now) (g.W.World.history c.start_child-started.new.world)
          (g.S.Sink.held c.args.out.now) c.args.events.now.items c.start_child-started.new.events.items c.args.made.now at.0
          c.requires.starts c.cwd.ensures.value c.in_ok-cmd.ensures at.1 c.in_ok-started.ensures.done
          c.in_ok-started.ensures.told)
          (c.in_ok-ended.ensures.done c.args.place.node c.args.place.number) told
          (subst (GainsPart (g.S.Sink.held c.args.out.now) (g.S.Sink.held c.write_all.new.sink))
          (append-nil c.bytes.result.now ∙ c.bytes.ensures.value) c.in_err-write_all.ensures.cut))
          (λ tasks has. has) (λ tasks dry has is. tt),
    )))

pub returns-clause-goes : goal.returns-clause-goes
returns-clause-goes g c =
    let ended = c.in_ok-ended.ended in
    let ticket = taken-one ended.ticket.0 1 _ _ (c.in_ok-started.ensures.held ∙ rw c.requires.alone.none refl)
    c.in_ok-ended.ensures.taken in
    let told = c.put.ensures.told ∙ rw c.in_ok-ended.ensures.told
    (append_assoc c.start_child-started.new.events.items (event.Wait ∷ []) (event.End c.args.place.node c.args.place.number ended.status ∷ [])) in
    record {
      goes = λ scene at. line-ended g.W.World.meaning scene false c.args.place c.args.line.now
          ended (g.W.World.history c.start_child-started.new.world) (g.W.World.history c.wait_child.new.world)
          (g.S.Sink.held c.args.out.now) (g.S.Sink.held c.write_all.new.sink) c.start_child-started.new.events.items
          c.put.new.events.items c.args.made.now at.0 ticket.0
          (line-started g.W.World.meaning scene c.args.place c.args.line.now c.in_ok-cmd.cmd c.cwd.result.now
          (g.W.World.history c.args.world.now) (g.W.World.history c.start_child-started.new.world)
          (g.S.Sink.held c.args.out.now) c.args.events.now.items c.start_child-started.new.events.items c.args.made.now at.0
          c.requires.starts c.cwd.ensures.value c.in_ok-cmd.ensures at.1 c.in_ok-started.ensures.done
          c.in_ok-started.ensures.told)
          (c.in_ok-ended.ensures.done c.args.place.node c.args.place.number) told
          (subst (Gains (g.S.Sink.held c.args.out.now) (g.S.Sink.held c.write_all.new.sink))
          (append-nil c.bytes.result.now ∙ c.bytes.ensures.value) c.in_ok-write_all.ensures.done);
      ends = tt;
    }
